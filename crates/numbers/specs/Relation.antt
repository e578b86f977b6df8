-- Document 01, "What an element receives": the relations of the compares, in bits <2:0>; Va stands left.
use Rattle.std.specs.Prelude.{Bool, true, false, not, ◌||◌, ℕ, ◌%◌, eqb}
use Rattle.numbers.specs.Choice.{pick}

-- a relation holds or not, by whether the left is less and whether both are equal.
-- 3 and 7 are refused before any compare; here 3 never holds and 7 always, so that each relation with bit <2> is the opposite of the one without
unfoldable pub relation_holds : ℕ → Bool → Bool → Bool
relation_holds relation less equal =
    pick (eqb (relation % 8) 0) (not (less || equal))  -- greater
    (pick (eqb (relation % 8) 1) equal
    (pick (eqb (relation % 8) 2) less
    (pick (eqb (relation % 8) 3) false
    (pick (eqb (relation % 8) 4) (less || equal)
    (pick (eqb (relation % 8) 5) (not equal)
    (pick (eqb (relation % 8) 6) (not less)  -- greater or equal
    true))))))
