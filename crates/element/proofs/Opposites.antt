-- A compare, by bits <1:0> of its relation: bit <2> asks for the opposite. Assumes nothing.
use mathlib.Core.Path.{◌≡◌, refl, sym}
use mathlib.Core.Bool.{Bool, true, false, not, ◌||◌}
use Prim.Native.Nat.{ℕ, ◌/◌, ◌%◌}
use lib.Dec.{eqb}
use Rattle.numbers.specs.Choice.{pick}
use Rattle.numbers.specs.Halves.{low}
use Rattle.numbers.proofs.Relations.{opposite}
use Rattle.floating.specs.Format.{F, is_reserved}
use Rattle.floating.specs.Exact.{value_of, is_less, is_equal}
use Rattle.floating.specs.declared.Compared.{Compared}
use Rattle.longword.specs.Longword as longword
use Rattle.opcodes.specs.declared.works.Work.{Work}
use Rattle.opcodes.specs.declared.works.Work.TheVariants.{CompareF}
use Rattle.element.specs.declared.Out.{Out}
use Rattle.element.specs.Receives.{compared_out, result_of}
use Rattle.element.specs.Working.{is_compare}
use Rattle.element.proofs.Groups.{of-compares}

-- what an F compare answers, by whether each operand is reserved and whether the relation holds
abbrev answer : Bool → Bool → Bool → Compared
answer s t x = pick s (record { bit = false; types = 4 }) (pick t (record { bit = false; types = 4 }) (record { bit = x; types = 0 }))

-- a mask bit, or, where that is asked, whether it was neither set nor refused
abbrev asked : Bool → Out → Bool
asked u o = pick u (not (eqb (o.value % 2) 1 || eqb (o.types / 4 % 2) 1)) (eqb (o.value % 2) 1)

module _ (relation a b : ℕ) where
  abbrev by : ℕ → Out
  by r = result_of CompareF false r false a b 0

  -- F: it refuses the same
  f-types : (by (relation % 4)).types ≡ (by relation).types
  unfolding result_of
  f-types = at (is_reserved F (low a)) (is_reserved F (low b)) _ _
    where
      at : (s t x y : Bool) → (answer s t x).types ≡ (answer s t y).types
      at true t x y = refl
      at false true x y = refl
      at false false x y = refl

  -- its mask bit is that of the relation's bits <1:0>, or where bit <2> is set the opposite
  f-bit : asked (eqb (relation / 4 % 2) 1) (by (relation % 4)) ≡ eqb ((by relation).value % 2) 1
  unfolding result_of
  f-bit =
      sym (at (is_reserved F (low a)) (is_reserved F (low b)) (eqb (relation / 4 % 2) 1) _ _
      (opposite relation (is_less (value_of F (low a)) (value_of F (low b))) (is_equal (value_of F (low a)) (value_of F (low b)))))
    where
      at : (s t u x y : Bool) → y ≡ pick u (not x) x → eqb ((compared_out (answer s t y)).value % 2) 1 ≡ asked u (compared_out (answer s t x))
      at true t true x y e = refl
      at true t false x y e = refl
      at false true true x y e = refl
      at false true false x y e = refl
      at false false true true y e = rw e refl
      at false false true false y e = rw e refl
      at false false false true y e = rw e refl
      at false false false false y e = rw e refl

-- of longwords or of F
module _ (relation : ℕ) (w : Work) (is : is_compare w ≡ true) (a b : ℕ) where
  pub opposite-types : (result_of w false (relation % 4) false a b 0).types ≡ (result_of w false relation false a b 0).types
  unfolding result_of
  opposite-types =
      of-compares (λ (v : Work). (result_of v false (relation % 4) false a b 0).types ≡ (result_of v false relation false a b 0).types) w is refl
      (f-types relation a b)

  pub opposite-bit : asked (eqb (relation / 4 % 2) 1) (result_of w false (relation % 4) false a b 0)
      ≡ eqb ((result_of w false relation false a b 0).value % 2) 1
  unfolding result_of
  opposite-bit =
      of-compares
      (λ (v : Work). asked (eqb (relation / 4 % 2) 1) (result_of v false (relation % 4) false a b 0)
      ≡ eqb ((result_of v false relation false a b 0).value % 2) 1)
      w is
      (sym (at (eqb (relation / 4 % 2) 1) _ _ (opposite relation (longword.is_less a b) (longword.is_equal a b))))
      (f-bit relation a b)
    where
      at : (u x y : Bool) → y ≡ pick u (not x) x
          → eqb (pick y 1 0 % 2) 1 ≡ pick u (not (eqb (pick x 1 0 % 2) 1 || eqb (0 / 4 % 2) 1)) (eqb (pick x 1 0 % 2) 1)
      at true true y e = rw e refl
      at true false y e = rw e refl
      at false true y e = rw e refl
      at false false y e = rw e refl
