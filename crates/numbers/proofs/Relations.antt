-- The relations by their parts: bits <1:0> name greater, equal, less or none, and bit <2> asks for the opposite.
use mathlib.Core.Path.{◌≡◌, refl, sym, ap, ap₂, ◌∙◌}
use mathlib.Core.Bool.{Bool, true, false, not, ◌&&◌, ◌||◌, beq}
use Prim.Native.Nat.{ℕ, zero, suc, ◌/◌, ◌%◌, ◌<◌}
use native.Mathlib.Omega.{arith}
use lib.Dec.{eqb}
use lib.Pow.{field}
use Rattle.numbers.specs.Choice.{pick}
use Rattle.numbers.specs.Relation.{relation_holds}

abbrev by_parts : ℕ → ℕ → Bool → Bool → Bool
by_parts kind opposite less equal =
    not (beq (eqb kind 0 && not (less || equal) || eqb kind 1 && equal || eqb kind 2 && less) (eqb opposite 1))

-- a number below 8 is one of eight
eight : (P : ℕ → Type 0) → P 0 → P 1 → P 2 → P 3 → P 4 → P 5 → P 6 → P 7 → (k : ℕ) → k < 8 → P k
eight P a b c d e f g h zero q = a
eight P a b c d e f g h (suc zero) q = b
eight P a b c d e f g h (suc (suc zero)) q = c
eight P a b c d e f g h (suc (suc (suc zero))) q = d
eight P a b c d e f g h (suc (suc (suc (suc zero)))) q = e
eight P a b c d e f g h (suc (suc (suc (suc (suc zero))))) q = f
eight P a b c d e f g h (suc (suc (suc (suc (suc (suc zero)))))) q = g
eight P a b c d e f g h (suc (suc (suc (suc (suc (suc (suc zero))))))) q = h
eight P a b c d e f g h (suc (suc (suc (suc (suc (suc (suc (suc k)))))))) q = absurd (omega arith)

of_eight : (less equal : Bool) (k : ℕ) → k < 8 → by_parts (k % 4) (k / 4) less equal ≡ relation_holds k less equal
unfolding relation_holds
of_eight false false = eight _ refl refl refl refl refl refl refl refl
of_eight false true = eight _ refl refl refl refl refl refl refl refl
of_eight true false = eight _ refl refl refl refl refl refl refl refl
of_eight true true = eight _ refl refl refl refl refl refl refl refl

-- only bits <2:0> count
low-kept : (relation : ℕ) (less equal : Bool) → relation_holds (relation % 8) less equal ≡ relation_holds relation less equal
unfolding relation_holds
low-kept relation less equal = let e : relation % 8 % 8 ≡ relation % 8 = omega arith in rw e

pub by_parts_lem : (relation : ℕ) (less equal : Bool) → by_parts (relation % 4) (relation / 4 % 2) less equal ≡ relation_holds relation less equal
by_parts_lem relation less equal =
    let e : relation % 4 ≡ relation % 8 % 4 = omega arith in
    let f : relation / 4 % 2 ≡ relation % 8 / 4 = sym (field relation 1 2) in
    let h : relation % 8 < 8 = omega arith in
    rw (e, f, of_eight less equal (relation % 8) h) (low-kept relation less equal)

-- a relation from 4 on holds where that 4 below it does not
pub opposite : (relation : ℕ) (less equal : Bool)
    → relation_holds relation less equal
    ≡ pick (eqb (relation / 4 % 2) 1) (not (relation_holds (relation % 4) less equal)) (relation_holds (relation % 4) less equal)
opposite relation less equal =
    sym (by_parts_lem relation less equal)
    ∙ at (eqb (relation / 4 % 2) 1)
    ∙ ap (λ (t : Bool). pick (eqb (relation / 4 % 2) 1) (not t) t) (ap₂ (λ (k o : ℕ). by_parts k o less equal) kept none
    ∙ by_parts_lem (relation % 4) less equal)
  where
    plain : Bool
    plain = eqb (relation % 4) 0 && not (less || equal) || eqb (relation % 4) 1 && equal || eqb (relation % 4) 2 && less

    kept : relation % 4 ≡ relation % 4 % 4
    kept = omega arith

    none : 0 ≡ relation % 4 / 4 % 2
    none = omega arith

    at : (t : Bool) → not (beq plain t) ≡ pick t (not (not (beq plain false))) (not (beq plain false))
    at true = twice plain
      where
        twice : (s : Bool) → not (beq s true) ≡ not (not (beq s false))
        twice true = refl
        twice false = refl
    at false = refl
