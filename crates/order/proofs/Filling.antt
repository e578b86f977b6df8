-- A table of 16 entries that a loop fills: after k turns the first k entries are right. Assumes nothing.
use mathlib.Core.Path.{◌≡◌, refl, sym, subst}
use mathlib.Core.List.{List}
use Prim.Native.Nat.{ℕ, zero, suc, ◌+◌, ◌<◌}
use native.Mathlib.Omega.{arith}
use native.Mathlib.Decide.{ℕ_discrete}
use lib.ListN.{length, get_or, set, replicate, length-set}
use lib.Seq.{get_or-set_same, get_or-set_other}

module _ {A : Type 0} (other : A) (right : ℕ → A → Type 0) where
  pub record Filled (table : List A) (k : ℕ) : Type 0 where
    pub long : length table ≡ 16
    pub first : (j : ℕ) → j < k → right j (get_or table j other)

  pub fill_none : (table : List A) → length table ≡ 16 → Filled table 0
  fill_none table e = record { long = e; first = λ j h. absurd (none j h) }
    where
      none : (j : ℕ) → j < 0 → ⊥
      none j h = omega arith

  pub fill_more : (table : List A) (k : ℕ) (v : A) → Filled table k → k < 16 → right k v → Filled (set table k v) (k + 1)
  fill_more table k v f h r = record { long = simp length-set f.long; first = λ j g. go j g (ℕ_discrete j k) }
    where
      room : k < length table
      room = let l = f.long in omega arith

      go : (j : ℕ) → j < k + 1 → Dec (j ≡ k) → right j (get_or (set table k v) j other)
      go j g (yes e) = subst (λ (i : ℕ). right i (get_or (set table k v) i other)) (sym e) (subst (right k) (sym (get_or-set_same table k v other room)) r)
      go j g (no e) = subst (right j) (sym (get_or-set_other table k j v other e)) (f.first j (omega arith))

-- a table of zeros
pub zeros : (l j : ℕ) → ◌≡◌ {A = ℕ} (get_or (replicate l 0) j 0) 0
zeros zero j = refl
zeros (suc l) zero = refl
zeros (suc l) (suc j) = zeros l j
