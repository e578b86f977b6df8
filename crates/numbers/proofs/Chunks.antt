-- A list cut into chunks of n. Assumes nothing.
use mathlib.Core.Path.{◌≡◌, sym, ap, ◌∙◌}
use mathlib.Core.List.{List, []}
use Prim.Native.Nat.{ℕ, zero, suc, ◌*◌, ◌<◌}
use native.Mathlib.Nat.{not-suc-le-zero, zero-mul, suc-mul, add_comm, le_of_suc-le-suc}
use lib.ListN.{get_or, take, drop}
use lib.Seq.{drop-drop}
use Rattle.std.specs.Simd.{first_chunks}

module _ (n : ℕ) where
  pub chunk-at : (m k : ℕ) (l : List ℕ) → k < m → get_or (first_chunks n m l) k [] ≡ take n (drop (k * n) l)
  chunk-at zero k l h = absurd (not-suc-le-zero h)
  chunk-at (suc m) zero l h = ap (λ (i : ℕ). take n (drop i l)) (sym (zero-mul n))
  chunk-at (suc m) (suc k) l h =
      chunk-at m k (drop n l) (le_of_suc-le-suc h)
      ∙ ap (take n) (drop-drop (k * n) n l ∙ ap (λ (i : ℕ). drop i l) (add_comm n (k * n) ∙ sym (suc-mul k n)))

  -- chunk k, of those that the whole list has
  pub chunk-of : (m k : ℕ) (l : List ℕ) (chunks : List (List ℕ)) → k < m → chunks ≡ first_chunks n m l → get_or chunks k [] ≡ take n (drop (k * n) l)
  chunk-of m k l chunks h e = ap (λ (c : List (List ℕ)). get_or c k []) e ∙ chunk-at m k l h
