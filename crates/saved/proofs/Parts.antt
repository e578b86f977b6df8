-- One record's parts by their bytes. Assumes nothing.
use mathlib.Core.Bool.{Bool, ◌&&◌, and-true, and-false, and_assoc}
use mathlib.Core.Path.{◌≡◌, refl, sym, ap, ap₂, ◌∙◌}
use mathlib.Core.List.{List, [], ◌∷◌}
use Prim.Native.Nat.{ℕ, zero, suc, ◌+◌, ◌*◌, ◌<◌}
use native.Mathlib.Omega.{arith}
use lib.Dec.{eqb}
use lib.ListN.{length, take, drop, length-drop}
use lib.Seq.{take_all}
use borrow.Author.Tests.{ne_eqb}
use Rattle.numbers.specs.Bytes.{number_of, all_zero}
use Rattle.saved.specs.Load.{number_in, filler_in, contents_in, contents_in_range, good_part}

-- the last eight bytes of a record
pub contents_bytes : (part : List ℕ) (v : ℕ) → length part ≡ 16 → v ≡ number_of (take 8 (drop 8 part)) → v ≡ contents_in part
contents_bytes part v e f = f ∙ ap number_of (take_all 8 (drop 8 part) (simp length-drop (omega arith)))

-- bytes that make zero are zeros
zeros : (l : List ℕ) → all_zero l ≡ eqb (number_of l) 0
zeros [] = refl
zeros (zero ∷ l) = zeros l ∙ either (number_of l)
  where
    either : (n : ℕ) → eqb n 0 ≡ eqb (0 + 256 * n) 0
    either zero = refl
    either (suc n) = ne_eqb (suc n) 0 (λ e. omega arith) ∙ sym (ne_eqb (0 + 256 * suc n) 0 (λ e. omega arith))
zeros (suc b ∷ l) = ap (λ (t : Bool). t && all_zero l) (ne_eqb (suc b) 0 (λ e. omega arith)) ∙ sym (ne_eqb (suc b + 256 * number_of l) 0 (λ e. omega arith))

-- the number and the filler at once: a number below 65,536 leaves its other bytes zero
pub head-tells : (part : List ℕ) (k : ℕ) → length part ≡ 16 → k < 65536
    → eqb (number_of (take 8 part)) k ≡ (eqb (number_in part) k && all_zero (filler_in part))
head-tells [] k e h = absurd (omega arith)
head-tells (a ∷ []) k e h = absurd (omega arith)
head-tells (a ∷ b ∷ l) k e h = either (number_of (take 6 l)) ∙ ap (λ (t : Bool). eqb (a + 256 * (b + 0)) k && t) (sym (zeros (take 6 l)))
  where
    either : (n : ℕ) → eqb (a + 256 * (b + 256 * n)) k ≡ (eqb (a + 256 * (b + 0)) k && eqb n 0)
    either zero = sym (and-true (eqb (a + 256 * (b + 0)) k))
    either (suc n) =
        ne_eqb (a + 256 * (b + 256 * suc n)) k (λ q. omega arith)
        ∙ sym (ap (λ (t : Bool). eqb (a + 256 * (b + 0)) k && t) (ne_eqb (suc n) 0 (λ q. omega arith)) ∙ and-false (eqb (a + 256 * (b + 0)) k))

-- so that the two tests of a record are the definition's three
pub parts : (part : List ℕ) (k : ℕ) → length part ≡ 16 → k < 65536 → (head : ℕ) → head ≡ number_of (take 8 part)
    → (v : ℕ) → v ≡ contents_in part → (ranged : Bool) → ranged ≡ contents_in_range k v → (eqb head k && ranged) ≡ good_part part k
unfolding good_part
parts part k e h head p v q ranged r =
    ap₂ (λ (s t : Bool). s && t) (ap (λ (n : ℕ). eqb n k) p ∙ head-tells part k e h) (r ∙ ap (contents_in_range k) q)
    ∙ and_assoc (eqb (number_in part) k) (all_zero (filler_in part)) (contents_in_range k (contents_in part))
