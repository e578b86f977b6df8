-- One instruction record's parts by their bytes, and the loops over the records. Assumes nothing.
use mathlib.Core.Bool.{Bool, ◌&&◌, and-true, and_assoc}
use mathlib.Core.Path.{◌≡◌, refl, sym, ap, ◌∙◌}
use mathlib.Core.List.{List, [], ◌∷◌, ◌++◌}
use Prim.Native.Nat.{ℕ, zero, suc, ◌+◌, ◌*◌, ◌≤◌}
use native.Mathlib.Nat.{zero-mul, suc-mul, add_comm}
use native.Mathlib.Numerals.{add-one}
use native.Mathlib.Omega.{arith}
use lib.Dec.{eqb}
use lib.ListN.{length, get_or, set, take, drop, replicate, length-drop, length-set}
use lib.Seq.{take_all, drop-drop, take-suc-set}
use Rattle.std.specs.List.{list_all}
use lib.Pointwise.{pointwise}
use Rattle.std.specs.Simd.{first_chunks}
use Rattle.numbers.specs.Bytes.{number_of, all_zero}
use Rattle.numbers.proofs.Places.{places, values_below}
use Rattle.running.specs.Records.{record_at, scalar_in, unfilled, all_unfilled, each}
use Rattle.running.specs.Working.{filled}

module _ (part : List ℕ) (e : length part ≡ 16) where
  -- the last eight bytes of a record
  pub scalar_bytes : (v : ℕ) → v ≡ number_of (take 8 (drop 8 part)) → v ≡ scalar_in part
  scalar_bytes v f = f ∙ ap number_of (take_all 8 (drop 8 part) (simp length-drop (omega arith)))

  -- the second filler is compared with zeros
  pub fillers : (second : Bool) → second ≡ pointwise eqb (take 4 (drop 4 part)) (replicate 4 0) → (eqb (get_or part 1 0) 0 && second) ≡ unfilled part
  unfolding unfilled
  fillers second f =
      let first = eqb (get_or part 1 0) 0 in
      let whole : part ≡ values_below 16 (λ i. get_or part i 0) = places 16 part e in
      ap (λ (b : Bool). first && b) f
      ∙ ap (λ (l : List ℕ). first && pointwise eqb (take 4 (drop 4 l)) (replicate 4 0)) whole
      ∙ sym (ap (λ (l : List ℕ). first && all_zero (take 4 (drop 4 l))) whole)

-- ---- the fillers of all records
last-chunk : (p : List ℕ → Bool) (n m : ℕ) (l : List ℕ)
    → list_all p (first_chunks n (suc m) l) ≡ (list_all p (first_chunks n m l) && p (take n (drop (m * n) l)))
last-chunk p n zero l = rw (zero-mul n) (and-true (p (take n l)))
last-chunk p n (suc m) l =
    ap (λ (b : Bool). p (take n l) && b) (last-chunk p n m (drop n l))
    ∙ sym (and_assoc (p (take n l)) (list_all p (first_chunks n m (drop n l))) (p (take n (drop (m * n) (drop n l)))))
    ∙ ap (λ (t : List ℕ). (p (take n l) && list_all p (first_chunks n m (drop n l))) && p (take n t))
    (drop-drop (m * n) n l ∙ ap (λ (i : ℕ). drop i l) (add_comm n (m * n) ∙ sym (suc-mul m n)))

pub fillers-of : (n : ℕ) (records : List ℕ) → list_all unfilled (first_chunks 16 n records) ≡ all_unfilled n records
unfolding all_unfilled
fillers-of zero records = refl
fillers-of (suc n) records = last-chunk unfilled 16 n records ∙ ap (λ (b : Bool). b && unfilled (record_at records n)) (fillers-of n records)

-- ---- the loop that takes the records apart
pub filled-starts : (f : ℕ → ℕ) (l : List ℕ) → l ≡ filled 0 f l
unfolding filled
filled-starts f l = refl

pub filled-turns : (f : ℕ → ℕ) (l now : List ℕ) (k v : ℕ) → now ≡ filled k f l → v ≡ f k → set now k v ≡ filled (k + 1) f l
unfolding filled
filled-turns f l now k v e h = rw (e, h, add-one k)

pub filled-ends : (f : ℕ → ℕ) (l now : List ℕ) (k n : ℕ) → k ≤ n → n ≤ k → now ≡ filled k f l → now ≡ filled n f l
filled-ends f l now k n h h' e = let q : k ≡ n = omega arith in rw q at e

pub filled-length : (n : ℕ) (f : ℕ → ℕ) (l : List ℕ) → length (filled n f l) ≡ length l
unfolding filled
filled-length zero f l = refl
filled-length (suc n) f l = length-set (filled n f l) n (f n) ∙ filled-length n f l

-- the places filled
pub filled-each : (n : ℕ) (f : ℕ → ℕ) (l : List ℕ) → n ≤ length l → take n (filled n f l) ≡ each n f
unfolding filled each
filled-each zero f l h = refl
filled-each (suc n) f l h =
    let e : length (filled n f l) ≡ length l = filled-length n f l in
    take-suc-set (filled n f l) n (f n) (omega arith) ∙ ap (λ (t : List ℕ). t ++ (f n ∷ [])) (filled-each n f l (omega arith))
