-- A window at an origin is one at 0, where addresses are taken from the origin, modulo 2^32. Assumes nothing.
use Rattle.std.specs.Prelude.{Ok}
use Rattle.std.proofs.Common.{◌≡◌, ℕ, ◌+◌, ◌-◌, ◌*◌, ◌%◌, ◌^◌, ◌<◌, ◌≤◌, Bool, true, false, ◌&&◌, eqb, leb, List, length, refl, ap, ap₂, arith, le-leb}
use native.Mathlib.Decide.{dec_le}
use borrow.Author.Tests.{lt-leb}
use Rattle.numbers.specs.Halves.{low}
use Rattle.state.specs.Elements.{at}
use Rattle.state.specs.Marks.{Marked}
use Rattle.memory.specs.Works.{size_of}
use Rattle.memory.specs.Address.{address_by, found, test_of}
use Rattle.memory.specs.Working.{test_at, tests_at}
use Rattle.memory.specs.Move.{moved_by}
use Rattle.memory.proofs.Testing.{size-some, within}
use Rattle.memory.proofs.Moving.{moved-agree}

-- what an address is, taken from the origin
pub record From (origin address place : ℕ) : Type 0 where
  pub word : place < 2 ^ 32
  pub back : (place + origin % 2 ^ 32) % 2 ^ 32 ≡ address

-- the addresses of the elements, from a base that is taken from the origin
module _ (origin base start : ℕ) (e : (start + origin % 2 ^ 32) % 2 ^ 32 ≡ base) where
  taken : (k : ℕ) → From origin ((base + k) % 2 ^ 32) ((start + k) % 2 ^ 32)
  taken k = record { word = omega arith; back = omega (arith, e) }

  pub addresses-from : (offsets : Bool) (stride : ℕ) (l : List ℕ) (vb i : ℕ)
      → From origin (address_by offsets base stride l vb i) (address_by offsets start stride l vb i)
  addresses-from true stride l vb i = taken (low (at l vb i))
  addresses-from false stride l vb i = taken (i * stride)

-- ---- the test of an element
module _ (origin bytes : ℕ) (straight : origin % 8 ≡ 0) (fits : origin + bytes ≤ 2 ^ 32) (quadword : Bool) (address place : ℕ)
    (f : From origin address place) where
  aligned-same : (q : Bool) → place % size_of q ≡ address % size_of q
  aligned-same true = let b = f.back in omega (arith, straight, fits)
  aligned-same false = let b = f.back in omega (arith, straight, fits)

  abbrev size : ℕ
  size = size_of quadword

  -- an element that lies in the window
  near : place + size ≤ bytes → address ≡ origin + place
  near h = let b = f.back in let some = size-some quadword size refl in omega (arith, h, fits, some)

  pub same_place : test_at size bytes place ≡ Ok tt → place ≡ address - origin
  same_place e = let n = near (within size bytes place e) in omega (arith, n)

  inside-same : leb (place + size) bytes ≡ (leb origin address && leb (address + size) (origin + bytes))
  inside-same = go (dec_le (place + size) bytes) (dec_le origin address)
    where
      go : Dec (place + size ≤ bytes) → Dec (origin ≤ address) → leb (place + size) bytes ≡ (leb origin address && leb (address + size) (origin + bytes))
      go (yes h) d =
          let n = near h in
          rw (le-leb (place + size) bytes h, le-leb origin address (omega (arith, n)), le-leb (address + size) (origin + bytes) (omega (arith, n, h)))
      go (no h) (yes g) =
          let b = f.back in let w = f.word in let some = size-some quadword size refl in
          let far = lt-leb (address + size) (origin + bytes) (omega (arith, h, g, fits, some, b, w)) in
          rw (lt-leb (place + size) bytes (omega (arith, h)), le-leb origin address g, far)
      go (no h) (no g) = rw (lt-leb (place + size) bytes (omega (arith, h)), lt-leb origin address (omega (arith, g)))

  pub test-same : test_at size bytes place ≡ test_of size origin (origin + bytes) address
  unfolding test_at test_of
  test-same = ap₂ found (ap (λ (k : ℕ). eqb k 0) (aligned-same quadword)) inside-same

-- ---- and the whole
pub relative : (store quadword : Bool) (origin vc : ℕ) (chosen : ℕ → Bool) (address place : ℕ → ℕ) (n : ℕ) (b : Marked) (w : List ℕ)
    → origin % 8 ≡ 0 → origin + length w ≤ 2 ^ 32 → ((i : ℕ) → From origin (address i) (place i))
    → moved_by store quadword vc chosen (tests_at (size_of quadword) (length w) place) place n b w
    ≡ moved_by store quadword vc chosen (λ (i : ℕ). test_of (size_of quadword) origin (origin + length w) (address i)) (λ (i : ℕ). address i - origin) n b w
relative store quadword origin vc chosen address place n b w straight fits from =
    moved-agree store quadword vc chosen _ _ place _ n b w
    (λ i. test-same origin (length w) straight fits quadword (address i) (place i) (from i))
    (λ i. same_place origin (length w) straight fits quadword (address i) (place i) (from i))
