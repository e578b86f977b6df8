-- What a load or a store that was done leaves: by induction over its elements, in rising order. Assumes nothing.
use mathlib.Core.Bool.{Bool, true, false, ◌&&◌}
use mathlib.Core.List.{List, ◌++◌}
use mathlib.Core.Logic.{◌⊎◌, inl, inr}
use mathlib.Core.Path.{◌≡◌, refl, sym, ap, ◌∙◌}
use Prim.Native.Nat.{ℕ, zero, suc, ◌+◌, ◌-◌, ◌/◌, ◌%◌, ◌^◌, ◌≤◌, ◌<◌}
use native.Mathlib.Nat.{div-div-eq-div-mul, mul_comm, pow-suc, div-one}
use native.Mathlib.Omega.{arith}
use lib.Dec.{eqb}
use lib.ListN.{length, length-set, get_or, set, take, drop, get_or-append}
use lib.Seq.{get_or-append-add, get_or-take, get_or-drop, length-take-le}
use Rattle.numbers.specs.Bytes.{bytes_of}
use Rattle.numbers.specs.Choice.{pick}
use Rattle.numbers.specs.Over.{over}
use Rattle.numbers.specs.Rising.{rising}
use Rattle.numbers.proofs.BitLaws.{dec_eq}
use Rattle.numbers.proofs.LittleEndian.{bytes-length}
use Rattle.numbers.proofs.Over.{length_over}
use Rattle.state.specs.State.{place_of}
use Rattle.state.specs.Elements.{at}
use Rattle.memory.specs.Works.{size_of}
use Rattle.memory.specs.Window.{number_at, put_at}
use Rattle.memory.specs.Move.{received, load_step, store_step}
use Rattle.demands.proofs.Placing.{places-next}
use Rattle.demands.proofs.Coming.{come}

-- ---- a load
module _ (quadword : Bool) (vc : ℕ) (on : ℕ → Bool) (place : ℕ → ℕ) (w l : List ℕ) (register : vc < 16) (count : length l ≡ 1024) where
  -- what element i of register p holds when it is loaded
  abbrev pub gets : ℕ → ℕ → ℕ
  gets p i = received quadword (at l p i) (number_at (size_of quadword) w (place i))

  pub record Upto (n : ℕ) (m : List ℕ) : Type 0 where
    pub long : length m ≡ 1024
    pub elements : (p i : ℕ) → p < 16 → i < 64 → at m p i ≡ pick (eqb p vc && come on n i) (gets p i) (at l p i)

  module _ (n : ℕ) (small : n < 64) (m : List ℕ) (u : Upto n m) where
    idle : on n ≡ false → Upto (suc n) m
    idle e = grind arith

    own : at m vc n ≡ at l vc n
    own = grind arith

    loads : on n ≡ true → Upto (suc n) (set m (place_of vc n) (gets vc n))
    loads e = record {
      long = length-set m (place_of vc n) (gets vc n) ∙ u.long;
      elements = places-next vc register on gets (at l) n small m u.long u.elements e;
    }

    stepped : Upto (suc n) (load_step quadword vc on place w n m)
    unfolding load_step
    stepped = grind (arith, own, loads, idle)

  pub loaded : (n : ℕ) → n ≤ 64 → Upto n (rising (load_step quadword vc on place w) n l)
  unfolding rising
  loaded zero h = record {
    long = count;
    elements = λ p i a b. grind arith;
  }
  loaded (suc n) h = stepped n (omega arith) (rising (load_step quadword vc on place w) n l) (loaded n (omega arith))

-- ---- bytes written over a list
byte : (n x k : ℕ) → k < n → get_or (bytes_of n x) k 0 ≡ x / 256 ^ k % 256
byte zero x k h = absurd (omega arith)
byte (suc n) x zero h = ap (λ (y : ℕ). y % 256) (sym (div-one x))
byte (suc n) x (suc k) h =
    byte n (x / 256) k (omega arith)
    ∙ ap (λ (y : ℕ). y % 256) (div-div-eq-div-mul x 256 (256 ^ k) ∙ ap (λ (y : ℕ). x / y) (mul_comm 256 (256 ^ k) ∙ sym (pow-suc 256 k)))

module _ (w : List ℕ) (p : ℕ) (new : List ℕ) (fits : p + length new ≤ length w) where
  head : length (take p w) ≡ p
  head = length-take-le p w (omega arith)

  over-within : (k : ℕ) → k < length new → get_or (over w p new) (p + k) 0 ≡ get_or new k 0
  over-within k h = grind (arith, head, get_or-append-add, get_or-append)

  over-outside : (k : ℕ) → (k < p) ⊎ (p + length new ≤ k) → get_or (over w p new) k 0 ≡ get_or w k 0
  over-outside k (inl h) =
      get_or-append (take p w) (new ++ drop (p + length new) w) 0 k (omega (arith, head)) ∙ get_or-take p w k 0 h
  over-outside k (inr h) =
      ap (λ (n : ℕ). get_or (over w p new) n 0) place
      ∙ get_or-append-add (take p w) (new ++ drop (p + length new) w) (length new + (k - (p + length new))) 0
      ∙ get_or-append-add new (drop (p + length new) w) (k - (p + length new)) 0
      ∙ get_or-drop (p + length new) w (k - (p + length new)) 0
      ∙ ap (λ (n : ℕ). get_or w n 0) back
    where
      place : k ≡ length (take p w) + (length new + (k - (p + length new)))
      place = omega (arith, head)

      back : p + length new + (k - (p + length new)) ≡ k
      back = omega arith

-- ---- a store
module _ (quadword : Bool) (vc : ℕ) (on : ℕ → Bool) (place : ℕ → ℕ) (w l : List ℕ) where
  abbrev pub size : ℕ
  size = size_of quadword

  abbrev pub Misses : ℕ → ℕ → Type 0
  Misses i k = (k < place i) ⊎ (place i + size ≤ k)

  abbrev pub stored : ℕ → List ℕ
  stored n = rising (store_step quadword vc on place l) n w

  -- the elements below n have their places
  abbrev pub Fit : ℕ → Type 0
  Fit n = (i : ℕ) → i < n → on i ≡ true → place i + size ≤ length w

  fewer : (n : ℕ) → Fit (suc n) → Fit n
  fewer n f i h = f i (omega arith)

  pub stored-length : (n : ℕ) → Fit n → length (stored n) ≡ length w
  unfolding rising store_step
  stored-length zero f = refl
  stored-length (suc n) f = by (on n) refl (stored-length n (fewer n f))
    where
      by : (t : Bool) → on n ≡ t → length (stored n) ≡ length w → length (pick t (put_at size (stored n) (place n) (at l vc n)) (stored n)) ≡ length w
      by t e long = grind (arith, length_over, bytes-length)

  -- what the turn of element n does not have it keeps
  module _ (n : ℕ) (f : Fit (suc n)) (k : ℕ) where
    at_turn : (t : Bool) → on n ≡ t → (t ≡ true → Misses n k)
        → get_or (pick t (put_at size (stored n) (place n) (at l vc n)) (stored n)) k 0 ≡ get_or (stored n) k 0
    at_turn true e misses =
        over-outside (stored n) (place n) (bytes_of size (at l vc n))
        (let g = f n (omega arith) e in let b = bytes-length size (at l vc n) in let long = stored-length n (fewer n f) in omega arith)
        k
        (rw (bytes-length size (at l vc n)) (misses refl))
    at_turn false e misses = refl

    keeps : (on n ≡ true → Misses n k) → get_or (stored (suc n)) k 0 ≡ get_or (stored n) k 0
    unfolding rising store_step
    keeps misses = at_turn (on n) refl misses

  pub stored-others : (n : ℕ) → Fit n → (k : ℕ) → ((i : ℕ) → i < n → on i ≡ true → Misses i k) → get_or (stored n) k 0 ≡ get_or w k 0
  unfolding rising
  stored-others zero f k misses = refl
  stored-others (suc n) f k misses = keeps n f k (misses n (omega arith)) ∙ stored-others n (fewer n f) k (λ i h. misses i (omega arith))

  written : (n : ℕ) → Fit (suc n) → on n ≡ true → (k : ℕ) → k < size → get_or (stored (suc n)) (place n + k) 0 ≡ at l vc n / 256 ^ k % 256
  unfolding rising store_step
  written n f e k h =
      ap (λ (t : Bool). get_or (pick t (put_at size (stored n) (place n) (at l vc n)) (stored n)) (place n + k) 0) e
      ∙ over-within (stored n) (place n) (bytes_of size (at l vc n))
      (let g = f n (omega arith) e in let b = bytes-length size (at l vc n) in let long = stored-length n (fewer n f) in omega arith)
      k (let b = bytes-length size (at l vc n) in omega arith)
      ∙ byte size (at l vc n) k h

  pub stored_bytes : (n : ℕ) → Fit n → (i k : ℕ) → i < n → on i ≡ true → k < size → ((j : ℕ) → i < j → j < n → on j ≡ true → Misses j (place i + k))
      → get_or (stored n) (place i + k) 0 ≡ at l vc i / 256 ^ k % 256
  stored_bytes zero f i k below e h later = absurd (omega arith)
  stored_bytes (suc n) f i k below e h later =
      by (dec_eq i n) (λ b. stored_bytes n (fewer n f) i k b e h (λ j a b. later j a (omega arith)))
    where
      by : Dec (i ≡ n) → (i < n → get_or (stored n) (place i + k) 0 ≡ at l vc i / 256 ^ k % 256)
          → get_or (stored (suc n)) (place i + k) 0 ≡ at l vc i / 256 ^ k % 256
      by x on = grind (arith, written, keeps)
