-- Loading what was saved gives that state back, and a file that loads is the one its state would save. Assumes nothing.
use Rattle.std.specs.Prelude.{Ok, Err}
use mathlib.Core.Bool.{Bool, true, false}
use mathlib.Core.List.{List, ◌++◌}
use mathlib.Core.Logic.{⊎_elim}
use mathlib.Core.Path.{◌≡◌, refl, sym, ap, ◌∙◌, subst}
use Prim.Native.Nat.{ℕ, zero, suc, ◌+◌, ◌*◌, ◌-◌, ◌^◌, ◌≤◌, ◌<◌}
use native.Mathlib.Nat.{eq-or-lt_of_le, le_of_suc-le-suc, not-suc-le-zero}
use native.Mathlib.Omega.{arith}
use lib.Dec.{eqb, leb, ltb}
use lib.ListN.{length, get_or, take, drop, length-drop, length-set, take-append-drop, get_or-eq_default}
use lib.Seq.{take_all, take_at, drop_at, take-append-le, drop-append-le, drop-drop, take-add, length-take-le, get_or-set_same, get_or-set_other, ext_get_or}
use borrow.Author.Tests.{eq-eqb, eqb-true, leb-true, ltb-true, le-leb, lt-ltb}
use Rattle.numbers.specs.Bytes.{Bytes, bytes_of, number_of, all_zero}
use Rattle.numbers.specs.Choice.{pick}
use Rattle.numbers.proofs.LittleEndian.{bytes_take, bytes_drop, number-back, bytes_back, zeros-back, number-below}
use Rattle.numbers.proofs.Tests.{and_left, and_right, and_both, and-four, pick_true, pick-false, below_or_not}
use Rattle.state.specs.declared.answer.Refusal.TheVariants.{BadFile}
use Rattle.state.specs.Answer.{is_done}
use Rattle.state.specs.Outcome.{Outcome, outcome, refused_state}
use Rattle.state.specs.State.{State, state, in_range, length_in_range, vaer_in_range, vpsr_in_range}
use Rattle.state.specs.declared.Control.{Control}
use Rattle.saved.specs.File.{contents_of, record_bytes, records, file_of, Held}
use Rattle.saved.specs.Load.{record_at, number_in, filler_in, contents_in, contents_in_range, good_part, good_record, leading}
use Rattle.saved.specs.Load.{accepted, elements_in, control_in, loading}
use Rattle.saved.specs.Save.{saving}
use Rattle.saved.proofs.Saving.{record-length, records-length, file-length, saves-done}
use Rattle.saved.proofs.Loading.{good-whole, last-good, control-made}

-- ---- one record

module _ (k v : ℕ) (hk : k < 65536) (hv : v < 2 ^ 64) where
  contents-back : contents_in (record_bytes k v) ≡ v
  unfolding record_bytes
  contents-back = number-back 8 v hv

  -- a record that was written is good
  good-back : contents_in_range k v ≡ true → good_part (record_bytes k v) k ≡ true
  unfolding good_part record_bytes
  good-back r =
      and_both _ _ (eq-eqb (number_of (bytes_of 2 k)) k (number-back 2 k hk))
      (ap (contents_in_range k) (number-back 8 v hv) ∙ r)

-- 16 bytes that are a good record are the record that their contents would make
record-back : (part : List ℕ) (k : ℕ) → length part ≡ 16 → Bytes part → good_part part k ≡ true → record_bytes k (contents_in part) ≡ part
unfolding good_part record_bytes
record-back part k e h g =
    let n : number_in part ≡ k = eqb-true (number_in part) k (and_left (eqb (number_in part) k) _ g) in
    let z : all_zero (filler_in part) ≡ true = and_left (all_zero (filler_in part)) _ (and_right (eqb (number_in part) k) _ g) in
    let l₂ : length (take 2 part) ≡ 2 = length-take-le 2 part (omega arith) in
    let d₂ : length (drop 2 part) ≡ 14 = length-drop 2 part ∙ omega arith in
    let l₆ : length (filler_in part) ≡ 6 = length-take-le 6 (drop 2 part) (omega arith) in
    let l₈ : length (drop 8 part) ≡ 8 = length-drop 8 part ∙ omega arith in
    let a : bytes_of 2 k ≡ take 2 part = rw (l₂, n) at (bytes_back (take 2 part) (bytes_take 2 part h)) in
    let b : filler_in part ≡ bytes_of 6 0 = rw l₆ at (zeros-back (filler_in part) z) in
    let c : bytes_of 8 (contents_in part) ≡ drop 8 part = rw l₈ at (bytes_back (drop 8 part) (bytes_drop 8 part h)) in
    (λ i. a i ++ (sym b i ++ c i))
    ∙ ap (λ (t : List ℕ). take 2 part ++ (filler_in part ++ t)) (sym (drop-drop 6 2 part))
    ∙ ap (λ (t : List ℕ). take 2 part ++ t) (take-append-drop 6 (drop 2 part))
    ∙ take-append-drop 2 part

-- ---- the records of a file

-- record k of the first n records
record-at : (n k : ℕ) (s : State) → k < n → record_at (records n s) k ≡ record_bytes k (contents_of s k)
unfolding records
record-at zero k s h = absurd (not-suc-le-zero h)
record-at (suc n) k s h =
    ⊎_elim (λ (q : k ≡ n). rw q last) (λ (l : k < n). earlier l ∙ record-at n k s l) (eq-or-lt_of_le (le_of_suc-le-suc h))
  where
    new : List ℕ
    new = record_bytes n (contents_of s n)

    last : record_at (records n s ++ new) n ≡ new
    last =
        ap (take 16) (drop_at (records n s) new (n * 16) (records-length n s))
        ∙ take_all 16 new (omega (arith, record-length n (contents_of s n)))

    earlier : k < n → record_at (records n s ++ new) k ≡ record_at (records n s) k
    earlier l =
        let n' : length (records n s) ≡ n * 16 = records-length n s in
        let d : length (drop (k * 16) (records n s)) ≡ length (records n s) - k * 16 = length-drop (k * 16) (records n s) in
        ap (take 16) (drop-append-le (k * 16) (records n s) new (omega arith))
        ∙ take-append-le 16 (drop (k * 16) (records n s)) new (omega arith)

-- a fact of each record, shown for the elements and for each of the five others
by-record : (P : ℕ → Type 0) → ((k : ℕ) → k < 1024 → P k) → P 1024 → P 1025 → P 1026 → P 1027 → P 1028 → (k : ℕ) → k < 1029 → P k
by-record P e p₀ p₁ p₂ p₃ p₄ k h =
    below 1028 p₄ (below 1027 p₃ (below 1026 p₂ (below 1025 p₁ (below 1024 p₀ (e k))))) h
  where
    below : (n : ℕ) → P n → (k < n → P k) → k < suc n → P k
    below n p f l = ⊎_elim (λ (q : k ≡ n). subst P (sym q) p) f (eq-or-lt_of_le (le_of_suc-le-suc l))

all-lead : (n : ℕ) (file : List ℕ) → ((k : ℕ) → k < n → good_record file k ≡ true) → leading n file ≡ n
unfolding leading
all-lead zero file g = refl
all-lead (suc n) file g =
    let i : leading n file ≡ n = all-lead n file (λ k h. g k (omega arith)) in
    ap (λ (b : Bool). pick b (suc n) (leading n file)) (and_both _ _ (eq-eqb (leading n file) n i) (g n (omega arith)))

all-good : (n : ℕ) (file : List ℕ) → leading n file ≡ n → (k : ℕ) → k < n → good_record file k ≡ true
all-good zero file e k h = absurd (not-suc-le-zero h)
all-good (suc n) file e k h =
    ⊎_elim
    (λ (q : k ≡ n). subst (λ (m : ℕ). good_record file m ≡ true) (sym q) (last-good n file e).1)
    (λ (l : k < n). all-good n file (last-good n file e).0 k l)
    (eq-or-lt_of_le (le_of_suc-le-suc h))

-- ---- the elements that a file fills

pub elements-length : (n : ℕ) (file old : List ℕ) → length (elements_in n file old) ≡ length old
unfolding elements_in
elements-length zero file old = refl
elements-length (suc n) file old = length-set (elements_in n file old) n (contents_in (record_at file n)) ∙ elements-length n file old

element-at : (n : ℕ) (file old : List ℕ) (i : ℕ) → n ≤ length old → i < n → get_or (elements_in n file old) i 0 ≡ contents_in (record_at file i)
unfolding elements_in
element-at zero file old i h l = absurd (not-suc-le-zero l)
element-at (suc n) file old i h l =
    ⊎_elim
    (λ (q : i ≡ n). rw q (get_or-set_same (elements_in n file old) n _ 0 (omega (arith, elements-length n file old))))
    (λ (m : i < n). get_or-set_other (elements_in n file old) n i _ 0 (λ q. omega arith) ∙ element-at n file old i (omega arith) m)
    (eq-or-lt_of_le (le_of_suc-le-suc l))

-- ---- a state in range

pub ranges : (c : Control) → in_range c ≡ true
    → (length_in_range c.vlr ≡ true) × (length_in_range c.vcr ≡ true) × (vaer_in_range c.vaer ≡ true) × (vpsr_in_range c.vpsr ≡ true)
unfolding in_range
ranges c e = and-four (length_in_range c.vlr) (length_in_range c.vcr) (vaer_in_range c.vaer) (vpsr_in_range c.vpsr) e

length-fits : (n : ℕ) → length_in_range n ≡ true → n < 2 ^ 64
length-fits n e = omega (arith, leb-true n 64 e)

vaer-fits : (v : ℕ) → vaer_in_range v ≡ true → v < 2 ^ 64
vaer-fits v e = omega (arith, ltb-true v (2 ^ 32) (and_left _ _ (and_left _ _ e)))

vpsr-fits : (v : ℕ) → vpsr_in_range v ≡ true → v < 2 ^ 64
vpsr-fits v e = omega (arith, ltb-true v (2 ^ 8) (and_left _ _ e))

-- ---- loading what was saved

element-contents : (s : State) (k : ℕ) → k < 1024 → contents_of s k ≡ get_or s.elements k 0
unfolding contents_of
element-contents s k h = pick_true (ltb k 1024) (get_or s.elements k 0) _ (lt-ltb k 1024 h)

element-range : (k v : ℕ) → k < 1024 → contents_in_range k v ≡ true
unfolding contents_in_range
element-range k v h = pick_true (ltb k 1024) true _ (lt-ltb k 1024 h)

module _ (s : State) (held : Held s) where
  contents-fit : (k : ℕ) → k < 1029 → contents_of s k < 2 ^ 64
  unfolding contents_of
  contents-fit =
      by-record (λ (k : ℕ). contents_of s k < 2 ^ 64)
      (λ k h. subst (λ (x : ℕ). x < 2 ^ 64) (sym (element-contents s k h)) (held.elements-fit k))
      (length-fits s.control.vlr (ranges s.control held.ranged).0)
      held.mask_fits
      (length-fits s.control.vcr (ranges s.control held.ranged).1)
      (vaer-fits s.control.vaer (ranges s.control held.ranged).2)
      (vpsr-fits s.control.vpsr (ranges s.control held.ranged).3)

  contents-ranged : (k : ℕ) → k < 1029 → contents_in_range k (contents_of s k) ≡ true
  unfolding contents_of contents_in_range
  contents-ranged =
      by-record (λ (k : ℕ). contents_in_range k (contents_of s k) ≡ true)
      (λ k h. element-range k (contents_of s k) h)
      (ranges s.control held.ranged).0
      refl
      (ranges s.control held.ranged).1
      (ranges s.control held.ranged).2
      (ranges s.control held.ranged).3

  saved-contents : (k : ℕ) → k < 1029 → contents_in (record_at (file_of s) k) ≡ contents_of s k
  unfolding file_of
  saved-contents k h =
      ap contents_in (record-at 1029 k s h) ∙ contents-back k (contents_of s k) (omega arith) (contents-fit k h)

  saved-good : (k : ℕ) → k < 1029 → good_record (file_of s) k ≡ true
  unfolding good_record file_of
  saved-good k h =
      let n : length (records 1029 s) ≡ 16464 = records-length 1029 s in
      and_both _ _ (le-leb (k * 16 + 16) (length (records 1029 s)) (omega arith))
      (ap (λ (part : List ℕ). good_part part k) (record-at 1029 k s h) ∙ good-back k (contents_of s k) (omega arith) (contents-fit k h) (contents-ranged k h))

  saved-accepted : accepted (file_of s) ≡ true
  unfolding accepted
  saved-accepted =
      let n : length (file_of s) ≡ 16464 = file-length s in
      and_both _ _ (eq-eqb (leading 1029 (file_of s)) 1029 (all-lead 1029 (file_of s) saved-good)) (le-leb (length (file_of s)) 16464 (omega arith))

  saved-elements : (old : List ℕ) → length old ≡ 1024 → elements_in 1024 (file_of s) old ≡ s.elements
  saved-elements old e =
      let l : length (elements_in 1024 (file_of s) old) ≡ length old = elements-length 1024 (file_of s) old in
      let m : length s.elements ≡ 1024 = held.count in
      ext_get_or 0 (elements_in 1024 (file_of s) old) s.elements (omega arith)
      (λ i h.
      element-at 1024 (file_of s) old i (omega arith) (omega arith)
      ∙ saved-contents i (omega arith)
      ∙ element-contents s i (omega arith))

  saved-control : control_in (file_of s) ≡ s.control
  unfolding contents_of
  saved-control =
      sym (control-made (file_of s) s.control.vlr s.control.vmr s.control.vcr s.control.vaer s.control.vpsr
      (sym (saved-contents 1024 (omega arith))) (sym (saved-contents 1025 (omega arith))) (sym (saved-contents 1026 (omega arith)))
      (sym (saved-contents 1027 (omega arith))) (sym (saved-contents 1028 (omega arith))))

  -- loading what was saved gives that state back, whatever state was there
  pub saved-loads : (old : State) → length old.elements ≡ 1024 → loading (file_of s) old ≡ outcome (Ok 0) s
  unfolding loading
  saved-loads old e =
      pick_true (accepted (file_of s)) _ _ saved-accepted
      ∙ (λ i. outcome (Ok 0) (state (saved-elements old.elements e i) (saved-control i)))

-- ---- a file that loads

module _ (file : List ℕ) (e : accepted file ≡ true) where
  good : (k : ℕ) → k < 1029 → good_record file k ≡ true
  unfolding accepted
  good = all-good 1029 file (eqb-true (leading 1029 file) 1029 (and_left _ _ e))

  part : (k : ℕ) → k < 1029 → good_part (record_at file k) k ≡ true
  unfolding good_record
  part k h = and_right (leb (k * 16 + 16) (length file)) _ (good k h)

  ranged : (k : ℕ) → k < 1029 → contents_in_range k (contents_in (record_at file k)) ≡ true
  unfolding good_part
  ranged k h = and_right (all_zero (filler_in (record_at file k))) _ (and_right (eqb (number_in (record_at file k)) k) _ (part k h))

  pub control-ranged : in_range (control_in file) ≡ true
  unfolding control_in in_range contents_in_range
  control-ranged =
      let lengths = and_both _ _ (ranged 1024 (omega arith)) (ranged 1026 (omega arith)) in
      and_both _ _ (and_both _ _ lengths (ranged 1027 (omega arith))) (ranged 1028 (omega arith))

module _ (file old : List ℕ) (count : length old ≡ 1024) (bytes : Bytes file) (e : accepted file ≡ true) where
  now : State
  now = state (elements_in 1024 file old) (control_in file)

  size : length file ≡ 16464
  unfolding accepted
  size =
      let h : 1028 * 16 + 16 ≤ length file = good-whole file 1028 (good file e 1028 (omega arith)) in
      let l : length file ≤ 16464 = leb-true (length file) 16464 (and_right (eqb (leading 1029 file) 1029) _ e) in
      omega arith

  part_length : (k : ℕ) → k < 1029 → length (record_at file k) ≡ 16
  part_length k h =
      let d : length (drop (k * 16) file) ≡ length file - k * 16 = length-drop (k * 16) file in
      length-take-le 16 (drop (k * 16) file) (omega (arith, size))

  part_bytes : (k : ℕ) → Bytes (record_at file k)
  part_bytes k = bytes_take 16 (drop (k * 16) file) (bytes_drop (k * 16) file bytes)

  now-contents : (k : ℕ) → k < 1029 → contents_of now k ≡ contents_in (record_at file k)
  unfolding contents_of control_in now
  now-contents =
      by-record (λ (k : ℕ). contents_of now k ≡ contents_in (record_at file k))
      (λ k h. element-contents now k h ∙ element-at 1024 file old k (omega arith) h)
      refl
      refl
      refl
      refl
      refl

  now-records : (n : ℕ) → n ≤ 1029 → records n now ≡ take (n * 16) file
  unfolding records
  now-records zero h = refl
  now-records (suc n) h =
      let m : n * 16 + 16 ≡ suc n * 16 = omega arith in
      let r : record_bytes n (contents_of now n) ≡ record_at file n =
      ap (record_bytes n) (now-contents n (omega arith))
      ∙ record-back (record_at file n) n (part_length n (omega arith)) (part_bytes n) (part file e n (omega arith)) in
      (λ i. now-records n (omega arith) i ++ r i) ∙ sym (take-add (n * 16) 16 file) ∙ ap (λ (k : ℕ). take k file) m

  now-file : file_of now ≡ file
  unfolding file_of
  now-file = now-records 1029 (omega arith) ∙ take_all 16464 file (omega (arith, size))

  fits : (k : ℕ) → k < 1029 → contents_in (record_at file k) < 2 ^ 64
  fits k h =
      let l : length (drop 8 (record_at file k)) ≡ 8 = length-drop 8 (record_at file k) ∙ omega (arith, part_length k h) in
      subst (λ (n : ℕ). contents_in (record_at file k) < 256 ^ n) l (number-below (drop 8 (record_at file k)) (bytes_drop 8 (record_at file k) (part_bytes k)))

  now-held : Held now
  unfolding now control_in in_range contents_in_range
  now-held =
      record {
        count = elements-length 1024 file old ∙ count;
        elements-fit = λ i. ⊎_elim
            (λ (h : i < 1024). rw (element-at 1024 file old i (omega arith) h) (fits i (omega arith)))
            (λ (h : 1024 ≤ i). rw (beyond i h) (omega arith))
            (below_or_not i 1024);
        mask_fits = fits 1025 (omega arith);
        ranged = control-ranged file e;
      }
    where
      beyond : (i : ℕ) → 1024 ≤ i → get_or (elements_in 1024 file old) i 0 ≡ 0
      beyond i h = get_or-eq_default (elements_in 1024 file old) 0 (omega (arith, elements-length 1024 file old))

-- a load is done exactly of an accepted file
judged : (file : List ℕ) (old : State) (o : Outcome State) → o ≡ loading file old → is_done o.answer ≡ accepted file
unfolding loading
judged file old o e = ap (λ (p : Outcome State). is_done p.answer) e ∙ either (accepted file) _ _
  where
    either : (b : Bool) (s : State) (k : ℕ) → is_done (pick b (outcome (Ok 0) s) (refused_state (Err (BadFile k)) old)).answer ≡ b
    either true s k = refl
    either false s k = refl

pub done-accepted : (file : List ℕ) (old : State) (o : Outcome State) → o ≡ loading file old → is_done o.answer ≡ true
    → (accepted file ≡ true) × (o.left ≡ state (elements_in 1024 file old.elements) (control_in file))
unfolding loading
done-accepted file old o e d =
    let a = sym (judged file old o e) ∙ d in (a, ap (λ (p : Outcome State). p.left) (e ∙ pick_true (accepted file) _ _ a))

-- a file that is refused is not accepted, and its first bad record is named
pub refused-at : (file : List ℕ) (old : State) (o : Outcome State) → o ≡ loading file old → is_done o.answer ≡ false
    → (accepted file ≡ false) × (o ≡ refused_state (Err (BadFile (leading 1029 file))) old)
unfolding loading
refused-at file old o e d = let a = sym (judged file old o e) ∙ d in (a, e ∙ pick-false (accepted file) _ _ a)

-- a file that loads gives a state that the machine can hold
pub loads-held : (file : List ℕ) (old s : State) → Bytes file → length old.elements ≡ 1024 → loading file old ≡ outcome (Ok 0) s → Held s
unfolding now
loads-held file old s bytes count e =
    let d = done-accepted file old (outcome (Ok 0) s) (sym e) refl in
    subst Held (sym d.1) (now-held file old.elements count bytes d.0)

-- a file that loads is the one its state would save
pub loads-saves : (file : List ℕ) (old s : State) → Bytes file → length old.elements ≡ 1024 → loading file old ≡ outcome (Ok 0) s → file_of s ≡ file
unfolding now
loads-saves file old s bytes count e =
    let d = done-accepted file old (outcome (Ok 0) s) (sym e) refl in
    ap file_of d.1 ∙ now-file file old.elements count bytes d.0

-- so saving a state that a file gave, into bytes with room for it, writes that file again
pub saves-again : (file : List ℕ) (old s : State) (room : List ℕ) → Bytes file → length old.elements ≡ 1024 → loading file old ≡ outcome (Ok 0) s
    → 16464 ≤ length room
    → saving s room ≡ outcome (Ok 0) (file ++ drop 16464 room)
saves-again file old s room bytes count e h =
    let held = loads-held file old s bytes count e in
    saves-done s room held.ranged h ∙ ap (λ (l : List ℕ). outcome (Ok 0) (l ++ drop 16464 room)) (loads-saves file old s bytes count e)

-- and loading the bytes that a save wrote gives the saved state
pub loads-again : (s old : State) (room : List ℕ) → Held s → length old.elements ≡ 1024 → 16464 ≤ length room
    → loading (take 16464 (saving s room).left) old ≡ outcome (Ok 0) s
loads-again s old room held count h =
    let w : take 16464 (saving s room).left ≡ file_of s =
    ap (λ (p : Outcome (List ℕ)). take 16464 p.left) (saves-done s room held.ranged h) ∙ take_at (file_of s) (drop 16464 room) 16464 (file-length s) in
    ap (λ (l : List ℕ). loading l old) w ∙ saved-loads s held old count
