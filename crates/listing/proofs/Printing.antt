-- What the calls print: a state, line by line, an answer, a file. Assumes nothing.
use Rattle.std.specs.Prelude.{Result, Ok, Err}
use mathlib.Core.Bool.{Bool, true, false, not}
use mathlib.Core.List.{List, [], ◌∷◌}
use mathlib.Core.Path.{◌≡◌, refl, sym, ap, ◌∙◌}
use Prim.Native.Nat.{ℕ, zero, suc, ◌+◌, ◌*◌, ◌/◌, ◌%◌, ◌≤◌, ◌<◌}
use native.Mathlib.Numerals.{add-one}
use native.Mathlib.Omega.{arith}
use lib.Dec.{eqb}
use lib.ListN.{length, take, get_or, length-append}
use lib.Seq.{length-take-le}
use borrow.Author.Tests.{eq-eqb, ne_eqb, not-true, not-false, leb-true, le-leb, lt-leb}
use Rattle.numbers.specs.Choice.{pick}
use Rattle.numbers.specs.Over.{over}
use Rattle.numbers.proofs.Tests.{pick_true, pick-false}
use Rattle.state.specs.declared.answer.Refusal.{Refusal}
use Rattle.state.specs.declared.answer.Refusal.TheVariants.{BadFile, OutOfRange}
use Rattle.state.specs.Answer.{Answer, number_of, beside_of, refusal_beside, answered}
use Rattle.state.specs.Outcome.{Outcome, outcome, control_left}
use Rattle.state.specs.State.{State, state, in_range}
use Rattle.state.specs.declared.Control.{Control}
use Rattle.saved.specs.Load.{accepted, leading, state_in, loading}
use Rattle.saved.proofs.Loading.{gives-state}
use Rattle.saved.proofs.RoundTrip.{ranges, control-ranged, done-accepted, refused-at}
use Rattle.listing.specs.Text.{digits, width_of, line, element_line, element_text, element_lines, control_lines}
use Rattle.listing.specs.Text.{listing, bad_line, answer_line, listed, printed, state_listed, file_listed, answer_listed}
use Rattle.listing.specs.declared.write.Writer.{Writer}
use Rattle.listing.specs.Working.{Wrote, Writes}
use Rattle.listing.proofs.Writing.{writes-none, writes-both, digits-length, line-length, element-length, WritesLine, WritesDigits}
use Rattle.listing.proofs.Width.{width_two, width-twenty}

-- ---- one element

pub none-writes : (w : Writer) (k v : ℕ) → v ≡ 0 → Writes w w (element_text k v) × (w.at ≤ w.at + 25)
unfolding element_text
none-writes w k v e = let z = eq-eqb v 0 e in (rw z (writes-none w), omega arith)

pub one-writes : {w₀ w₁ : Writer} (k v : ℕ) → (v ≡ 0 → ⊥) → Writes w₀ w₁ (element_line (k / 64) (k % 64) v)
    → Writes w₀ w₁ (element_text k v) × (w₁.at ≤ w₀.at + 25)
unfolding element_text
one-writes k v e p =
    let n = element-length (k / 64) (k % 64) v in let z = ne_eqb v 0 e in (rw z p, omega (arith, p.wrote.place))

-- ---- the loop over the elements

pub starts : (w : Writer) (els : List ℕ) → Writes w w (element_lines 0 els)
unfolding element_lines
starts w els = writes-none w

pub turns : {w₀ w₁ w₂ : Writer} (els : List ℕ) (k : ℕ) → Writes w₀ w₁ (element_lines k els)
    → Writes w₁ w₂ (element_text k (get_or els k 0)) → w₁.at ≤ length w₀.text.now → Writes w₀ w₂ (element_lines (k + 1) els)
unfolding element_lines
turns els k p q h = rw (add-one k) (writes-both p (omega (arith, p.wrote.place)) q)

-- ---- a text into lent bytes

module _ (room : ℕ) (text t₀ : List ℕ) where
  pub no_room : length t₀ < room → outcome (Err (BadFile 0)) t₀ ≡ printed room text t₀
  unfolding printed
  no_room h = let l = lt-leb room (length t₀) h in rw l

  has_room : room ≤ length t₀ → printed room text t₀ ≡ outcome (Ok (length text)) (over t₀ 0 text)
  unfolding printed
  has_room h = let l = le-leb room (length t₀) h in rw l

  -- a text that was written from the start on is printed
  pub wrote-printed : {t₁ : List ℕ} {n : ℕ} → room ≤ length t₀ → Wrote t₀ t₁ 0 n text → outcome (Ok n) t₁ ≡ printed room text t₀
  wrote-printed {n = n} h w =
      let z : n ≡ length text = omega (arith, w.place) in
      (λ i. outcome (Ok (z i)) (w.bytes i)) ∙ sym (has_room h)

  -- the same, by a writer that began at the start
  pub writes-printed : {w₀ w₁ : Writer} → room ≤ length t₀ → w₀.text.now ≡ t₀ → w₀.at ≡ 0 → Writes w₀ w₁ text
      → outcome (Ok w₁.at) w₁.text.now ≡ printed room text t₀
  writes-printed {w₀} {w₁} h et ea w =
      let p : Wrote t₀ w₁.text.now 0 w₁.at text = rw (← et, ← ea) w.wrote in wrote-printed h p

  -- what a call that printed it answered, and left, where there is room
  module _ (told : Answer) (t₁ : List ℕ) (e : outcome told t₁ ≡ printed room text t₀) (n : ℕ) (is : n ≡ beside_of told) where
    pub printed-wrote : room ≤ length t₀ → Wrote t₀ t₁ 0 n text
    printed-wrote h =
        let p = e ∙ has_room h in
        let z : n ≡ length text = is ∙ ap (λ (o : Outcome (List ℕ)). beside_of o.answer) p in
        record { bytes = ap (λ (o : Outcome (List ℕ)). o.left) p; place = omega arith }

    -- a text that the room holds lies within the bytes lent
    pub printed-within : length t₀ ≡ room → length text ≤ room → length t₁ ≡ length t₀ → n ≤ length t₁
    printed-within h g kept = omega (arith, (printed-wrote (omega arith)).place)

    pub printed-part : length t₀ ≡ room → length text ≤ room → length t₁ ≡ length t₀ → n ≡ length (take n t₁)
    printed-part h g kept = sym (length-take-le n t₁ (printed-within h g kept))

-- ---- a state

pub lengths : (c : Control) → in_range c ≡ true → (c.vlr ≤ 64) × (c.vcr ≤ 64)
lengths c e = let r = ranges c e in (leb-true c.vlr 64 r.0, leb-true c.vcr 64 r.1)

-- the test of the range was passed
pub passed : (c : Control) (fit : Bool) → fit ≡ in_range c → not fit ≡ false → in_range c ≡ true
passed c fit e u = sym e ∙ not-false fit u

module _ (els t₀ : List ℕ) (c : Control) where
  pub out_of_range_lem : (fit : Bool) → fit ≡ in_range c → not fit ≡ true → outcome (Err OutOfRange) t₀ ≡ state_listed (state els c) t₀
  unfolding state_listed
  out_of_range_lem fit e u = let g = sym e ∙ not-true fit u in rw g

  module _ (ranged : in_range c ≡ true) where
    pub ranged-listed : state_listed (state els c) t₀ ≡ printed 25663 (listing (state els c)) t₀
    unfolding state_listed
    ranged-listed = rw ranged

    pub state-no-room : length t₀ < 25663 → outcome (Err (BadFile 0)) t₀ ≡ state_listed (state els c) t₀
    state-no-room h = no_room 25663 (listing (state els c)) t₀ h ∙ sym ranged-listed

    pub state-listed : {w₀ w₁ w₂ : Writer} → 25663 ≤ length t₀ → w₀.text.now ≡ t₀ → w₀.at ≡ 0
        → Writes w₀ w₁ (element_lines 1024 els) × (w₁.at ≤ w₀.at + 25600)
        → Writes w₁ w₂ (control_lines c) → outcome (Ok w₂.at) w₂.text.now ≡ state_listed (state els c) t₀
    unfolding listing
    state-listed room et ea p q =
        let l = ap length et in
        writes-printed 25663 (listing (state els c)) t₀ room et ea (writes-both p.0 (omega (arith, p.0.wrote.place)) q)
        ∙ sym ranged-listed

-- ---- an answer

pub answer-line-length : (a : Answer) → length (answer_line a) ≤ 42
unfolding answer_line
answer-line-length a =
    let w₀ : width_of (number_of a) ≤ 20 = width-twenty (number_of a) (width_of (number_of a)) refl in
    let w₁ : width_of (beside_of a) ≤ 20 = width-twenty (beside_of a) (width_of (beside_of a)) refl in
    simp (length-append, digits-length, line-length) (omega arith)

pub answer-listed : {w₀ w₁ w₂ : Writer} (t₀ : List ℕ) (a : Answer) (x b n₀ n₁ : ℕ) → 42 ≤ length t₀ → w₀.text.now ≡ t₀ → w₀.at ≡ 0
    → x ≡ number_of a → b ≡ beside_of a → n₀ ≡ width_of x → WritesDigits w₀ w₁ 10 n₀ x → n₁ ≡ width_of b
    → WritesLine w₁ w₂ (32 ∷ []) 10 n₁ b → outcome (Ok w₂.at) w₂.text.now ≡ answer_listed a t₀
unfolding answer_line
answer-listed {w₀} {w₁} {w₂} t₀ a x b n₀ n₁ room et ea ex eb e₀ d e₁ l =
    let v : Writes w₀ w₁ (digits 10 (width_of (number_of a)) (number_of a)) = rw (← ex, ← e₀) d.0 in
    let y : Writes w₁ w₂ (line (32 ∷ []) 10 (width_of (beside_of a)) (beside_of a)) = rw (← eb, ← e₁) l.0 in
    let f : width_of (number_of a) ≤ 20 = width-twenty (number_of a) (width_of (number_of a)) refl in
    let k = digits-length 10 (width_of (number_of a)) (number_of a) in
    let h = ap length et in
    writes-printed 42 (answer_line a) t₀ room et ea (writes-both v (omega arith) y)

-- ---- a file: what loading it gave and left

module _ (file old els t₀ : List ℕ) (c₀ : Control) (r : Result Control Refusal)
    (e : outcome (answered r) (state els (control_left c₀ r)) ≡ loading file (state old c₀)) where
  -- one that loaded, whose state was listed
  pub loaded-listed : (t₁ : List ℕ) (c : Control) (a : Answer) → r ≡ Ok c → length old ≡ 1024 → outcome a t₁ ≡ state_listed (state els c) t₀
      → outcome a t₁ ≡ file_listed file t₀
  unfolding listed
  loaded-listed t₁ c a u count q =
      let here : outcome (Ok 0) (state els c) ≡ loading file (state old c₀) =
      ap (λ (x : Result Control Refusal). outcome (answered x) (state els (control_left c₀ x))) (sym u) ∙ e in
      let d = done-accepted file (state old c₀) (outcome (Ok 0) (state els c)) here refl in
      let s : state els c ≡ state_in file = d.1 ∙ gives-state file old count in
      q
      ∙ ranged-listed els t₀ c (ap (λ (x : State). in_range x.control) d.1 ∙ control-ranged file d.0)
      ∙ ap (λ (l : List ℕ). printed 25663 l t₀) (ap listing s ∙ sym (pick_true (accepted file) (listing (state_in file)) _ d.0))

  -- one that was refused, whose first bad record was named
  pub refused-listed : {w₀ w₁ : Writer} (why : Refusal) (first n : ℕ) → 25663 ≤ length t₀ → w₀.text.now ≡ t₀ → w₀.at ≡ 0
      → r ≡ Err why → first ≡ refusal_beside why → n ≡ width_of first
      → WritesLine w₀ w₁ (98 ∷ 97 ∷ 100 ∷ 32 ∷ 114 ∷ 101 ∷ 99 ∷ 111 ∷ 114 ∷ 100 ∷ 32 ∷ []) 10 n first
      → outcome (Ok w₁.at) w₁.text.now ≡ file_listed file t₀
  unfolding listed bad_line
  refused-listed {w₀} {w₁} why first n room et ea u at ew p =
      let x : Outcome State = outcome (Err why) (state els (control_left c₀ (Err why))) in
      let here : x ≡ loading file (state old c₀) =
      ap (λ (y : Result Control Refusal). outcome (answered y) (state els (control_left c₀ y))) (sym u) ∙ e in
      let d = refused-at file (state old c₀) x here refl in
      let f : first ≡ leading 1029 file = at ∙ ap (λ (o : Outcome State). beside_of o.answer) d.1 in
      let y : Writes w₀ w₁ (bad_line first) = rw (← ew) p.0 in
      writes-printed 25663 (bad_line first) t₀ room et ea y
      ∙ ap (λ (t : List ℕ). printed 25663 t t₀) (ap bad_line f ∙ sym (pick-false (accepted file) _ (bad_line (leading 1029 file)) d.0))

-- ---- 25,663 bytes hold every listing

element-text-length : (k v : ℕ) → length (element_text k v) ≤ 25
unfolding element_text
element-text-length k v = either (eqb v 0)
  where
    either : (b : Bool) → length (pick b [] (element_line (k / 64) (k % 64) v)) ≤ 25
    either true = omega arith
    either false = omega (arith, element-length (k / 64) (k % 64) v)

element-lines-length : (n : ℕ) (els : List ℕ) → length (element_lines n els) ≤ 25 * n
unfolding element_lines
element-lines-length zero els = omega arith
element-lines-length (suc n) els =
    let i : length (element_lines n els) ≤ 25 * n = element-lines-length n els in
    let t : length (element_text n (get_or els n 0)) ≤ 25 = element-text-length n (get_or els n 0) in
    simp length-append (omega arith)

control-length : (c : Control) → in_range c ≡ true → length (control_lines c) ≤ 63
unfolding control_lines
control-length c e =
    let h = lengths c e in
    let w₀ : width_of c.vlr ≤ 2 = width_two c.vlr (width_of c.vlr) h.0 refl in
    let w₁ : width_of c.vcr ≤ 2 = width_two c.vcr (width_of c.vcr) h.1 refl in
    simp (length-append, line-length) (omega arith)

pub listing-length : (s : State) → in_range s.control ≡ true → length (listing s) ≤ 25663
unfolding listing
listing-length s e =
    let a : length (element_lines 1024 s.elements) ≤ 25 * 1024 = element-lines-length 1024 s.elements in
    let b : length (control_lines s.control) ≤ 63 = control-length s.control e in
    simp length-append (omega arith)

pub listed-length : (file : List ℕ) → length (listed file) ≤ 25663
unfolding listed bad_line state_in
listed-length file = either (accepted file) refl
  where
    either : (b : Bool) → accepted file ≡ b → length (pick b (listing (state_in file)) (bad_line (leading 1029 file))) ≤ 25663
    either true e = listing-length (state_in file) (control-ranged file e)
    either false e =
        let w : width_of (leading 1029 file) ≤ 20 = width-twenty (leading 1029 file) (width_of (leading 1029 file)) refl in
        simp line-length (omega arith)
