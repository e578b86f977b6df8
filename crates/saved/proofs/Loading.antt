-- The loops that judge the records and that fill the elements. Assumes nothing.
use Rattle.std.specs.Prelude.{Ok, Err}
use mathlib.Core.Bool.{Bool, true, false, ◌&&◌, and-false}
use mathlib.Core.Path.{◌≡◌, refl, sym, ap, ◌∙◌}
use mathlib.Core.Logic.{⊎_elim}
use mathlib.Core.List.{List, [], ◌∷◌, ◌++◌, append-nil}
use Prim.Native.Nat.{ℕ, zero, suc, ◌+◌, ◌*◌, ◌/◌, ◌≤◌, ◌<◌}
use native.Mathlib.Nat.{eq-or-lt_of_le, le_of_suc-le-suc, not-suc-le-zero}
use native.Mathlib.Numerals.{add-one}
use native.Mathlib.Omega.{arith}
use lib.Dec.{eqb, leb}
use lib.ListN.{length, drop, set, get_or, length-append, drop_of_length-le}
use lib.Seq.{drop-cons, set_at, append_snoc}
use borrow.Author.Tests.{eq-eqb, ne_eqb, le-leb, lt-leb, eqb-true, leb-true}
use Rattle.numbers.specs.Choice.{pick}
use Rattle.numbers.proofs.Tests.{and_left, and_right}
use Rattle.state.specs.declared.answer.Refusal.TheVariants.{BadFile}
use Rattle.state.specs.Outcome.{outcome, refused_state}
use Rattle.state.specs.State.{State, state}
use Rattle.state.specs.declared.Control.{Control}
use Rattle.saved.specs.Load.{record_at, contents_in, good_part, good_record, leading, accepted, elements_in, control_in, first_contents, state_in, loading}

-- record k is missing or cut
pub cut : (file : List ℕ) (k : ℕ) → length file < k * 16 + 16 → good_record file k ≡ false
unfolding good_record
cut file k h = ap (λ (b : Bool). b && good_part (record_at file k) k) (lt-leb (k * 16 + 16) (length file) h)

-- record k is there, so that its own bytes decide
pub whole : (file : List ℕ) (k : ℕ) (b : Bool) (part : List ℕ) → k * 16 + 16 ≤ length file → part ≡ record_at file k → b ≡ good_part part k
    → good_record file k ≡ b
unfolding good_record
whole file k b part h e g =
    ap (λ (t : Bool). t && good_part (record_at file k) k) (le-leb (k * 16 + 16) (length file) h)
    ∙ sym (g ∙ ap (λ (bytes : List ℕ). good_part bytes k) e)

pub starts : (file : List ℕ) → leading 0 file ≡ 0
unfolding leading
starts file = refl

-- a good record after k good ones makes them k + 1
pub turns : (file : List ℕ) (k : ℕ) → leading k file ≡ k → good_record file k ≡ true → leading (k + 1) file ≡ k + 1
unfolding leading
turns file k e g = let t = eq-eqb (leading k file) k e in rw (add-one k, t, g)

-- a bad record after k good ones stops the count there
pub stops : (n : ℕ) (file : List ℕ) (k : ℕ) → k < n → leading k file ≡ k → good_record file k ≡ false → leading n file ≡ k
unfolding leading
stops zero file k h e g = absurd (not-suc-le-zero h)
stops (suc n) file k h e g =
    ⊎_elim
    (λ (q : k ≡ n). rw (← q, g, and-false (eqb (leading k file) k)) e)
    (λ (l : k < n).
    let i = stops n file k l e g in
    let ne : eqb (leading n file) n ≡ false = ne_eqb (leading n file) n (λ q. omega arith) in
    rw ne i)
    (eq-or-lt_of_le (le_of_suc-le-suc h))

-- the k records that the file has are good, at most 1,029
pub ends : (file : List ℕ) (k : ℕ) → k ≤ 1029 → k ≡ length file / 16 → leading k file ≡ k → k ≡ leading 1029 file
ends file k h n e =
    ⊎_elim
    (λ (q : k ≡ 1029). rw q (rw q at (sym e)))
    (λ (l : k < 1029). sym (stops 1029 file k l e (cut file k (omega arith))))
    (eq-or-lt_of_le h)

pub fill-starts : (file old : List ℕ) → old ≡ elements_in 0 file old
unfolding elements_in
fill-starts file old = refl

pub fill-turns : (file old now : List ℕ) (k v : ℕ) → now ≡ elements_in k file old → v ≡ contents_in (record_at file k)
    → set now k v ≡ elements_in (k + 1) file old
unfolding elements_in
fill-turns file old now k v e ev = rw (e, ev, add-one k)

pub control-made : (file : List ℕ) (vlr vmr vcr vaer vpsr : ℕ) → vlr ≡ contents_in (record_at file 1024)
    → vmr ≡ contents_in (record_at file 1025) → vcr ≡ contents_in (record_at file 1026) → vaer ≡ contents_in (record_at file 1027)
    → vpsr ≡ contents_in (record_at file 1028)
    → ◌≡◌ {A = Control} (record { vlr = vlr; vmr = vmr; vcr = vcr; vaer = vaer; vpsr = vpsr }) (control_in file)
unfolding control_in
control-made file vlr vmr vcr vaer vpsr e₀ e₁ e₂ e₃ e₄ = λ i. record { vlr = e₀ i; vmr = e₁ i; vcr = e₂ i; vaer = e₃ i; vpsr = e₄ i }

pub at_most : (n : ℕ) (file : List ℕ) → leading n file ≤ n
unfolding leading
at_most zero file = omega arith
at_most (suc n) file = either (eqb (leading n file) n && good_record file n) (at_most n file)
  where
    either : (b : Bool) → leading n file ≤ n → pick b (suc n) (leading n file) ≤ suc n
    either true h = omega arith
    either false h = omega arith

-- where n + 1 records lead, record n is good and n records lead
pub last-good : (n : ℕ) (file : List ℕ) → leading (suc n) file ≡ suc n → (leading n file ≡ n) × (good_record file n ≡ true)
unfolding leading
last-good n file e = either (eqb (leading n file) n && good_record file n) refl e
  where
    either : (b : Bool) → (eqb (leading n file) n && good_record file n) ≡ b → pick b (suc n) (leading n file) ≡ suc n
        → (leading n file ≡ n) × (good_record file n ≡ true)
    either true t q = (eqb-true (leading n file) n (and_left _ (good_record file n) t), and_right (eqb (leading n file) n) _ t)
    either false t q = absurd (omega (arith, at_most n file))

-- a good record is there whole
pub good-whole : (file : List ℕ) (k : ℕ) → good_record file k ≡ true → k * 16 + 16 ≤ length file
unfolding good_record
good-whole file k e = leb-true (k * 16 + 16) (length file) (and_left (leb (k * 16 + 16) (length file)) (good_part (record_at file k) k) e)

-- The answers. k is the number of leading records.
module _ (file : List ℕ) (k : ℕ) (e : k ≡ leading 1029 file) where
  judged : (eqb k 1029 && leb (length file) 16464) ≡ accepted file
  unfolding accepted
  judged = ap (λ (n : ℕ). eqb n 1029 && leb (length file) 16464) e

  -- whatever is tested beside the records
  pub room : (b : Bool) → (eqb k 1029 && b) ≡ true → 16464 ≤ length file
  room b t =
      let n : k ≡ 1029 = eqb-true k 1029 (and_left (eqb k 1029) b t) in
      good-whole file 1028 (last-good 1028 file (sym e ∙ n)).1

  pub loads : (els old : List ℕ) (c c₀ : Control) → (eqb k 1029 && leb (length file) 16464) ≡ true → els ≡ elements_in 1024 file old → c ≡ control_in file
      → outcome (Ok 0) (state els c) ≡ loading file (state old c₀)
  unfolding loading
  loads els old c c₀ t q p = let a = sym judged ∙ t in rw (q, p, a)

  pub refuses : (s : State) → (eqb k 1029 && leb (length file) 16464) ≡ false → refused_state (Err (BadFile k)) s ≡ loading file s
  unfolding loading
  refuses s t = let a = sym judged ∙ t in rw (a, ← e) refl

first-length : (n : ℕ) (file : List ℕ) → length (first_contents n file) ≡ n
unfolding first_contents
first-length zero file = refl
first-length (suc n) file =
    let e : length (first_contents n file) ≡ n = first-length n file in
    length-append (first_contents n file) (contents_in (record_at file n) ∷ []) ∙ omega arith

filled : (n : ℕ) (file old : List ℕ) → n ≤ length old → elements_in n file old ≡ first_contents n file ++ drop n old
unfolding elements_in first_contents
filled zero file old h = refl
filled (suc n) file old h =
    let v : ℕ = contents_in (record_at file n) in
    ap (λ (l : List ℕ). set l n v) (filled n file old (omega arith))
    ∙ ap (λ (l : List ℕ). set (first_contents n file ++ l) n v) (drop-cons old n 0 h)
    ∙ set_at (first_contents n file) (get_or old n 0) (drop (suc n) old) v n (first-length n file)
    ∙ sym (append_snoc (first_contents n file) v (drop (suc n) old))

-- over any 1,024 elements an accepted file gives its own state
pub gives-state : (file old : List ℕ) → length old ≡ 1024 → state (elements_in 1024 file old) (control_in file) ≡ state_in file
unfolding state_in
gives-state file old e =
    let h : 1024 ≤ length old = omega arith in
    let d : length old ≤ 1024 = omega arith in
    ap (λ (l : List ℕ). state l (control_in file)) (filled 1024 file old h ∙ rw (drop_of_length-le old d) (append-nil (first_contents 1024 file)))
