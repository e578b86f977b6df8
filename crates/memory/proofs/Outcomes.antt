-- A memory instruction that is refused leaves the state, the marks and the window as they were. It is done exactly where the window is allowed and every
-- operated element is aligned and lies in it; then it has moved them. Assumes nothing.
use Rattle.std.specs.Prelude.{Ok as Done, Err}
use Rattle.std.proofs.Common.{◌≡◌, ℕ, zero, suc, ◌+◌, ◌-◌, ◌%◌, ◌<◌, ◌≤◌, Bool, true, false, ◌&&◌, eqb, leb, List, length, refl, ap, ◌∙◌, ap₂, arith, eq-eqb, eqb-true, le-leb, leb-true}
use Rattle.numbers.specs.Choice.{pick}
use Rattle.numbers.specs.Rising.{rising}
use Rattle.numbers.proofs.Tests.{and_left, and_right, and_both}
use Rattle.state.specs.declared.answer.Refusal.TheVariants.{WindowRefused}
use Rattle.state.specs.Answer.{is_done}
use Rattle.state.specs.Outcome.{after_refusal, refused_window}
use Rattle.state.specs.Marks.{Marked, marked}
use Rattle.state.specs.State.{state}
use Rattle.opcodes.specs.declared.Instruction.{Instruction}
use Rattle.opcodes.specs.Masking.{operated}
use Rattle.memory.specs.Works.{is_store, is_quadword, size_of}
use Rattle.memory.specs.Window.{allowed}
use Rattle.memory.specs.Address.{Test, Search, address_of, found, test_of, saying, or_else, verdict as verdict_of, test_step, tested}
use Rattle.memory.specs.Move.{moves_by, unless_bad, moved_of}
use Rattle.memory.proofs.Testing.{all-fine}

-- an element of size bytes that is fine, at an address, in a window from origin to end
pub record Fits (size origin end address : ℕ) : Type 0 where
  pub aligned : address % size ≡ 0
  pub from : origin ≤ address
  pub to : address + size ≤ end

fits : (size origin end address : ℕ) → test_of size origin end address ≡ Done tt → Fits size origin end address
unfolding test_of
fits size origin end address e =
    let f = both (eqb (address % size) 0) (leb origin address && leb (address + size) end) e in
    record {
      aligned = eqb-true (address % size) 0 f.0;
      from = leb-true origin address (and_left (leb origin address) (leb (address + size) end) f.1);
      to = leb-true (address + size) end (and_right (leb origin address) (leb (address + size) end) f.1);
    }
  where
    both : (a b : Bool) → found a b ≡ Done tt → (a ≡ true) × (b ≡ true)
    both true true e = (refl, refl)
    both true false e = cc
    both false b e = cc

fine : (size origin end address : ℕ) → Fits size origin end address → test_of size origin end address ≡ Done tt
unfolding test_of
fine size origin end address f =
    ap₂ found (eq-eqb (address % size) 0 f.aligned)
    (and_both (leb origin address) (leb (address + size) end) (le-leb origin address f.from) (le-leb (address + size) end f.to))

-- where no chosen element is bad none is found
none-bad : (chosen : ℕ → Bool) (tests : ℕ → Test) (n : ℕ) → ((i : ℕ) → i < n → chosen i ≡ true → tests i ≡ Done tt) → tested chosen tests n ≡ Done tt
unfolding rising test_step
none-bad chosen tests zero all = refl
none-bad chosen tests (suc n) all =
    by (chosen n) refl (none-bad chosen tests n (λ i h. all i (omega arith)))
  where
    by : (t : Bool) → chosen n ≡ t → tested chosen tests n ≡ Done tt → or_else (tested chosen tests n) (saying n (verdict_of t (tests n))) ≡ Done tt
    by true c e = ap₂ (λ (a : Search) (t : Test). or_else a (saying n t)) e (all n (omega arith) c)
    by false c e = ap (λ (a : Search). or_else a (Done tt)) e

module _ (b : Marked) (ins : Instruction) (base stride : ℕ) (w : List ℕ) (origin : ℕ) where
  abbrev size : ℕ
  size = size_of (is_quadword ins.work)

  abbrev address : ℕ → ℕ
  address i = address_of ins base stride b.state.elements i

  abbrev place : ℕ → ℕ
  place i = address i - origin

  abbrev tests : ℕ → Test
  tests i = test_of size origin (origin + length w) (address i)

  abbrev moves : List ℕ × List ℕ × List ℕ
  moves =
      moves_by (is_store ins.work) (is_quadword ins.work) ins.vc.0 (operated ins b.state.control) place b.state.control.vlr
      b.state.elements b.marks w

  abbrev verdict : Search
  verdict = tested (operated ins b.state.control) tests b.state.control.vlr

  -- ---- refused
  kept-unless : (a : Search) (m : List ℕ × List ℕ × List ℕ) → is_done (unless_bad a b w m).answer ≡ false → (unless_bad a b w m).left ≡ (b, w)
  unfolding after_refusal
  kept-unless (Done _) m e = cc
  kept-unless (Err r) m e = refl

  pub moved-kept : is_done (moved_of b ins base stride w origin).answer ≡ false → (moved_of b ins base stride w origin).left ≡ (b, w)
  unfolding moved_of after_refusal
  moved-kept = at (allowed (length w) origin)
    where
      at : (t : Bool) → is_done (pick t (unless_bad verdict b w moves) (refused_window (Err WindowRefused) b w)).answer ≡ false
          → (pick t (unless_bad verdict b w moves) (refused_window (Err WindowRefused) b w)).left ≡ (b, w)
      at true e = kept-unless verdict moves e
      at false e = refl

  -- ---- done
  pub record Ok : Type 0 where
    pub window : allowed (length w) origin ≡ true
    pub fit : (i : ℕ) → i < b.state.control.vlr → operated ins b.state.control i ≡ true → Fits size origin (origin + length w) (address i)
    pub moved : (moved_of b ins base stride w origin).left ≡ (marked (state moves.0 b.state.control) moves.1, moves.2)

  fine-unless : (a : Search) (m : List ℕ × List ℕ × List ℕ) → is_done (unless_bad a b w m).answer ≡ true → a ≡ Done tt
  fine-unless (Done _) m e = refl
  fine-unless (Err r) m e = cc

  pub moved-done : is_done (moved_of b ins base stride w origin).answer ≡ true → Ok
  unfolding moved_of
  moved-done d = at (allowed (length w) origin) refl d
    where
      at : (t : Bool) → allowed (length w) origin ≡ t
          → is_done (pick t (unless_bad verdict b w moves) (refused_window (Err WindowRefused) b w)).answer ≡ true → Ok
      at true e d =
          let fine : verdict ≡ Done tt = fine-unless verdict moves d in
          record {
            window = e;
            fit = λ i h c. fits size origin (origin + length w) (address i)
                (all-fine (operated ins b.state.control) tests b.state.control.vlr i fine h c);
            moved = ap (λ (t : Bool). (pick t (unless_bad verdict b w moves) (refused_window (Err WindowRefused) b w)).left) e
                ∙ ap (λ (a : Search). (unless_bad a b w moves).left) fine;
          }
      at false e d = cc

  -- and so it is done
  pub done-if : allowed (length w) origin ≡ true
      → ((i : ℕ) → i < b.state.control.vlr → operated ins b.state.control i ≡ true → Fits size origin (origin + length w) (address i))
      → (moved_of b ins base stride w origin).answer ≡ Done 0
  unfolding moved_of
  done-if window fit =
      ap (λ (t : Bool). (pick t (unless_bad verdict b w moves) (refused_window (Err WindowRefused) b w)).answer) window
      ∙ ap (λ (a : Search). (unless_bad a b w moves).answer)
      (none-bad (operated ins b.state.control) tests b.state.control.vlr (λ i h c. fine size origin (origin + length w) (address i) (fit i h c)))
