-- The queue's own order of steps is its run straight through: the steps of position k, rising, are its instruction done whole.
-- Assumes nothing.
use mathlib.Core.Path.{◌≡◌, refl, sym, ap, ap₂, ◌∙◌, subst}
use mathlib.Core.Bool.{Bool, true, false}
use mathlib.Core.List.{List, [], ◌∷◌, ◌++◌}
use Prim.Native.Nat.{ℕ, zero, suc, ◌+◌, ◌*◌, ◌<◌, ◌≤◌}
use native.Mathlib.Nat.{zero-add, add-zero, suc-add}
use native.Mathlib.Numerals.{add-one}
use native.Mathlib.Omega.{arith}
use lib.Dec.{T}
use Rattle.numbers.specs.Choice.{pick}
use Rattle.numbers.specs.Rising.{rising}
use Rattle.numbers.proofs.Rising.{settles}
use Rattle.numbers.proofs.Tests.{pick_true, pick-false}
use Rattle.opcodes.specs.Opcodes.{in_one_step}
use Rattle.machine.specs.Run.{Run}
use Rattle.machine.specs.Instruction.{step_of, steps_below, step_count, whole_of}
use Rattle.touch.specs.Parts.{Queue, size, instruction_at, scalar_at}
use Rattle.queue.specs.Queue.{straight}
use Rattle.order.specs.Order.{Mem, run}
use Rattle.order.specs.Steps.{position, element, passing}
use Rattle.touch.specs.Touch.{is_step, steps_of, act}
use Rattle.order.proofs.Tests.{true-T, false-T}
use Rattle.order.proofs.RunLoop.{run-append}
use Rattle.order.proofs.Passing.{passing→}
use Rattle.touch.proofs.Steps.{step-element, makes-step}

module _ (p : ℕ → Bool) where
  -- the first a numbers, and the b after them
  passing-append : (i a b : ℕ) → passing p i (a + b) ≡ passing p i a ++ passing p (i + a) b
  unfolding passing
  passing-append i zero b = ap₂ (passing p) (sym (add-zero i)) (zero-add b)
  passing-append i (suc a) b =
      ap (passing p i) (suc-add a b)
      ∙ ap (λ (l : List ℕ). pick (p i) (i ∷ l) l) (passing-append (suc i) a b ∙ ap (λ (k : ℕ). passing p (suc i) a ++ passing p k b) (omega arith))
      ∙ out (p i) (passing p (suc i) a) (passing p (i + suc a) b)
    where
      out : (t : Bool) (l m : List ℕ) → pick t (i ∷ (l ++ m)) (l ++ m) ≡ pick t (i ∷ l) l ++ m
      out true l m = refl
      out false l m = refl

  -- one number more
  passing-last : (i n : ℕ) → passing p i (suc n) ≡ passing p i n ++ pick (p (i + n)) ((i + n) ∷ []) []
  unfolding passing
  passing-last i n = ap (passing p i) (sym (add-one n)) ∙ passing-append i n 1

-- the step of element e of position k, if its number passes the test
abbrev step_if : Queue → (ℕ → Bool) → ℕ → ℕ → Run → Run
step_if q p k e r = pick (p (k * 64 + e)) (step_of (instruction_at q k) (scalar_at q k) e r) r

module _ (q : Queue) (k : ℕ) where
  -- the numbers of position k
  at_position_lem : (e : ℕ) → e < 64 → position (k * 64 + e) ≡ k
  at_position_lem e b = omega arith

  at-element : (e : ℕ) → e < 64 → element (k * 64 + e) ≡ e
  at-element e b = omega arith

  acts : (e : ℕ) → e < 64 → (r : Run) → act q (k * 64 + e) r ≡ step_of (instruction_at q k) (scalar_at q k) e r
  unfolding act
  acts e b r = ap₂ (λ (x y : ℕ). step_of (instruction_at q x) (scalar_at q x) y r) (at_position_lem e b) (at-element e b)

  -- a step of position k is one of its elements below the count
  counted : (vlr e : ℕ) → e < 64 → T (is_step q vlr (k * 64 + e)) → e < step_count (instruction_at q k) vlr
  counted vlr e b t =
      subst (λ (x : ℕ). x < step_count (instruction_at q k) vlr) (at-element e b)
      (subst (λ (x : ℕ). element (k * 64 + e) < step_count (instruction_at q x) vlr) (at_position_lem e b) (step-element q vlr (k * 64 + e) t))

  module _ (p : ℕ → Bool) where
    -- those of the first c of them that pass a test
    some-steps : (c : ℕ) → c ≤ 64 → (r : Run) → run (act q) (passing p (k * 64) c) r ≡ rising (step_if q p k) c r
    unfolding run passing rising
    some-steps zero b r = refl
    some-steps (suc c) b r =
        ap (λ (l : List ℕ). run (act q) l r) (passing-last p (k * 64) c)
        ∙ run-append (act q) (passing p (k * 64) c) (pick (p (k * 64 + c)) ((k * 64 + c) ∷ []) []) r
        ∙ last (p (k * 64 + c)) (run (act q) (passing p (k * 64) c) r)
        ∙ ap (step_if q p k c) (some-steps c (omega arith) r)
      where
        last : (t : Bool) (s : Run) → run (act q) (pick t ((k * 64 + c) ∷ []) []) s ≡ pick t (step_of (instruction_at q k) (scalar_at q k) c s) s
        last true s = acts c b s
        last false s = refl

    -- the steps that pass a test, of one position more
    next-position : (r : Run) → run (act q) (passing p 0 (suc k * 64)) r ≡ rising (step_if q p k) 64 (run (act q) (passing p 0 (k * 64)) r)
    next-position r =
        ap (λ (l : List ℕ). run (act q) l r)
        (ap (passing p 0) more
        ∙ passing-append p 0 (k * 64) 64
        ∙ ap (λ (n : ℕ). passing p 0 (k * 64) ++ passing p n 64) (zero-add (k * 64)))
        ∙ run-append (act q) (passing p 0 (k * 64)) (passing p (k * 64) 64) r
        ∙ some-steps 64 (omega arith) (run (act q) (passing p 0 (k * 64)) r)
      where
        more : suc k * 64 ≡ k * 64 + 64
        more = omega arith

module _ (q : Queue) (vlr : ℕ) (k : ℕ) (h : k < size q) where
  passes : (e : ℕ) → e < 64 → e < step_count (instruction_at q k) vlr → is_step q vlr (k * 64 + e) ≡ true
  passes e b c =
      true-T _
      (makes-step q vlr (k * 64 + e) (rw (at_position_lem q k e b) h)
      (rw (at-element q k e b) (subst (λ (x : ℕ). e < step_count (instruction_at q x) vlr) (sym (at_position_lem q k e b)) c)))

  fails : (e : ℕ) → e < 64 → step_count (instruction_at q k) vlr ≤ e → is_step q vlr (k * 64 + e) ≡ false
  fails e b c = false-T _ (λ t. no_step (counted q k vlr e b t))
    where
      no_step : e < step_count (instruction_at q k) vlr → ⊥
      no_step z = omega arith

  -- the first c of them
  first-steps : (c : ℕ) → c ≤ 64 → c ≤ step_count (instruction_at q k) vlr → (r : Run)
      → rising (step_if q (is_step q vlr) k) c r ≡ steps_below c (instruction_at q k) (scalar_at q k) r
  unfolding rising steps_below
  first-steps zero b s r = refl
  first-steps (suc c) b s r =
      pick_true (is_step q vlr (k * 64 + c)) _ _ (passes c (omega arith) (omega arith))
      ∙ ap (step_of (instruction_at q k) (scalar_at q k) c) (first-steps c (omega arith) (omega arith) r)

  -- all of them: the instruction whole
  whole-steps : vlr ≤ 64 → (r : Run) → r.control.vlr ≡ vlr → rising (step_if q (is_step q vlr) k) 64 r ≡ whole_of (instruction_at q k) (scalar_at q k) r
  unfolding whole_of
  whole-steps few r e =
      sym (settles (step_if q (is_step q vlr) k) (rising (step_if q (is_step q vlr) k) count r) r count 64 most
      (λ j l b. pick-false (is_step q vlr (k * 64 + j)) _ _ (fails j b l)) refl)
      ∙ first-steps count most (omega arith) r
      ∙ ap (λ (n : ℕ). steps_below (step_count (instruction_at q k) n) (instruction_at q k) (scalar_at q k) r) (sym e)
    where
      count : ℕ
      count = step_count (instruction_at q k) vlr

      few-steps : (t : Bool) → pick t 1 vlr ≤ 64
      few-steps true = omega arith
      few-steps false = few

      most : step_count (instruction_at q k) vlr ≤ 64
      most = few-steps (in_one_step (instruction_at q k))

-- `keeps`: no step writes VLR
module _ (q : Queue) (vlr : ℕ) (few : vlr ≤ 64) (r : Run)
    (keeps : (l : List ℕ) → ((x : ℕ) → Mem x l → T (is_step q vlr x)) → (run (act q) l r).control.vlr ≡ vlr)
  where
    positions-straight : (m : ℕ) → m ≤ size q → run (act q) (passing (is_step q vlr) 0 (m * 64)) r ≡ straight q m r
    unfolding run passing straight
    positions-straight zero b = refl
    positions-straight (suc m) b =
        next-position q m (is_step q vlr) r
        ∙ whole-steps q vlr m b few (run (act q) (passing (is_step q vlr) 0 (m * 64)) r)
        (keeps (passing (is_step q vlr) 0 (m * 64)) (λ x i. (passing→ (is_step q vlr) x 0 (m * 64) i).2))
        ∙ ap (whole_of (instruction_at q m) (scalar_at q m)) (positions-straight m (omega arith))

    -- THE QUEUE'S OWN ORDER
    pub steps-straight : run (act q) (steps_of q vlr) r ≡ straight q (size q) r
    unfolding steps_of
    steps-straight = positions-straight (size q) (omega arith)
