-- The run straight through, as the code's loop does it. Assumes nothing.
use Rattle.std.specs.Prelude.{Ok, Err}
use mathlib.Core.Path.{◌≡◌, refl, ap, ◌∙◌}
use mathlib.Core.Bool.{Bool, true, false}
use mathlib.Core.List.{List}
use Prim.Native.Nat.{ℕ, zero, suc, ◌<◌, ◌≤◌}
use native.Mathlib.Omega.{arith}
use lib.ListN.{get_or}
use Rattle.numbers.specs.Choice.{pick}
use Rattle.numbers.specs.Rising.{rising}
use Rattle.opcodes.specs.declared.Instruction.{Instruction}
use Rattle.opcodes.specs.Decoding.{Decoded}
use Rattle.opcodes.specs.Works.{row_of}
use Rattle.opcodes.specs.Opcodes.{writes_mask, in_one_step}
use Rattle.opcodes.specs.Working.{is_register_work}
use Rattle.opcodes.proofs.Passed.{passed, register-work}
use Rattle.machine.specs.Run.{Run}
use Rattle.machine.specs.Step.{received, written, worked, element_step}
use Rattle.opcodes.specs.Masking.{operated}
use Rattle.machine.specs.Iota.{iota_step}
use Rattle.machine.specs.Instruction.{step_of, steps_below, step_count, whole_of}
use Rattle.touch.specs.Parts.{Queue, size, decoded_in, placeholder, instruction_or, instruction_at, scalar_at}
use Rattle.touch.proofs.Steps.{at-below}
use Rattle.order.specs.Steps.{position, element}
use Rattle.touch.specs.Touch.{act}
use Rattle.queue.specs.Queue.{straight}
use Rattle.queue.specs.CallsWorking.{Runs, decoded_at, act_by, through_by}

-- ---- nothing in a queue writes VLR
abbrev pub vlr_of : Run → ℕ
vlr_of r = r.control.vlr

pick-vlr : (t : Bool) (a b r : Run) → vlr_of a ≡ vlr_of r → vlr_of b ≡ vlr_of r → vlr_of (pick t a b) ≡ vlr_of r
pick-vlr true a b r e f = e
pick-vlr false a b r e f = f

written-vlr : (ins : Instruction) (i value : ℕ) (r : Run) → vlr_of (written ins i value r) ≡ vlr_of r
unfolding written
written-vlr ins i value r = pick-vlr (writes_mask ins) _ _ r refl refl

worked-vlr : (ins : Instruction) (scalar i : ℕ) (r : Run) → vlr_of (worked ins scalar i r) ≡ vlr_of r
unfolding worked
worked-vlr ins scalar i r = written-vlr ins i (received ins scalar i r).value r

pub step-vlr : (ins : Instruction) (scalar i : ℕ) (r : Run) → vlr_of (step_of ins scalar i r) ≡ vlr_of r
unfolding step_of element_step iota_step
step-vlr ins scalar i r =
    pick-vlr (in_one_step ins) _ _ r refl (pick-vlr (operated ins r.control i) (worked ins scalar i r) r r (worked-vlr ins scalar i r) refl)

steps-vlr : (n : ℕ) (ins : Instruction) (scalar : ℕ) (r : Run) → vlr_of (steps_below n ins scalar r) ≡ vlr_of r
unfolding steps_below
steps-vlr zero ins scalar r = refl
steps-vlr (suc n) ins scalar r = step-vlr ins scalar n (steps_below n ins scalar r) ∙ steps-vlr n ins scalar r

whole-vlr : (ins : Instruction) (scalar : ℕ) (r : Run) → vlr_of (whole_of ins scalar r) ≡ vlr_of r
unfolding whole_of
whole-vlr ins scalar r = steps-vlr (step_count ins (vlr_of r)) ins scalar r

-- ---- the loop
pub whole-short : (i : Instruction) (scalar : ℕ) (r r' : Run) → vlr_of r ≤ 64 → r' ≡ whole_of i scalar r → vlr_of r' ≤ 64
whole-short i scalar r r' h e = rw (ap vlr_of e ∙ whole-vlr i scalar r) h

-- ---- what stands at a position of a queue, accepted or not, is one that the machine runs
placed : is_register_work placeholder.work ≡ true
unfolding row_of
placed = refl

pub at-runs : (q : Queue) (k : ℕ) → Runs (instruction_at q k)
unfolding instruction_at
at-runs q k = record { below = at-below q k; work = at (decoded_in q k) refl }
  where
    at : (d : Decoded) → decoded_in q k ≡ d → is_register_work (instruction_or placeholder d).work ≡ true
    at (Err a) e = placed
    at (Ok i) e = register-work i (passed true true k _ _ i e)

-- ---- a decoded queue does what the queue does
pub same-through : (q : Queue) (program : List Instruction) → ((k : ℕ) → k < size q → decoded_at program k ≡ instruction_at q k) → (n : ℕ) → n ≤ size q
    → (r : Run) → through_by program q.scalars n r ≡ straight q n r
unfolding rising straight
same-through q program same zero h r = refl
same-through q program same (suc n) h r =
    ap (λ (i : Instruction). whole_of i (scalar_at q n) (through_by program q.scalars n r)) (same n (omega arith))
    ∙ ap (whole_of (instruction_at q n) (scalar_at q n)) (same-through q program same n (omega arith) r)

-- the step of an entry of a decoded queue
pub acts-by : (program : List Instruction) (scalars : List ℕ) (x : ℕ) (r r' : Run)
    → r' ≡ step_of (decoded_at program (position x)) (get_or scalars (position x) 0) (element x) r → r' ≡ act_by program scalars x r
unfolding act_by
acts-by program scalars x r r' e = e

pub act-vlr : (program : List Instruction) (scalars : List ℕ) (x : ℕ) (r : Run) → vlr_of (act_by program scalars x r) ≡ vlr_of r
unfolding act_by
act-vlr program scalars x r = step-vlr (decoded_at program (position x)) (get_or scalars (position x) 0) (element x) r

-- a decoded queue's steps are the queue's
pub same-acts : (q : Queue) (program : List Instruction) → ((k : ℕ) → k < size q → decoded_at program k ≡ instruction_at q k)
    → (x : ℕ) → position x < size q → (r : Run) → act_by program q.scalars x r ≡ act q x r
unfolding act_by act
same-acts q program same x h r = ap (λ (i : Instruction). step_of i (scalar_at q (position x)) (element x) r) (same (position x) h)
