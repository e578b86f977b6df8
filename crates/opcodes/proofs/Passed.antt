-- What holds of an instruction that decoding accepted: its registers' numbers are below 16, an opcode has its work, and in a queue it moves no memory.
-- Assumes nothing.
use Rattle.std.proofs.Common.{◌≡◌, refl, sym, ap, ◌∙◌, ℕ, ◌<◌, Bool, true, false, not, ◌&&◌, List, [], ◌∷◌, Some, None, Ok, Err, eqb, arith}
use borrow.Author.Tests.{not-true}
use Rattle.numbers.specs.Choice.{pick}
use Rattle.numbers.proofs.Tests.{and_left, and_right}
use Rattle.state.specs.declared.answer.Refusal.TheVariants.{Disabled, MemoryOpcode}
use Rattle.opcodes.specs.declared.Instruction.{Instruction}
use Rattle.opcodes.specs.declared.works.Work.{Work}
use Rattle.opcodes.specs.Opcodes.{Entry, forms, vector, scalar, table, Opcode, among, opcode_of, is_memory}
use Rattle.opcodes.specs.Working.{in_table, is_register_work}
use Rattle.opcodes.specs.ControlWord.{va_of, vb_of, vc_of, refused, instruction_of, control_word_of}
use Rattle.opcodes.specs.Decoding.{by_control_word, by_opcode, decoded_of}

pub record Passed (queued : Bool) (i : Instruction) : Type 0 where
  pub va-below : i.va.0 < 16
  pub vb-below : i.vb.0 < 16
  pub vc-below : i.vc.0 < 16
  pub listed : in_table i.work ≡ true
  pub no-memory : queued ≡ true → is_memory i.work ≡ false

-- in a queue its work is a register work
pub register-work : (i : Instruction) → Passed true i → is_register_work i.work ≡ true
register-work i p = rw (p.listed, p.no-memory refl) refl

pub no-memory : (i : Instruction) → is_register_work i.work ≡ true → is_memory i.work ≡ false
no-memory i e = not-true (is_memory i.work) (and_right (in_table i.work) (not (is_memory i.work)) e)

-- ---- an accepted opcode's work is that of an entry of the table
abbrev work_in : Entry → Work
work_in (forms w v s) = w
work_in (vector w v) = w
work_in (scalar w s) = w

abbrev all_in_table : List Entry → Bool
all_in_table [] = true
all_in_table (e ∷ rest) = in_table (work_in e) && all_in_table rest

module _ (k : ℕ) (w : Work) (s : Bool) where
  picked : (b : Bool) (v : Work) (t : Bool) (o : Opcode) → in_table v ≡ true → (o ≡ Some (w, s) → in_table w ≡ true)
      → pick b (Some (v, t)) o ≡ Some (w, s) → in_table w ≡ true
  picked true v t o a f e = let g : ◌≡◌ {A = Work × Bool} (v, t) (w, s) = cc in rw (← ap (λ (x : Work × Bool). x.0) g) a
  picked false v t o a f e = f e

  entered : (t : List Entry) → all_in_table t ≡ true → among k t ≡ Some (w, s) → in_table w ≡ true
  entered [] a e = cc
  entered (forms v x y ∷ t) a e =
      let own = and_left (in_table v) (all_in_table t) a in
      picked (eqb k x) v false _ own (picked (eqb k y) v true _ own (entered t (and_right (in_table v) (all_in_table t) a))) e
  entered (vector v x ∷ t) a e =
      picked (eqb k x) v false _ (and_left (in_table v) (all_in_table t) a) (entered t (and_right (in_table v) (all_in_table t) a)) e
  entered (scalar v x ∷ t) a e =
      picked (eqb k x) v true _ (and_left (in_table v) (all_in_table t) a) (entered t (and_right (in_table v) (all_in_table t) a)) e

  in-the-table : opcode_of k ≡ Some (w, s) → in_table w ≡ true
  unfolding opcode_of
  in-the-table e = entered table refl e

-- an accepted control word: the instruction is made of it
made : (p : ℕ) (b : Bool) (i j : Instruction) → by_control_word p (pick b None (Some j)) ≡ Ok i → i ≡ j
made p true i j e = cc
made p false i j e = cc

of-made : (q : Bool) (w : Work) (s : Bool) (c : ℕ) (i : Instruction) → i ≡ instruction_of w s c → in_table w ≡ true → (q ≡ true → is_memory w ≡ false)
    → Passed q i
of-made q w s c i e t m =
    let a : i.va.0 ≡ va_of c = ap (λ (j : Instruction). j.va.0) e in
    let b : i.vb.0 ≡ vb_of c = ap (λ (j : Instruction). j.vb.0) e in
    let d : i.vc.0 ≡ vc_of c = ap (λ (j : Instruction). j.vc.0) e in
    record {
      va-below = omega arith;
      vb-below = omega arith;
      vc-below = omega arith;
      listed = ap (λ (j : Instruction). in_table j.work) e ∙ t;
      no-memory = λ z. ap (λ (j : Instruction). is_memory j.work) e ∙ m z;
    }

worded : (p : ℕ) (w : Work) (s : Bool) (c : ℕ) (i : Instruction) → by_control_word p (control_word_of w s c) ≡ Ok i → i ≡ instruction_of w s c
unfolding control_word_of
worded p w s c i e = made p (refused (instruction_of w s c)) i (instruction_of w s c) e

by-opcode : (e q : Bool) (p c k : ℕ) (i : Instruction) (o : Opcode) → o ≡ opcode_of k → by_opcode e q p c o ≡ Ok i → Passed q i
by-opcode e q p c k i None l f = cc
by-opcode e q p c k i (Some (w, s)) l f = go e q (is_memory w) refl f
  where
    go : (x y z : Bool) → is_memory w ≡ z
        → pick x (pick (y && z) (Err (MemoryOpcode p)) (by_control_word p (control_word_of w s c))) (Err Disabled) ≡ Ok i → Passed y i
    go false y z m g = cc
    go true true true m g = cc
    go true true false m g = of-made true w s c i (worded p w s c i g) (in-the-table k w s (sym l)) (λ t. m)
    go true false z m g = of-made false w s c i (worded p w s c i g) (in-the-table k w s (sym l)) (λ t. cc)

pub passed : (e q : Bool) (p k c : ℕ) (i : Instruction) → decoded_of e q p k c ≡ Ok i → Passed q i
unfolding decoded_of
passed e q p k c i f = by-opcode e q p c k i (opcode_of k) refl f
