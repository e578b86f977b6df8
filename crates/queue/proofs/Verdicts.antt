-- The tables of a queue give the verdict of its own definitions. Assumes nothing.
use mathlib.Core.Path.{◌≡◌, refl, sym, ap, ap₂, ◌∙◌}
use mathlib.Core.Bool.{Bool, true, false, ◌&&◌, ◌||◌}
use mathlib.Core.List.{List}
use Prim.Native.Nat.{ℕ, ◌*◌, ◌<◌, ◌≤◌}
use borrow.Author.Tests.{lt-ltb, ltb-true}
use lib.Dec.{eqb, ltb}
use lib.ListN.{get_or}
use Rattle.numbers.specs.Choice.{pick}
use Rattle.numbers.specs.Bits.{bit}
use Rattle.opcodes.specs.Opcodes.{in_one_step}
use Rattle.machine.specs.Instruction.{step_count}
use Rattle.touch.specs.Parts.{Queue, size, instruction_at}
use Rattle.order.specs.Order.{Mem, check}
use Rattle.order.specs.Steps.{position, element}
use Rattle.touch.specs.Touch.{is_step, steps_of, must_precede}
use Rattle.touch.specs.BindsWorking.{binds, steps_bind}
use Rattle.queue.specs.Run.{verdict_of}
use Rattle.order.specs.SetsWorking.{count_by, is_step_by, steps_by, follows_by, verdict_by}
use Rattle.order.proofs.Passing.{passing-same}
use Rattle.order.proofs.SameCheck.{check-same}
use Rattle.touch.proofs.Steps.{step_of, step-position, must-precede}
use Rattle.order.proofs.Tests.{both}

pub record RightTables (q : Queue) (iotas : ℕ) (bound : List ℕ) : Type 0 where
  pub iota : (k : ℕ) → bit iotas k ≡ (ltb k (size q) && in_one_step (instruction_at q k))
  pub bind : (p k : ℕ) → p < size q → bit (get_or bound p 0) k ≡ (ltb k p && binds (instruction_at q k) (instruction_at q p))

-- a position is bound to earlier ones
pub bound-earlier : (q : Queue) (iotas : ℕ) (bound : List ℕ) → RightTables q iotas bound → (p k : ℕ) → p < size q → bit (get_or bound p 0) k ≡ true → k < p
bound-earlier q iotas bound t p k h e = ltb-true k p (both (ltb k p) _ (sym (t.bind p k h) ∙ e)).0

module _ (q : Queue) (vlr iotas : ℕ) (bound : List ℕ) (t : RightTables q iotas bound) where
  iota-at : (k : ℕ) → k < size q → bit iotas k ≡ in_one_step (instruction_at q k)
  iota-at k h = t.iota k ∙ ap (λ (b : Bool). b && in_one_step (instruction_at q k)) (lt-ltb k (size q) h)

  same_step : (x : ℕ) → is_step_by (size q) vlr iotas x ≡ is_step q vlr x
  unfolding is_step_by is_step
  same_step x = go (ltb (position x) (size q)) refl
    where
      go : (b : Bool) → ltb (position x) (size q) ≡ b → (b && ltb (element x) (count_by vlr iotas (position x))) ≡
          (b && ltb (element x) (step_count (instruction_at q (position x)) vlr))
      go true e = ap (λ (i : Bool). ltb (element x) (pick i 1 vlr)) (iota-at (position x) (ltb-true (position x) (size q) e))
      go false e = refl

  same-steps : steps_by (size q) vlr iotas ≡ steps_of q vlr
  unfolding steps_by steps_of
  same-steps = passing-same (is_step_by (size q) vlr iotas) (is_step q vlr) 0 (size q * 64) (λ k h g. same_step k)

  module _ (short : vlr ≤ 64) where
    regroup-follows : (l b i : Bool) → ((l && b) && i) ≡ (l && (i && b))
    regroup-follows true true true = refl
    regroup-follows true true false = refl
    regroup-follows true false true = refl
    regroup-follows true false false = refl
    regroup-follows false b i = refl

    same-follows : (a x : ℕ) → Mem a (steps_of q vlr) → Mem x (steps_of q vlr) → follows_by iotas bound a x ≡ must_precede q vlr a x
    unfolding follows_by steps_bind
    same-follows a x ma mx =
        let sa = step_of q vlr a ma in let sx = step_of q vlr x mx in
        let pa = step-position q vlr a sa in let px = step-position q vlr x sx in
        ap (λ (b : Bool). b && (bit iotas (position a) || bit iotas (position x) || eqb (element a) (element x))) (t.bind (position x) (position a) px)
        ∙ ap₂ (λ (i j : Bool). (ltb (position a) (position x) && binds (instruction_at q (position a)) (instruction_at q (position x))) &&
        (i || j || eqb (element a) (element x))) (iota-at (position a) pa) (iota-at (position x) px)
        ∙ regroup-follows (ltb (position a) (position x)) (binds (instruction_at q (position a)) (instruction_at q (position x)))
        (in_one_step (instruction_at q (position a)) || in_one_step (instruction_at q (position x)) || eqb (element a) (element x))
        ∙ sym (must-precede q vlr short a x sa sx)

    pub tables-verdict : (list : List ℕ) → verdict_by (size q) vlr iotas bound list ≡ verdict_of q vlr list
    unfolding verdict_by verdict_of
    tables-verdict list =
        ap (λ (s : List ℕ). check (follows_by iotas bound) s list) same-steps
        ∙ check-same (steps_of q vlr) (follows_by iotas bound) (must_precede q vlr) same-follows list
