-- The steps of a queue: which numbers they are, that they rise, what each touches, and the closed form of which must follow which.
-- Assumes nothing.
use Rattle.std.specs.Prelude.{Ok, Err}
use mathlib.Core.Path.{◌≡◌, refl, ap}
use mathlib.Core.Bool.{Bool, true, ◌&&◌}
use Prim.Native.Nat.{ℕ, ◌*◌, ◌<◌, ◌≤◌}
use native.Mathlib.Omega.{arith}
use lib.Dec.{T, lit<, ltb, ltb→lt, lt→ltb}
use Rattle.opcodes.specs.Decoding.{Decoded}
use Rattle.opcodes.specs.Working.{Below}
use Rattle.opcodes.proofs.Passed.{passed}
use Rattle.machine.specs.Instruction.{step_count}
use Rattle.touch.specs.Parts.{placeholder, Queue, size, decoded_in, instruction_or, instruction_at}
use Rattle.order.specs.Order.{Mem}
use Rattle.order.specs.Steps.{position, element}
use Rattle.touch.specs.Touch.{is_step, steps_of, reads, writes, conflict, must_precede}
use Rattle.touch.specs.BindsWorking.{steps_bind}
use Rattle.order.proofs.Tests.{and_l, and_r, T_and}
use Rattle.order.proofs.Meaning.{Asc}
use Rattle.order.proofs.Passing.{passing→, rising}
use Rattle.touch.proofs.Binding.{conflict-bound}

-- ---- register numbers of a queue's instructions are below 16

pub at-below : (q : Queue) (k : ℕ) → Below (instruction_at q k)
unfolding instruction_at
at-below q k = go (decoded_in q k) refl
  where
    go : (d : Decoded) → decoded_in q k ≡ d → Below (instruction_or placeholder d)
    go (Err a) e = record { va = lit< tt; vb = lit< tt; vc = lit< tt }
    go (Ok i) e = let p = passed true true k _ _ i e in record { va = p.va-below; vb = p.vb-below; vc = p.vc-below }

-- ---- the steps

module _ (q : Queue) (vlr : ℕ) where
  pub step-position : (x : ℕ) → T (is_step q vlr x) → position x < size q
  unfolding is_step
  step-position x t = ltb→lt (position x) (size q) (and_l (ltb (position x) (size q)) _ t)

  pub step-element : (x : ℕ) → T (is_step q vlr x) → element x < step_count (instruction_at q (position x)) vlr
  unfolding is_step
  step-element x t = ltb→lt (element x) (step_count (instruction_at q (position x)) vlr) (and_r (ltb (position x) (size q)) _ t)

  pub makes-step : (x : ℕ) → position x < size q → element x < step_count (instruction_at q (position x)) vlr → T (is_step q vlr x)
  unfolding is_step
  makes-step x h k = T_and (ltb (position x) (size q)) _ (lt→ltb (position x) (size q) h)
      (lt→ltb (element x) (step_count (instruction_at q (position x)) vlr) k)

  pub step_of : (x : ℕ) → Mem x (steps_of q vlr) → T (is_step q vlr x)
  unfolding steps_of
  step_of x m = (passing→ (is_step q vlr) x 0 (size q * 64) m).2

  pub steps-rise : Asc (steps_of q vlr)
  unfolding steps_of
  steps-rise = rising (is_step q vlr) 0 (size q * 64)

  -- a step that must be followed has the lower number
  pub follows-lower : (x y : ℕ) → T (must_precede q vlr x y) → x < y
  unfolding must_precede
  follows-lower x y t = let h = ltb→lt (position x) (position y) (and_l (ltb (position x) (position y)) _ t) in omega arith

  module _ (few : vlr ≤ 64) (x y : ℕ) (sx : T (is_step q vlr x)) (sy : T (is_step q vlr y)) where
    -- what two steps touch conflicts exactly where their instructions and elements bind
    pub steps-conflict : conflict (reads (instruction_at q (position x)) vlr (element x)) (writes (instruction_at q (position x)) vlr (element x))
        (reads (instruction_at q (position y)) vlr (element y)) (writes (instruction_at q (position y)) vlr (element y))
        ≡ steps_bind (instruction_at q (position x)) (element x) (instruction_at q (position y)) (element y)
    steps-conflict =
        conflict-bound (instruction_at q (position x)) (instruction_at q (position y)) vlr (element x) (element y)
        (at-below q (position x)) (at-below q (position y)) few (step-element x sx) (step-element y sy)

    -- THE CLOSED FORM of which step must follow which
    pub must-precede : must_precede q vlr x y
        ≡ (ltb (position x) (position y) && steps_bind (instruction_at q (position x)) (element x) (instruction_at q (position y)) (element y))
    unfolding must_precede
    must-precede = ap (λ (t : Bool). ltb (position x) (position y) && t) steps-conflict
