-- What a step of a queue does: it keeps VLR, and two steps commute unless one must follow the other. Assumes nothing.
use mathlib.Core.Path.{◌≡◌, refl, sym, ap, ap₂, ◌∙◌, subst}
use mathlib.Core.Logic.{inl, inr}
use mathlib.Core.Bool.{Bool, true, false, ◌&&◌, ◌||◌}
use mathlib.Core.List.{List, [], ◌∷◌}
use Prim.Native.Nat.{ℕ, ◌<◌, ◌≤◌}
use native.Mathlib.Omega.{arith}
use native.Mathlib.Decide.{dec_lt, ℕ_discrete}
use lib.Dec.{T, ltb, eqb, lt→ltb}
use borrow.Author.Tests.{ne_eqb}
use Rattle.numbers.specs.Choice.{pick}
use Rattle.opcodes.specs.declared.Instruction.{Instruction}
use Rattle.opcodes.specs.Opcodes.{in_one_step}
use Rattle.opcodes.specs.Working.{Below}
use Rattle.machine.specs.Run.{Run}
use Rattle.machine.specs.Step.{element_step}
use Rattle.machine.specs.Iota.{iota_step}
use Rattle.machine.specs.Instruction.{step_of, step_count}
use Rattle.order.specs.Order.{Mem, run}
use Rattle.order.specs.Steps.{position, element}
use Rattle.order.proofs.Tests.{T_and}
use Rattle.touch.specs.Parts.{Queue, instruction_at, scalar_at}
use Rattle.touch.specs.Touch.{is_step, act, element_reads, written_place, iota_reads, iota_writes, reads, writes, conflict, must_precede}
use Rattle.touch.specs.BindsWorking.{binds, steps_bind}
use Rattle.touch.proofs.Binding.{plain-count}
use Rattle.touch.proofs.Steps.{at-below, step-element, steps-conflict}
use Rattle.touch.proofs.Commute.{HasVlr, Does, clear}
use Rattle.touch.proofs.ElementDoes.{element-does}
use Rattle.touch.proofs.IotaDoes.{iota-does}

-- ---- a step of any instruction

step-does : (n : ℕ) → n ≤ 64 → (ins : Instruction) (scalar i : ℕ) → Below ins → i < step_count ins n
    → Does n (step_of ins scalar i) (reads ins n i) (writes ins n i)
unfolding step_of reads writes
step-does n few ins scalar i regs h = go (in_one_step ins) refl
  where
    go : (t : Bool) → in_one_step ins ≡ t
        → Does n (λ (r : Run). pick (in_one_step ins) (iota_step ins scalar r) (element_step ins scalar i r))
        (pick (in_one_step ins) (iota_reads n) (element_reads ins i))
        (pick (in_one_step ins) (iota_writes ins n) (written_place ins i ∷ []))
    go true e = rw e (iota-does n few ins scalar regs.vc)
    go false e = let k = plain-count ins n i e h in rw e (element-does n ins scalar i regs (omega arith))

-- ---- two steps of a queue

iota-only : (t : Bool) (vlr i j : ℕ) → t ≡ true → i < pick t 1 vlr → j < pick t 1 vlr → i ≡ j
iota-only true vlr i j e h k = omega arith
iota-only false vlr i j e h k = absurd (subst T (sym e) tt)

-- two steps of one instruction touch nothing in common
clear_within : (ins : Instruction) (vlr i j : ℕ) → i < step_count ins vlr → j < step_count ins vlr → (i ≡ j → ⊥) → steps_bind ins i ins j ≡ false
unfolding steps_bind
clear_within ins vlr i j h k other = go (in_one_step ins) refl
  where
    go : (t : Bool) → in_one_step ins ≡ t → ((in_one_step ins || in_one_step ins || eqb i j) && binds ins ins) ≡ false
    go true e = absurd (other (iota-only (in_one_step ins) vlr i j e h k))
    go false e = rw (e, ne_eqb i j other)

module _ (q : Queue) (n : ℕ) (few : n ≤ 64) where
  act-does : (x : ℕ) → T (is_step q n x)
      → Does n (act q x) (reads (instruction_at q (position x)) n (element x)) (writes (instruction_at q (position x)) n (element x))
  unfolding act
  act-does x s =
      step-does n few (instruction_at q (position x)) (scalar_at q (position x)) (element x) (at-below q (position x)) (step-element q n x s)

  pub act-keeps-vlr : (x : ℕ) → T (is_step q n x) → (r : Run) → HasVlr n r → HasVlr n (act q x r)
  act-keeps-vlr x s r h = ((act-does x s).still r h).vlr ∙ h

  pub run-keeps-vlr : (l : List ℕ) → ((x : ℕ) → Mem x l → T (is_step q n x)) → (r : Run) → HasVlr n r → HasVlr n (run (act q) l r)
  unfolding run
  run-keeps-vlr [] s r h = h
  run-keeps-vlr (x ∷ l) s r h = run-keeps-vlr l (λ y m. s y (inr m)) (act q x r) (act-keeps-vlr x (s x (inl refl)) r h)

  -- steps of different instructions that need not follow one another do not conflict
  no-conflict : (x y : ℕ) → position x < position y → (T (must_precede q n x y) → ⊥)
      → T (conflict (reads (instruction_at q (position x)) n (element x)) (writes (instruction_at q (position x)) n (element x))
      (reads (instruction_at q (position y)) n (element y)) (writes (instruction_at q (position y)) n (element y)))
      → ⊥
  unfolding must_precede
  no-conflict x y h free t = free (T_and (ltb (position x) (position y)) _ (lt→ltb (position x) (position y) h) t)

  -- nor do different steps of one instruction
  no-conflict-within : (x y : ℕ) → T (is_step q n x) → T (is_step q n y) → position x ≡ position y → (x ≡ y → ⊥)
      → T (conflict (reads (instruction_at q (position x)) n (element x)) (writes (instruction_at q (position x)) n (element x))
      (reads (instruction_at q (position y)) n (element y)) (writes (instruction_at q (position y)) n (element y)))
      → ⊥
  no-conflict-within x y sx sy e other t =
      let d : element x ≡ element y → ⊥ = λ z. other (omega arith) in
      subst T
      (steps-conflict q n few x y sx sy
      ∙ ap (λ (k : ℕ). steps_bind (instruction_at q (position x)) (element x) (instruction_at q k) (element y)) (sym e)
      ∙ clear_within (instruction_at q (position x)) n (element x) (element y) (step-element q n x sx)
      (subst (λ (k : ℕ). element y < step_count (instruction_at q k) n) (sym e) (step-element q n y sy)) d)
      t

  acts-clear : (x y : ℕ) → T (is_step q n x) → T (is_step q n y)
      → (T (conflict (reads (instruction_at q (position x)) n (element x)) (writes (instruction_at q (position x)) n (element x))
      (reads (instruction_at q (position y)) n (element y)) (writes (instruction_at q (position y)) n (element y)))
      → ⊥)
      → (r : Run) → HasVlr n r → act q x (act q y r) ≡ act q y (act q x r)
  acts-clear x y sx sy = clear n (act q x) (act q y) _ _ _ _ (act-does x sx) (act-does y sy)

  -- STEPS COMMUTE unless one must follow the other
  pub acts-commute : (x y : ℕ) → T (is_step q n x) → T (is_step q n y) → (T (must_precede q n x y) → ⊥) → (T (must_precede q n y x) → ⊥)
      → (r : Run) → HasVlr n r → act q x (act q y r) ≡ act q y (act q x r)
  acts-commute x y sx sy xy yx r h = go (dec_lt (position x) (position y)) (dec_lt (position y) (position x)) (ℕ_discrete x y)
    where
      go : Dec (position x < position y) → Dec (position y < position x) → Dec (x ≡ y) → act q x (act q y r) ≡ act q y (act q x r)
      go (yes k) d e = acts-clear x y sx sy (no-conflict x y k xy) r h
      go (no k) (yes l) e = sym (acts-clear y x sy sx (no-conflict y x l yx) r h)
      go (no k) (no l) (yes e) = ap₂ (λ (a b : ℕ). act q a (act q b r)) e (sym e)
      go (no k) (no l) (no e) = acts-clear x y sx sy (no-conflict-within x y sx sy (omega arith) e) r h
