-- What an IOTA leaves, from its entry state: by induction over its walk along the mask bits. Assumes nothing.
use mathlib.Core.Bool.{Bool, true, false}
use mathlib.Core.List.{List}
use mathlib.Core.Logic.{⊎_elim}
use mathlib.Core.Path.{◌≡◌, refl, sym, ap, ◌∙◌}
use Prim.Native.Nat.{ℕ, zero, suc, ◌+◌, ◌*◌, ◌%◌, ◌^◌, ◌≤◌, ◌<◌}
use native.Mathlib.Omega.{arith}
use lib.Bits.{or_zero_r}
use lib.ListN.{length}
use lib.Seq.{get_or-set_same, get_or-set_other}
use Rattle.numbers.specs.Halves.{low, with_low}
use Rattle.numbers.proofs.Tests.{below_or_not}
use Rattle.state.specs.Marks.{Marked}
use Rattle.state.specs.State.{place_of}
use Rattle.state.specs.Elements.{at, matches}
use Rattle.opcodes.specs.declared.Instruction.{Instruction}
use Rattle.opcodes.specs.Opcodes.{in_one_step}
use Rattle.opcodes.specs.Working.{Below}
use Rattle.machine.specs.Run.{Run, joined, begun, finished}
use Rattle.machine.specs.Iota.{matching, turned, walked, iota_step}
use Rattle.machine.specs.Instruction.{step_of, steps_below, whole_of, instruction_done}
use Rattle.machine.proofs.IotaLaws.{matching-le}
use Rattle.machine.proofs.IotaTouches.{Outside, past, walked-length, walked-outside}
use Rattle.demands.specs.Two.{Counted}
use Rattle.demands.proofs.Ending.{RunEnd, ends-run}

module _ (vmr : ℕ) (mtf : Bool) (stride vc : ℕ) (l : List ℕ) (register : vc < 16) (count : length l ≡ 1024) where
  -- the mask bit that element e is of, among those below n
  pub record Turn (n e : ℕ) : Type 0 where
    pub i : ℕ
    pub before : i < n
    pub match : matches vmr mtf i ≡ true
    pub counted : matching vmr mtf i ≡ e
    pub gets : at (walked vmr mtf stride vc n l) vc e ≡ with_low (at l vc e) (i * stride % 2 ^ 32)

  module _ (n : ℕ) (few : suc n ≤ 64) (on : (e : ℕ) → e < matching vmr mtf n → Turn n e) where
    -- no turn
    passes : matches vmr mtf n ≡ false → (e : ℕ) → e < matching vmr mtf (suc n) → Turn (suc n) e
    unfolding matching walked turned
    passes m e h = still (on e (let k : e < matching vmr mtf n + 0 = rw m at h in omega arith))
      where
        still : Turn n e → Turn (suc n) e
        still t = grind arith

    -- the turn of mask bit n
    takes : matches vmr mtf n ≡ true → (e : ℕ) → e < matching vmr mtf (suc n) → Turn (suc n) e
    unfolding matching walked turned
    takes m e h = ⊎_elim earlier here (below_or_not e (matching vmr mtf n))
      where
        short : matching vmr mtf n ≤ n
        short = matching-le vmr mtf n

        earlier : e < matching vmr mtf n → Turn (suc n) e
        earlier k =
            let t = on e k in
            record {
              i = t.i;
              before = let b = t.before in omega arith;
              match = t.match;
              counted = t.counted;
              gets = rw m
                  (get_or-set_other (walked vmr mtf stride vc n l) (place_of vc (matching vmr mtf n)) (place_of vc e) _ 0 (λ z. omega arith) ∙ t.gets);
            }

        here : matching vmr mtf n ≤ e → Turn (suc n) e
        here k =
            let same : e ≡ matching vmr mtf n = let g : e < matching vmr mtf n + 1 = rw m at h in omega arith in
            record {
              i = n;
              before = omega arith;
              match = m;
              counted = sym same;
              gets = rw (m, same)
                  (get_or-set_same (walked vmr mtf stride vc n l) (place_of vc (matching vmr mtf n)) _ 0
                  (let long = walked-length vmr mtf stride vc n l in omega (arith, count, register, short))
                  ∙ ap (λ (x : ℕ). with_low x (n * stride % 2 ^ 32))
                  (walked-outside vmr mtf stride vc n (place_of vc (matching vmr mtf n)) (past vc (matching vmr mtf n) (matching vmr mtf n) (omega arith)) l));
            }

  pub turns : (n : ℕ) → n ≤ 64 → (e : ℕ) → e < matching vmr mtf n → Turn n e
  unfolding matching
  turns zero few e h = absurd (omega arith)
  turns (suc n) few e h = by (matches vmr mtf n) refl (turns n (omega arith))
    where
      by : (t : Bool) → matches vmr mtf n ≡ t → ((f : ℕ) → f < matching vmr mtf n → Turn n f) → Turn (suc n) e
      by t m on = grind (arith, takes, passes)

module _ (ins : Instruction) (scalar : ℕ) (b : Marked) (fields : Below ins) (count : length b.state.elements ≡ 1024) (alone : in_one_step ins ≡ true)
    (few : b.state.control.vlr ≤ 64) where
  abbrev last : Run
  last = iota_step ins scalar (begun b)

  ends : Counted ins scalar b.state (finished last).state
  unfolding iota_step joined
  ends = record {
    count = walked-length b.state.control.vmr ins.mtf (low scalar) ins.vc.0 b.state.control.vlr b.state.elements ∙ count;
    vcr = end.vcr;
    counted = λ e h.
        let t = turns b.state.control.vmr ins.mtf (low scalar) ins.vc.0 b.state.elements fields.vc count b.state.control.vlr few e
        (rw end.vcr at h) in
        (t.i, t.before, t.match, t.counted, t.gets);
    others = λ r e a k past. walked-outside b.state.control.vmr ins.mtf (low scalar) ins.vc.0 b.state.control.vlr (place_of r e)
        (outside r e a k (rw end.vcr at past)) b.state.elements;
    vlr = end.vlr;
    vmr = end.vmr;
    vaer = end.vaer ∙ or_zero_r b.state.control.vaer;
    vpsr = end.vpsr;
  }
    where
      end : RunEnd last
      end = ends-run last

      outside : (r e : ℕ) → r < 16 → e < 64 → (r ≡ ins.vc.0 → matching b.state.control.vmr ins.mtf b.state.control.vlr ≤ e)
          → Outside ins.vc.0 (matching b.state.control.vmr ins.mtf b.state.control.vlr) (place_of r e)
      outside r e a k past f h q =
          let short = matching-le b.state.control.vmr ins.mtf b.state.control.vlr in
          let same : r ≡ ins.vc.0 = omega (arith, few) in
          let from = past same in
          omega arith

  one-step : steps_below 1 ins scalar (begun b) ≡ last
  unfolding steps_below step_of
  one-step = grind arith

  pub leaves : Counted ins scalar b.state (instruction_done ins scalar b).state
  unfolding instruction_done whole_of
  leaves = rw (alone, one-step) ends
