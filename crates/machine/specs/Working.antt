-- What the loops over elements make, in the terms that they work with. No public promise cites this; proofs/ shows that this is what the
-- instruction's steps make.
use Rattle.std.specs.Prelude.{◌≡◌, Bool, false, List, ℕ, zero, suc, ◌+◌, ◌*◌, ◌%◌, ◌^◌, ◌<◌, eqb, set}
use Rattle.std.specs.Int.Bits.{bit_or}
use Rattle.numbers.specs.Choice.{pick}
use Rattle.numbers.specs.Bits.{bit}
use Rattle.numbers.specs.Working.{complement, of_ones}
use Rattle.numbers.specs.Rising.{rising}
use Rattle.state.specs.declared.Control.{Control}
use Rattle.state.specs.State.{place_of, with_vmr, with_vcr}
use Rattle.state.specs.Elements.{at}
use Rattle.opcodes.specs.declared.Instruction.{Instruction}
use Rattle.opcodes.specs.declared.works.Work.{Work}
use Rattle.opcodes.specs.declared.works.Work.TheVariants.{Convert}
use Rattle.opcodes.specs.Opcodes.{in_one_step, ignores_moe}
use Rattle.opcodes.specs.ControlWord.{field_of}
use Rattle.element.specs.declared.Out.{Out}
use Rattle.element.specs.Receives.{result_of}
use Rattle.machine.specs.declared.Effect.{Effect}
use Rattle.machine.specs.Run.{Gathered, Run, run, added, joined}
use Rattle.machine.specs.Step.{first, second, worked}
use Rattle.machine.specs.Iota.{iota_step, put}

-- the mask or its complement: its ones are the bits that are MTF
abbrev pub matched : ℕ → Bool → ℕ
matched vmr mtf = pick mtf vmr (complement 64 vmr)

-- ---- works that write elements: what they leave, and the types that they recorded
pub record Lanes : Type 0 where
  pub elements : List ℕ
  pub types : ℕ

abbrev pub lanes : List ℕ → ℕ → Lanes
lanes l t = record { elements = l; types = t }

abbrev pub landed : ℕ → ℕ → Lanes → Out → Lanes
landed vc i s o = lanes (set s.elements (place_of vc i) o.value) (bit_or s.types o.types)

-- element i, as its step has it
unfoldable pub lane : Instruction → ℕ → ℕ → ℕ → Lanes → Lanes
lane ins x mask i s =
    landed ins.vc.0 i s
    (result_of ins.work ins.exc (field_of ins) (pick (ignores_moe ins) (bit mask i) false)
    (first ins x s.elements i)
    (second ins s.elements i)
    (at s.elements ins.vc.0 i))

-- element i of vc, where a work takes a and vb's element
unfoldable pub lane_of : (ℕ → ℕ → ℕ → Out) → Instruction → ℕ → ℕ → Lanes → Lanes
lane_of w ins a i s = landed ins.vc.0 i s (w a (at s.elements ins.vb.0 i) (at s.elements ins.vc.0 i))

-- the first operand: a scalar, or va's element
abbrev pub operand_at : Bool → ℕ → ℕ → List ℕ → ℕ → ℕ
operand_at scalar x va l i = pick scalar x (at l va i)

unfoldable pub lane_in : Bool → (ℕ → ℕ → ℕ → Out) → Instruction → ℕ → ℕ → Lanes → Lanes
lane_in scalar w ins x i s = lane_of w ins (operand_at scalar x ins.va.0 s.elements i) i s

-- a work that takes nothing from the control word but registers
abbrev pub plainly : Work → Bool → Bool → ℕ → ℕ → ℕ → Out
plainly w exc matches a b c = result_of w exc 0 matches a b c

-- a short work, whose mask bit is at hand
abbrev pub short_lane : Work → Bool → ℕ → Instruction → ℕ → ℕ → Lanes → Lanes
short_lane work exc mask ins x i s = lane_in ins.scalar (plainly work exc (bit mask i)) ins x i s

-- a conversion, which has no first operand
abbrev pub converting : Bool → ℕ → ℕ → ℕ → ℕ → Out
converting exc conversion a b c = result_of Convert exc conversion false 0 b c

-- ---- works that write mask bits
abbrev pub compared_at : Work → ℕ → Bool → Instruction → ℕ → List ℕ → ℕ → Out
compared_at work relation scalar ins x l i = result_of work false relation false (operand_at scalar x ins.va.0 l i) (at l ins.vb.0 i) 0

-- the set of those of n numbers from i on whose v is odd; number i is bit 0
unfoldable pub odd_from : (ℕ → ℕ) → ℕ → ℕ → ℕ
odd_from v i zero = 0
odd_from v i (suc n) = odd_from v (suc i) n * 2 + v i % 2

-- below n a set has the numbers whose v is odd; its bits from n on are left open
abbrev pub OddBelow : (ℕ → ℕ) → ℕ → ℕ → Type 0
OddBelow v n s = (i : ℕ) → i < n → bit s i ≡ eqb (v i % 2) 1

-- ---- IOTA: the elements, and which is next
pub record Counted : Type 0 where
  pub elements : List ℕ
  pub next : ℕ

abbrev pub counted : List ℕ → ℕ → Counted
counted l e = record { elements = l; next = e }

unfoldable pub iota_turn : ℕ → ℕ → ℕ → Counted → Counted
iota_turn stride vc i s = counted (put vc s.next (i * stride % 2 ^ 32) s.elements) (s.next + 1)

-- ---- an instruction, or one step of it
-- the run after what was done, which left the elements l
abbrev pub effected : List ℕ → Instruction → Effect → Control → Gathered → Run
effected l ins e c g = run l (with_vcr (with_vmr c e.vmr) e.vcr) (joined g (added e.notes ins.vc.0 e.wrote))

-- the work of the elements of a set; IOTA's one step
unfoldable pub done_for : ℕ → Instruction → ℕ → Run → Run
done_for which ins scalar r = pick (in_one_step ins) (iota_step ins scalar r) (rising (of_ones (worked ins scalar) which) 64 r)
