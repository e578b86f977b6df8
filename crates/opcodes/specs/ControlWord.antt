-- Document 01, "Opcodes": the control word of an accepted opcode. Relations, conversions: "What an
-- element receives"; gather with Vb = Vc: "Memory".
use Rattle.std.specs.Prelude.{Bool, false, not, ◌&&◌, ◌||◌, ℕ, ◌/◌, ◌%◌, ◌^◌, Option, Some, None, eqb}
use Rattle.numbers.specs.Choice.{pick}
use Rattle.opcodes.specs.declared.Instruction.{Instruction}
use Rattle.opcodes.specs.declared.works.Work.{Work}
use Rattle.opcodes.specs.declared.works.Holds.{Holds}
use Rattle.opcodes.specs.declared.works.Holds.TheVariants.{Registers, Relation, RelationAlone, Conversion}
use Rattle.opcodes.specs.Works.{row_of, is_load}

-- <15> MOE
abbrev pub moe_of : ℕ → Bool
moe_of c = eqb (c / 2 ^ 15 % 2) 1

-- <14> MTF
abbrev pub mtf_of : ℕ → Bool
mtf_of c = eqb (c / 2 ^ 14 % 2) 1

-- <13> EXC (MI for loads, ignored)
abbrev pub exc_of : ℕ → Bool
exc_of c = eqb (c / 2 ^ 13 % 2) 1

-- <11:8> Va or conversion
abbrev pub va_of : ℕ → ℕ
va_of c = c / 2 ^ 8 % 2 ^ 4

-- <7:4> Vb
abbrev pub vb_of : ℕ → ℕ
vb_of c = c / 2 ^ 4 % 2 ^ 4

-- <3:0> Vc or relation
abbrev pub vc_of : ℕ → ℕ
vc_of c = c % 2 ^ 4

-- the instruction of a work, a form and a control word; <12> is ignored
abbrev pub instruction_of : Work → Bool → ℕ → Instruction
instruction_of w s c = record {
  work = w;
  scalar = s;
  moe = moe_of c;
  mtf = mtf_of c;
  exc = exc_of c;
  va = record { 0 = va_of c };
  vb = record { 0 = vb_of c };
  vc = record { 0 = vc_of c };
}

-- relations in <2:0>: 3 and 7 are refused
abbrev pub relation_refused : ℕ → Bool
relation_refused r = eqb (r % 8) 3 || eqb (r % 8) 7

-- conversions: 5 rounded F to L, 4 truncated F to L, 1 L to F; others are refused
abbrev pub conversion_refused : ℕ → Bool
conversion_refused v = not (eqb v 5 || eqb v 4 || eqb v 1)

-- what a control word holds beside registers; where a relation stands alone (F compare), bit <3> is refused too
abbrev pub held_refused : Holds → Instruction → Bool
held_refused Registers i = false
held_refused Relation i = relation_refused i.vc.0
held_refused RelationAlone i = relation_refused i.vc.0 || eqb (i.vc.0 / 8) 1
held_refused Conversion i = conversion_refused i.va.0

-- a gather with Vb = Vc is refused
abbrev pub gather_refused : Instruction → Bool
gather_refused i = is_load (row_of i.work).moves && (i.scalar && eqb i.vb.0 i.vc.0)

unfoldable pub refused : Instruction → Bool
refused i = held_refused (row_of i.work).holds i || gather_refused i

-- what an accepted opcode's control word says: an instruction, or it is reserved
unfoldable pub control_word_of : Work → Bool → ℕ → Option Instruction
control_word_of w s c = pick (refused (instruction_of w s c)) None (Some (instruction_of w s c))

-- ---- what an instruction takes from its fields beside registers: the conversion, the relation in <2:0>, or nothing
abbrev pub field_by : Holds → Instruction → ℕ
field_by Registers i = 0
field_by Relation i = i.vc.0 % 8
field_by RelationAlone i = i.vc.0 % 8
field_by Conversion i = i.va.0

abbrev pub field_of : Instruction → ℕ
field_of i = field_by (row_of i.work).holds i
