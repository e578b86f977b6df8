-- Document 01, "What an element receives" and "Queues and orders": the step of one element.
use Rattle.std.specs.Prelude.{Bool, false, List, ℕ, ◌+◌, ◌%◌, ◌^◌, eqb, set}
use Rattle.std.specs.Int.Bits.{bit_or}
use Rattle.numbers.specs.Choice.{pick}
use Rattle.numbers.specs.Bits.{with_bit}
use Rattle.state.specs.Elements.{at, matches}
use Rattle.state.specs.Marks.{one_element}
use Rattle.state.specs.State.{place_of, with_vmr}
use Rattle.opcodes.specs.declared.Instruction.{Instruction}
use Rattle.opcodes.specs.Opcodes.{writes_mask, ignores_moe, reads_va, reads_vb}
use Rattle.opcodes.specs.Masking.{operated}
use Rattle.opcodes.specs.ControlWord.{field_of}
use Rattle.element.specs.declared.Out.{Out}
use Rattle.element.specs.Receives.{result_of}
use Rattle.machine.specs.Run.{Run, run, Added, added, joined}

-- ---- what a work is handed; 0 stands for what it does not read
-- Va's element, or the scalar in its place
abbrev pub first : Instruction → ℕ → List ℕ → ℕ → ℕ
first ins scalar l i = pick ins.scalar scalar (pick (reads_va ins) (at l ins.va.0 i) 0)

-- Vb's element
abbrev pub second : Instruction → List ℕ → ℕ → ℕ
second ins l i = pick (reads_vb ins) (at l ins.vb.0 i) 0

-- Vc's own, where it is written
abbrev pub own : Instruction → List ℕ → ℕ → ℕ
own ins l i = pick (writes_mask ins) 0 (at l ins.vc.0 i)

-- whether VMR<i> is MTF, for a work that does not obey MOE
abbrev pub chooses : Instruction → ℕ → ℕ → Bool
chooses ins vmr i = pick (ignores_moe ins) (matches vmr ins.mtf i) false

-- what element i receives
unfoldable pub received : Instruction → ℕ → ℕ → Run → Out
received ins scalar i r =
    result_of ins.work ins.exc (field_of ins) (chooses ins r.control.vmr i)
    (first ins scalar r.elements i)
    (second ins r.elements i)
    (own ins r.elements i)

-- the bit of Vc in VAER: 16+n for Vn; compare records no register bit
abbrev pub register_bit : Bool → ℕ → ℕ
register_bit mask vc = pick mask 0 (2 ^ (16 + vc))

-- what VAER gets: the bits of the types and the register's
unfoldable pub notes : ℕ → ℕ → ℕ
notes register types = pick (eqb types 0) 0 (bit_or types register)

-- compare writes VMR<i> (its value is that bit), any other work Vc's element i
unfoldable pub written : Instruction → ℕ → ℕ → Run → Run
written ins i value r =
    pick (writes_mask ins)
    (run r.elements (with_vmr r.control (with_bit r.control.vmr i (value % 2))) r.gathered)
    (run (set r.elements (place_of ins.vc.0 i) value) r.control r.gathered)

-- so the set of the elements of Vc that it wrote has i alone; a compare's is empty, and its Vc field, which is a relation, then names no register
abbrev pub wrote_at : Instruction → ℕ → ℕ
wrote_at ins i = pick (writes_mask ins) 0 (one_element i)

abbrev pub adding : Added → Run → Run
adding a r = run r.elements r.control (joined r.gathered a)

-- the work of element i, and nothing else
unfoldable pub worked : Instruction → ℕ → ℕ → Run → Run
worked ins scalar i r =
    adding (added (notes (register_bit (writes_mask ins) ins.vc.0) (received ins scalar i r).types) ins.vc.0 (wrote_at ins i))
    (written ins i (received ins scalar i r).value r)

-- all other destination elements and mask bits keep their contents
unfoldable pub element_step : Instruction → ℕ → ℕ → Run → Run
element_step ins scalar i r = pick (operated ins r.control i) (worked ins scalar i r) r
