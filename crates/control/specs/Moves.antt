-- Document 01, "Control moves": VLR, VCR and each half of VMR are read and written by calls of their own; VAER and VPSR are read, VPSR is written.
-- Order of checks: 12, 3, 11. VPSR and VAER are read even when disabled, and a VPSR write is never refused as disabled.
use Rattle.std.specs.Prelude.{Bool, true, ◌&&◌, ◌||◌, ℕ, ◌+◌, ◌*◌, ◌/◌, ◌%◌, ◌^◌, leb, eqb, Ok, Err}
use Rattle.numbers.specs.Choice.{pick}
use Rattle.numbers.specs.Bits.{bit, without_bit}
use Rattle.numbers.specs.Halves.{low, high, with_low, with_high}
use Rattle.state.specs.declared.Control.{Control}
use Rattle.state.specs.Answer.{Answer}
use Rattle.state.specs.declared.answer.Refusal.TheVariants.{Disabled, ValueRefused, OutOfRange}
use Rattle.state.specs.Outcome.{Outcome, outcome, refused}
use Rattle.state.specs.State.{with_vlr, with_vmr, with_vcr, with_vaer, with_vpsr, in_range, enabled, length_in_range}

-- ---- reading a value: refused where the move is not allowed in the processor's present state
unfoldable pub read_when : Bool → Control → ℕ → Answer
read_when allowed c v = pick (in_range c) (pick allowed (Ok v) (Err Disabled)) (Err OutOfRange)

abbrev pub read_enabled : Control → ℕ → Answer
read_enabled c v = read_when (enabled c) c v

abbrev pub vlr_read : Control → Answer
vlr_read c = read_enabled c c.vlr

abbrev pub vcr_read : Control → Answer
vcr_read c = read_enabled c c.vcr

abbrev pub vmr_low_read : Control → Answer
vmr_low_read c = read_enabled c (low c.vmr)

abbrev pub vmr_high_read : Control → Answer
vmr_high_read c = read_enabled c (high c.vmr)

abbrev pub vaer_read : Control → Answer
vaer_read c = read_when true c c.vaer

abbrev pub vpsr_read : Control → Answer
vpsr_read c = read_when true c c.vpsr

-- ---- writing: the record next takes the place of c, unless the move or the value is refused
unfoldable pub write_when : Bool → Bool → Control → Control → Outcome Control
write_when allowed accepted c next =
    pick (in_range c)
    (pick allowed
    (pick accepted (outcome (Ok 0) next) (refused (Err ValueRefused) c))
    (refused (Err Disabled) c))
    (refused (Err OutOfRange) c)

abbrev pub write_enabled : Bool → Control → Control → Outcome Control
write_enabled accepted c next = write_when (enabled c) accepted c next

-- VLR or VCR above 64 gets 11
abbrev pub vlr_written : Control → ℕ → Outcome Control
vlr_written c v = write_enabled (length_in_range v) c (with_vlr c v)

abbrev pub vcr_written : Control → ℕ → Outcome Control
vcr_written c v = write_enabled (length_in_range v) c (with_vcr c v)

abbrev pub vmr_low_written : Control → ℕ → Outcome Control
vmr_low_written c v = write_enabled true c (with_vmr c (with_low c.vmr v))

abbrev pub vmr_high_written : Control → ℕ → Outcome Control
vmr_high_written c v = write_enabled true c (with_vmr c (with_high c.vmr v))

-- ---- VPSR
-- settings of <3:0> in table 10-2: 0, 1, 2, 3, 4, 8, 9
abbrev pub setting_allowed : ℕ → Bool
setting_allowed n = leb n 4 || eqb n 8 || eqb n 9

-- any other setting, or a one in <4>, <23:8> or <30:26>, gets 11
abbrev pub vpsr_accepted : ℕ → Bool
vpsr_accepted v = setting_allowed (v % 2 ^ 4) && eqb (v / 2 ^ 4 % 2) 0 && eqb (v / 2 ^ 8 % 2 ^ 16) 0 && eqb (v / 2 ^ 26 % 2 ^ 5) 0

abbrev pub with_status : Control → ℕ → ℕ → Control
with_status c vaer vpsr = with_vpsr (with_vaer c vaer) vpsr

-- a one in bit 1 clears VPSR and VAER
abbrev pub after_reset : Control → ℕ → Control
after_reset c v = pick (bit v 1) (with_status c 0 0) c

-- a one in bit 7 clears AEX and VAER
abbrev pub after_aex : Control → ℕ → Control
after_aex c v = pick (bit v 7) (with_status c 0 (without_bit c.vpsr 7)) c

-- VEN then becomes bit 0
abbrev pub after_ven : Control → ℕ → Control
after_ven c v = with_status c c.vaer (c.vpsr / 2 * 2 + v % 2)

unfoldable pub vpsr_taken : Control → ℕ → Control
vpsr_taken c v = after_ven (after_aex (after_reset c v) v) v

-- bits 2, 3, 5, 6, 24, 25 and 31 have no effect
abbrev pub vpsr_written : Control → ℕ → Outcome Control
vpsr_written c v = write_when true (vpsr_accepted v) c (vpsr_taken c v)
