-- Document 01, "What an element receives": an element by its register, and the bit of the mask that chooses it.
use Rattle.std.specs.Prelude.{Bool, List, ℕ, get_or}
use Rattle.std.specs.Bool.{beq}
use Rattle.numbers.specs.Bits.{bit}
use Rattle.state.specs.State.{place_of}

-- element i of register r
abbrev pub at : List ℕ → ℕ → ℕ → ℕ
at l r i = get_or l (place_of r i) 0

-- VMR<i> = MTF
abbrev pub matches : ℕ → Bool → ℕ → Bool
matches vmr mtf i = beq (bit vmr i) mtf
