-- A walk over the ones of a set of 64 bits, as the loops of this crate take it. Assumes nothing.
use Rattle.std.proofs.Common.{◌≡◌, ℕ, ◌<◌}
use Rattle.numbers.specs.Bits.{without_bit}
use Rattle.numbers.specs.Working.{lowest_one}
use Rattle.numbers.proofs.SetBits.{Walk, turns-walk}

-- one turn, at the lowest one
pub goes_on : {A : Type 0} {f : ℕ → A → A} {which left : ℕ} {a₀ a : A} → Walk f which 64 a₀ left a → 0 < left → {i : ℕ} → i ≡ lowest_one left
    → {rest : ℕ} → rest ≡ without_bit left (lowest_one left) → (b : A) → b ≡ f i a → Walk f which 64 a₀ rest b
goes_on {f = f} {which = which} {left = left} {a₀ = a₀} {a = a} w some {i = i} at {rest = rest} others =
    turns-walk f which 64 a₀ left a w some w.small i at rest others
