-- The tests and the moves as the code makes them, over places in a window that stands at 0. No public promise cites this.
use Rattle.std.specs.Prelude.{◌≡◌, ℕ, ◌+◌, ◌%◌, ◌<◌, ◌≤◌, Bool, true, List, length, ◌==◌, nat_le, slice_index, Ok}
use Rattle.numbers.specs.Bits.{bit}
use Rattle.memory.specs.declared.access.Addressing.{Addressing}
use Rattle.memory.specs.Address.{Test, Search, address_by, found, tested}

-- the same as an Addressing says it
abbrev pub address_in : Addressing → List ℕ → ℕ → ℕ
address_in a l = address_by a.offsets a.base a.stride l a.vb.0

-- 64 addresses, of which those below n are the elements'
abbrev pub AddressesBelow : (ℕ → ℕ) → ℕ → List ℕ → Type 0
AddressesBelow address n addresses = (length addresses ≡ 64) × ((i : ℕ) → i < n → slice_index addresses i ≡ address i)

-- the same in a window of so many bytes that stands at 0, so that an address is a place in it (proofs/Relative.antt)
unfoldable pub test_at : ℕ → ℕ → ℕ → Test
test_at size bytes place = found (place % size == 0) (nat_le (place + size) bytes)

abbrev pub tests_at : ℕ → ℕ → (ℕ → ℕ) → ℕ → Test
tests_at size bytes place i = test_at size bytes (place i)

-- what holds of the place of an element that is fine
abbrev pub Within : ℕ → ℕ → ℕ → Type 0
Within size bytes place = place + size ≤ bytes

-- and of those of all operated elements below n
abbrev pub AllWithin : ℕ → ℕ → (ℕ → Bool) → (ℕ → ℕ) → ℕ → Type 0
AllWithin size bytes chosen place n = (i : ℕ) → i < n → chosen i ≡ true → Within size bytes (place i)

-- what the tests of a set leave: what they found and, if no element of the set is bad, a list of addresses that has those of the set
pub record Searched (size bytes which : ℕ) (place : ℕ → ℕ) (r : Search) (addresses : List ℕ) : Type 0 where
  pub told : r ≡ tested (bit which) (tests_at size bytes place) 64
  pub kept : r ≡ Ok tt → (i : ℕ) → bit which i ≡ true → slice_index addresses i ≡ place i
