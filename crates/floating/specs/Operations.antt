-- What an element receives from the floating operations (document 01, "What an element receives"; document 02, Q-1 for division and Q-2 for
-- underflow): the value it leaves, and the type bits that VAER records. Definitions only.
use Rattle.std.specs.Prelude.{ℕ, Bool, false, ◌&&◌, ℤ}
use Rattle.numbers.specs.Choice.{pick}
use Rattle.numbers.specs.Relation.{relation_holds}
use Rattle.numbers.specs.Signed.{signed, low32, overflows}
use Rattle.floating.specs.Format.{Format, is_zero, is_reserved}
use Rattle.floating.specs.Exact.{Exact, value_of, whole, integer, plus, minus, times, over, is_less, is_equal}
use Rattle.floating.specs.Round.{near, chopped}
use Rattle.floating.specs.Delivered.{delivered}
use Rattle.floating.specs.declared.Delivery.{Delivery}
use Rattle.floating.specs.declared.Delivery.TheVariants.{Word, Overflow, Underflow, Reserved, DivisionByZero, ReservedByZero}
use Rattle.floating.specs.declared.Flagged.{Flagged}
use Rattle.floating.specs.declared.Compared.{Compared}

-- Exceptions write 00008000 plus type: 1 underflow, only with EXC, else zero; 4 reserved operand; 8 overflow. Document 02, Q-1: 2 division by zero; 6
-- a reserved operand divided by zero, which is both. VAER gets the bits that are ones in the type: bit 0, 1, 2 or 3, and for 6 the bits 1 and 2.
abbrev pub answered : Bool → Delivery → Flagged
answered exc (Word w) = record { value = w; types = 0 }
answered exc Overflow = record { value = 0x8008; types = 8 }
answered exc Underflow = pick exc (record { value = 0x8001; types = 1 }) (record { value = 0; types = 0 })
answered exc Reserved = record { value = 0x8004; types = 4 }
answered exc DivisionByZero = record { value = 0x8002; types = 2 }
answered exc ReservedByZero = record { value = 0x8006; types = 6 }

-- A reserved operand on either side decides first (in a quotient, after a divisor that is zero).
abbrev pub both : Format → (Exact → Exact → Exact) → ℕ → ℕ → Delivery
both f op a b =
    pick (is_reserved f a) Reserved
    (pick (is_reserved f b) Reserved
    (delivered f (op (value_of f a) (value_of f b))))

-- Va op Vb
abbrev pub sum : Format → ℕ → ℕ → Delivery
sum f a b = both f plus a b

abbrev pub difference : Format → ℕ → ℕ → Delivery
difference f a b = both f minus a b

abbrev pub product : Format → ℕ → ℕ → Delivery
product f a b = both f times a b

-- Va divided by Vb (document 02, Q-1). The first of these that holds: a reserved operand divided by zero; division by zero, zero by zero included;
-- any other reserved operand. Else the exact quotient.
abbrev pub quotient : Format → ℕ → ℕ → Delivery
quotient f a b =
    pick (is_reserved f a && is_zero f b) ReservedByZero
    (pick (is_zero f b) DivisionByZero
    (both f over a b))

-- ---- compare

-- The mask bit: Va stands left, and exact values are compared. A reserved operand clears it.
abbrev pub compared : Format → ℕ → ℕ → ℕ → Compared
compared f relation a b =
    pick (is_reserved f a) (record { bit = false; types = 4 })
    (pick (is_reserved f b) (record { bit = false; types = 4 })
    (record { bit = relation_holds relation (is_less (value_of f a) (value_of f b)) (is_equal (value_of f a) (value_of f b)); types = 0 }))

-- ---- conversions

-- the low 32 bits of the whole number; integer overflow, bit 5, is recorded with EXC
abbrev pub longword : Bool → ℤ → Flagged
longword exc z = record { value = low32 z; types = pick (exc && overflows z) 32 0 }

-- A format's number to a longword: the size is made whole, then the sign is taken. A reserved source writes zero.
abbrev pub to_longword : Format → (ℕ → ℕ → ℕ) → Bool → ℕ → Flagged
to_longword f made exc w =
    pick (is_reserved f w) (record { value = 0; types = 4 })
    (longword exc (integer (value_of f w).sign (made (value_of f w).num (value_of f w).den)))

-- conversion 5, halves away from zero
abbrev pub rounded_longword : Format → Bool → ℕ → Flagged
rounded_longword f exc w = to_longword f near exc w

-- conversion 4
abbrev pub truncated_longword : Format → Bool → ℕ → Flagged
truncated_longword f exc w = to_longword f chopped exc w

-- conversion 1
abbrev pub from_longword : Format → ℕ → Delivery
from_longword f l = delivered f (whole (signed l))
