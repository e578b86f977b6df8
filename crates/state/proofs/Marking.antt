-- Marks gather by or: no order binds them, and a set's are its elements'. Assumes nothing.
use mathlib.Core.Path.{◌≡◌, refl, sym, ap, ◌∙◌}
use mathlib.Core.Bool.{Bool, ◌&&◌, ◌||◌, or-false}
use mathlib.Core.List.{List}
use Prim.Native.Nat.{ℕ, ◌^◌, ◌<◌}
use native.Mathlib.Omega.{arith}
use native.Mathlib.Decide.{dec_lt, ℕ_discrete}
use lib.Bits.{bit_or, or_zero_r, or_comm}
use lib.Dec.{eqb}
use lib.ListN.{length, get_or, set}
use lib.Seq.{get_or-set_same, get_or-set_other, set-get_or, set-set, set_comm, set_out}
use borrow.Author.Tests.{eq-eqb, ne_eqb}
use Rattle.numbers.specs.Bits.{bit}
use Rattle.numbers.specs.Rising.{rising}
use Rattle.numbers.specs.Working.{of_ones}
use Rattle.numbers.proofs.BitLaws.{or_assoc}
use Rattle.numbers.proofs.Sets.{bit-or}
use Rattle.numbers.proofs.SetBits.{ones-carry}
use Rattle.numbers.proofs.Unions.{joins, union}
use Rattle.state.specs.Marks.{also_marked, one_element}

-- no element more
pub marks-none : (m : List ℕ) (r : ℕ) → also_marked m r 0 ≡ m
marks-none m r = ap (set m r) (or_zero_r (get_or m r 0)) ∙ set-get_or m r 0

-- two sets of one register are their union
pub marks-twice : (m : List ℕ) (r a b : ℕ) → also_marked (also_marked m r a) r b ≡ also_marked m r (bit_or a b)
marks-twice m r a b = set-set m r _ _ ∙ at (dec_lt r (length m))
  where
    at : Dec (r < length m) → set m r (bit_or (get_or (also_marked m r a) r 0) b) ≡ also_marked m r (bit_or a b)
    at (yes h) = ap (set m r) (ap (λ (x : ℕ). bit_or x b) (get_or-set_same m r _ 0 h) ∙ or_assoc (get_or m r 0) a b)
    at (no h) = set_out m r _ (omega arith) ∙ sym (set_out m r _ (omega arith))

-- no order binds them
pub marks-swap : (m : List ℕ) (r a s b : ℕ) → also_marked (also_marked m r a) s b ≡ also_marked (also_marked m s b) r a
marks-swap m r a s b = at (ℕ_discrete r s)
  where
    at : Dec (r ≡ s) → also_marked (also_marked m r a) s b ≡ also_marked (also_marked m s b) r a
    at (yes e) =
        ap (λ (q : ℕ). also_marked (also_marked m r a) q b) (sym e)
        ∙ marks-twice m r a b
        ∙ ap (also_marked m r) (or_comm a b)
        ∙ sym (marks-twice m r b a)
        ∙ ap (λ (q : ℕ). also_marked (also_marked m q b) r a) e
    at (no e) =
        ap (λ (x : ℕ). set (also_marked m r a) s (bit_or x b)) (get_or-set_other m r s _ 0 (λ q. e (sym q)))
        ∙ set_comm m r s _ _ e
        ∙ ap (λ (x : ℕ). set (also_marked m s b) r (bit_or x a)) (sym (get_or-set_other m s r _ 0 e))

-- a set's elements, marked one by one
pub marks-rise : (m : List ℕ) (r which n : ℕ) → which < 2 ^ n
    → rising (of_ones (λ (i : ℕ) (x : List ℕ). also_marked x r (one_element i)) which) n m ≡ also_marked m r which
marks-rise m r which n small =
    ap (rising (of_ones mark which) n) (sym (marks-none m r))
    ∙ sym (ones-carry (also_marked m r) joins mark which n 0 (λ i x h. sym (marks-twice m r x (one_element i))))
    ∙ ap (also_marked m r) (union which n small)
  where
    mark : ℕ → List ℕ → List ℕ
    mark i x = also_marked x r (one_element i)

-- the bit of an element after a set of register r's joined the marks
pub marked-bit : (m : List ℕ) (r which p i : ℕ) → r < length m
    → bit (get_or (also_marked m r which) p 0) i ≡ (bit (get_or m p 0) i || (eqb p r && bit which i))
marked-bit m r which p i h = at (ℕ_discrete p r)
  where
    at : Dec (p ≡ r) → bit (get_or (also_marked m r which) p 0) i ≡ (bit (get_or m p 0) i || (eqb p r && bit which i))
    at (yes e) =
        rw e
        (ap (λ (x : ℕ). bit x i) (get_or-set_same m r _ 0 h)
        ∙ bit-or (get_or m r 0) which i
        ∙ ap (λ (t : Bool). bit (get_or m r 0) i || (t && bit which i)) (sym (eq-eqb r r refl)))
    at (no e) =
        ap (λ (x : ℕ). bit x i) (get_or-set_other m r p _ 0 e)
        ∙ sym (or-false (bit (get_or m p 0) i))
        ∙ ap (λ (t : Bool). bit (get_or m p 0) i || (t && bit which i)) (sym (ne_eqb p r e))
