-- IOTA: the count of ones is the walk's own count, and the walk's turns.
-- Assumes nothing.
use mathlib.Core.Path.{◌≡◌, refl, sym, ap, ap₂, ◌∙◌}
use mathlib.Core.Bool.{Bool, true, false, ◌&&◌, beq}
use mathlib.Core.List.{List}
use Prim.Native.Nat.{ℕ, zero, suc, ◌+◌, ◌-◌, ◌*◌, ◌%◌, ◌^◌, ◌≤◌, ◌<◌}
use native.Mathlib.Nat.{le_refl}
use native.Mathlib.Omega.{arith}
use lib.Count.{ones}
use lib.Dec.{ltb}
use borrow.Author.Tests.{lt-ltb, le-ltb}
use Rattle.numbers.specs.Choice.{pick}
use Rattle.numbers.specs.Bits.{bit}
use Rattle.numbers.specs.Working.{low_bits, complement, lowest_one, of_ones, TakesLowest}
use Rattle.numbers.specs.Rising.{rising}
use Rattle.numbers.specs.Halves.{low}
use Rattle.numbers.proofs.BitLaws.{digit, digit-complement, bit-counts, bit_below, none_below, one-more-below}
use Rattle.numbers.proofs.Rising.{settles}
use Rattle.numbers.proofs.SetBits.{Walk, ends-walk, turns-walk, rises}
use Rattle.numbers.proofs.Tests.{pick_true, pick-false}
use Rattle.numbers.proofs.Unions.{first-ones}
use Rattle.opcodes.specs.declared.Instruction.{Instruction}
use Rattle.machine.specs.declared.Effect.{Effect}
use Rattle.opcodes.specs.Opcodes.{in_one_step}
use Rattle.machine.specs.Run.{Gathered, run, added, joined}
use Rattle.state.specs.declared.Control.{Control}
use Rattle.state.specs.Marks.{first_elements}
use Rattle.state.specs.State.{with_vmr, with_vcr}
use Rattle.state.specs.Elements.{matches}
use Rattle.machine.specs.Iota.{matching, put, turned, walked, count_of, iota_step}
use Rattle.machine.specs.Working.{matched, Counted, counted, iota_turn, effected, done_for}
use Rattle.machine.proofs.Values.{is-matched}

-- ---- the count of ones

-- a bit that matches MTF is a one of the mask, or of its complement
matches-counts : (w vmr : ℕ) (mtf : Bool) (i : ℕ) → vmr < 2 ^ w → i < w → pick (matches vmr mtf i) 1 0 ≡ digit (pick mtf vmr (complement w vmr)) i
matches-counts w vmr true i small h = ap (λ (t : Bool). pick t 1 0) (is_true (bit vmr i)) ∙ bit-counts vmr i
  where
    is_true : (t : Bool) → beq t true ≡ t
    is_true true = refl
    is_true false = refl
matches-counts w vmr false i small h =
    opposite-digit (bit vmr i) (digit vmr i) (bit-counts vmr i) ∙ sym (digit-complement w vmr i small h)
  where
    opposite-digit : (t : Bool) (d : ℕ) → pick t 1 0 ≡ d → pick (beq t false) 1 0 ≡ 1 - d
    opposite-digit true d e = ap (λ (n : ℕ). 1 - n) e
    opposite-digit false d e = ap (λ (n : ℕ). 1 - n) e

-- the ones of the mask or its complement, cut at n, are the matching bits below n
pub ones-matching : (w vmr : ℕ) (mtf : Bool) (n : ℕ) → vmr < 2 ^ w → n ≤ w → ones (low_bits (pick mtf vmr (complement w vmr)) n) ≡ matching vmr mtf n
unfolding matching
ones-matching w vmr mtf zero small h = none_below (pick mtf vmr (complement w vmr))
ones-matching w vmr mtf (suc n) small h =
    one-more-below (pick mtf vmr (complement w vmr)) n
    ∙ ap₂ (λ (a b : ℕ). a + b) (ones-matching w vmr mtf n small (omega arith)) (sym (matches-counts w vmr mtf n small h))

-- there are no more matching bits than bits
pub matching-le : (vmr : ℕ) (mtf : Bool) (n : ℕ) → matching vmr mtf n ≤ n
unfolding matching
matching-le vmr mtf zero = omega arith
matching-le vmr mtf (suc n) = one_more (matches vmr mtf n) (matching-le vmr mtf n)
  where
    one_more : (t : Bool) → matching vmr mtf n ≤ n → matching vmr mtf n + pick t 1 0 ≤ suc n
    one_more true h = omega arith
    one_more false h = omega arith

-- what `count` makes of them
pub counts : (vmr : ℕ) (mtf : Bool) (n m b : ℕ) → vmr < 2 ^ 64 → n ≤ 64 → m ≡ pick mtf vmr (complement 64 vmr) → b ≡ low_bits m n → ones b ≡ matching vmr mtf n
counts vmr mtf n m b small h e f = ap ones (f ∙ ap (λ (x : ℕ). low_bits x n) e) ∙ ones-matching 64 vmr mtf n small h

-- ---- the walk over the ones of the mask or its complement, cut at VLR

-- the walk goes on: the next element is no higher than the one that the lowest one left stands for
abbrev pub Going : ℕ → ℕ → ℕ → List ℕ → ℕ → List ℕ → ℕ → Type 0
Going stride vc which l₀ left l next = Walk (iota_turn stride vc) which 64 (counted l₀ 0) left (counted l next) × (next ≤ lowest_one left)

module _ (stride vc which : ℕ) (l₀ : List ℕ) (left next : ℕ) (l : List ℕ) (g : Going stride vc which l₀ left l next) where
  pub finishes : left ≡ 0 → counted l next ≡ rising (of_ones (iota_turn stride vc) which) 64 (counted l₀ 0)
  finishes e = ends-walk (iota_turn stride vc) which 64 (counted l₀ 0) left (counted l next) g.0 e

  pub goes : (i rest : ℕ) → TakesLowest left i rest → (l' : List ℕ) → l' ≡ put vc next (i * stride % 2 ^ 32) l → Going stride vc which l₀ rest l' (next + 1)
  unfolding iota_turn
  goes i rest t l' e = (
    turns-walk (iota_turn stride vc) which 64 (counted l₀ 0) left (counted l next) g.0 t.some g.0.small i t.lowest rest t.others (counted l' (next + 1))
        (ap (λ (y : List ℕ). counted y (next + 1)) e),
    let h = rises left t.some g.0.small in let k = g.1 in rw t.others (omega arith),
  )

module _ (vmr : ℕ) (mtf : Bool) (stride vc : ℕ) (l : List ℕ) (word : vmr < 2 ^ 64) (vlr which : ℕ) (short : vlr ≤ 64)
    (is : which ≡ low_bits (matched vmr mtf) vlr)
  where
    abbrev after : ℕ → Counted
    after n = rising (of_ones (iota_turn stride vc) which) n (counted l 0)

    in-set : (n : ℕ) (t : Bool) → ltb n vlr ≡ t → bit which n ≡ (t && bit (matched vmr mtf) n)
    in-set n t e = ap (λ (y : ℕ). bit y n) is ∙ bit_below (matched vmr mtf) vlr n ∙ ap (λ (u : Bool). u && bit (matched vmr mtf) n) e

    ones-match : (n : ℕ) → n < vlr → bit which n ≡ matches vmr mtf n
    ones-match n h = in-set n true (lt-ltb n vlr h) ∙ is-matched vmr mtf n word (omega arith)

    ones-past : (n : ℕ) → vlr ≤ n → bit which n ≡ false
    ones-past n h = in-set n false (le-ltb n vlr h)

    -- it is the walk over the mask
    same-walk : (n : ℕ) → n ≤ vlr → after n ≡ counted (walked vmr mtf stride vc n l) (matching vmr mtf n)
    unfolding rising of_ones iota_turn walked turned matching
    same-walk zero h = refl
    same-walk (suc n) h =
        ap₂ (λ (t : Bool) (s : Counted). pick t (iota_turn stride vc n s) s) (ones-match n h) (same-walk n (omega arith))
        ∙ go (matches vmr mtf n) (matching vmr mtf n) (walked vmr mtf stride vc n l) _
      where
        go : (t : Bool) (e : ℕ) (l' further : List ℕ) → pick t (counted further (e + 1)) (counted l' e) ≡ counted (pick t further l') (e + pick t 1 0)
        go true e l' further = refl
        go false e l' further = ap (counted l') (omega arith)

    pub whole-walk : (l' : List ℕ) (next : ℕ) → counted l' next ≡ after 64 → l' ≡ walked vmr mtf stride vc vlr l
    unfolding of_ones
    whole-walk l' next e =
        ap (λ (s : Counted). s.elements)
        (e
        ∙ sym (settles (of_ones (iota_turn stride vc) which) (after vlr) (counted l 0) vlr 64 short
        (λ j h _. pick-false (bit which j) (iota_turn stride vc j (after vlr)) (after vlr) (ones-past j h)) refl)
        ∙ same-walk vlr (le_refl vlr))

-- ---- the step

-- l' is what the walk leaves, and the count that of the ones
pub stepped : (ins : Instruction) (stride low-stride which bits next : ℕ) (c : Control) (g : Gathered) (l l' : List ℕ) (e : Effect)
    → in_one_step ins ≡ true → c.vmr < 2 ^ 64 → c.vlr ≤ 64
    → bits ≡ low_bits (matched c.vmr ins.mtf) c.vlr
    → low-stride ≡ low stride
    → counted l' next ≡ rising (of_ones (iota_turn low-stride ins.vc.0) bits) 64 (counted l 0)
    → e.vmr ≡ c.vmr → e.vcr ≡ ones bits → e.notes ≡ 0 → e.wrote ≡ low_bits (2 ^ 64 - 1) e.vcr
    → effected l' ins e c g ≡ done_for which ins stride (run l c g)
unfolding done_for iota_step
stepped ins stride low-stride which bits next c g l l' e iota word short is s walk v k n wrote =
    ap₂ (λ (a b : ℕ). run l' (with_vcr (with_vmr c a) e.vcr) (joined g (added b ins.vc.0 e.wrote))) v n
    ∙ ap₂ (λ (a b : ℕ). run l' (with_vcr c a) (joined g (added 0 ins.vc.0 b))) (k ∙ count) first
    ∙ ap (λ (y : List ℕ). run y (with_vcr c (count_of ins c)) (joined g (added 0 ins.vc.0 (first_elements (count_of ins c))))) left
    ∙ sym (pick_true (in_one_step ins) _ _ iota)
  where
    count : ones bits ≡ count_of ins c
    count = counts c.vmr ins.mtf c.vlr (matched c.vmr ins.mtf) bits word short refl is

    first : e.wrote ≡ first_elements (count_of ins c)
    first =
        wrote
        ∙ ap (low_bits (2 ^ 64 - 1)) (k ∙ count)
        ∙ first-ones 64 (count_of ins c) (let m = matching-le c.vmr ins.mtf c.vlr in omega arith)

    left : l' ≡ walked c.vmr ins.mtf (low stride) ins.vc.0 c.vlr l
    left =
        whole-walk c.vmr ins.mtf low-stride ins.vc.0 l word c.vlr bits short is l' next walk
        ∙ ap (λ (t : ℕ). walked c.vmr ins.mtf t ins.vc.0 c.vlr l) s
