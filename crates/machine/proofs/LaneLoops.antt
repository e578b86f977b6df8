-- The loops over elements, turn by turn, and the loops of each work against the instruction's own. Assumes nothing.
use mathlib.Core.Path.{◌≡◌, refl, sym, ap, ap₂, ◌∙◌}
use mathlib.Core.Bool.{Bool, true, false, not}
use Prim.Native.Nat.{ℕ, ◌+◌, ◌/◌, ◌%◌, ◌^◌}
use lib.Dec.{eqb}
use lib.Pow.{shr-shr}
use borrow.Author.Tests.{ne_eqb}
use Rattle.numbers.specs.Choice.{pick}
use Rattle.numbers.specs.Bits.{bit}
use Rattle.numbers.specs.Working.{of_ones, TakesLowest}
use Rattle.numbers.specs.Rising.{rising}
use Rattle.numbers.proofs.SetBits.{Walk, turns-walk, ends-walk, ones-alike}
use Rattle.state.specs.Elements.{at}
use Rattle.opcodes.specs.declared.Instruction.{Instruction}
use Rattle.opcodes.specs.declared.works.Work.{Work}
use Rattle.opcodes.specs.declared.works.Work.TheVariants.{Convert}
use Rattle.opcodes.specs.Works.{reads, row_of}
use Rattle.opcodes.specs.ControlWord.{field_by}
use Rattle.element.specs.declared.Out.{Out}
use Rattle.element.specs.Receives.{result_of}
use Rattle.element.specs.Working.{is_short}
use Rattle.machine.proofs.Works.{of-shorts}
use Rattle.machine.specs.Working.{operand_at, Lanes, landed, lane, lane_of, lane_in, plainly, short_lane, converting}

-- the mask, halved at each element
module _ (mask left i : ℕ) (e : left ≡ mask / 2 ^ i) where
  pub its-bit : eqb (left % 2) 1 ≡ bit mask i
  its-bit = ap (λ (y : ℕ). eqb (y % 2) 1) e

  pub halved : left / 2 ≡ mask / 2 ^ (i + 1)
  halved = ap (λ (y : ℕ). y / 2) e ∙ shr-shr mask i 1

-- element i, as its step would have it for the work n
abbrev out_of : Work → Instruction → ℕ → ℕ → ℕ → Lanes → Out
out_of n ins x mask i s =
    result_of n ins.exc (field_by (row_of n).holds ins) (pick (not (row_of n).obeys_moe) (bit mask i) false)
    (pick ins.scalar x (pick (reads (row_of n).va ins.scalar) (at s.elements ins.va.0 i) 0))
    (pick (reads (row_of n).vb ins.scalar) (at s.elements ins.vb.0 i) 0)
    (at s.elements ins.vc.0 i)

-- a work that takes its registers as most do: Va in the vector form, Vb, and nothing else of the control word
module _ (k : Work) (ins : Instruction) (work : ins.work ≡ k) (field : field_by (row_of k).holds ins ≡ 0)
    (va : (s : Bool) → reads (row_of k).va s ≡ not s) (vb : (s : Bool) → reads (row_of k).vb s ≡ true) (x mask : ℕ)
    (w : ℕ → ℕ → ℕ → ℕ → Out)
    (does : (i a b c : ℕ) → w i a b c ≡ result_of k ins.exc 0 (pick (not (row_of k).obeys_moe) (bit mask i) false) a b c)
  where
    plain_lane : (i : ℕ) (s : Lanes) → lane_in ins.scalar (w i) ins x i s ≡ lane ins x mask i s
    unfolding lane lane_of lane_in
    plain_lane i s =
        ap (landed ins.vc.0 i s)
        (does i (operand_at ins.scalar x ins.va.0 s.elements i) b (at s.elements ins.vc.0 i)
        ∙ ap₂ (λ (f y : ℕ). of f y b) (sym field) (form ins.scalar a)
        ∙ ap₂ (λ (t u : Bool). of (field_by (row_of k).holds ins) (pick ins.scalar x (pick t a 0)) (pick u b 0))
        (sym (va ins.scalar)) (sym (vb ins.scalar))
        ∙ ap (λ (n : Work). out_of n ins x mask i s) (sym work))
      where
        a : ℕ
        a = at s.elements ins.va.0 i

        b : ℕ
        b = at s.elements ins.vb.0 i

        of : ℕ → ℕ → ℕ → Out
        of f y z = result_of k ins.exc f (pick (not (row_of k).obeys_moe) (bit mask i) false) y z (at s.elements ins.vc.0 i)

        form : (t : Bool) (y : ℕ) → pick t x y ≡ pick t x (pick (not t) y 0)
        form true y = refl
        form false y = refl

-- so takes a work k, as its row says; and one that obeys MOE does not look at the mask bit
pub record Plainly (k : Work) (ins : Instruction) : Type 0 where
  pub field : field_by (row_of k).holds ins ≡ 0
  pub va : (s : Bool) → reads (row_of k).va s ≡ not s
  pub vb : (s : Bool) → reads (row_of k).vb s ≡ true
  pub bit : (exc m : Bool) (a b c : ℕ) → result_of k exc 0 m a b c ≡ result_of k exc 0 (pick (not (row_of k).obeys_moe) m false) a b c

short-plainly : (k : Work) → is_short k ≡ true → (ins : Instruction) → Plainly k ins
unfolding result_of row_of
short-plainly k is ins =
    of-shorts (λ (n : Work). Plainly n ins) k is (search) (search) (search) (search) (search) (search) (search) (search) (search)

-- convert, which has no first operand
convert-lane : (ins : Instruction) (x mask i : ℕ) (s : Lanes) → ins.work ≡ Convert → lane_of (converting ins.exc ins.va.0) ins 0 i s ≡ lane ins x mask i s
unfolding lane lane_of result_of row_of
convert-lane ins x mask i s e = ap (λ (n : Work). landed ins.vc.0 i s (out_of n ins x mask i s)) (sym e)

-- what is neither 5 nor 4 is converted as 1 is
other-conversion : (exc : Bool) (conversion a b c : ℕ) → (conversion ≡ 5 → ⊥) → (conversion ≡ 4 → ⊥) → converting exc 1 a b c ≡ converting exc conversion a b c
unfolding result_of
other-conversion exc conversion a b c f g = rw (ne_eqb conversion 5 f, ne_eqb conversion 4 g) refl

pub other_conversions : (ins : Instruction) (which : ℕ) (s₀ s : Lanes) (conversion : ℕ) → (conversion ≡ 5 → ⊥) → (conversion ≡ 4 → ⊥)
    → s ≡ rising (of_ones (lane_of (converting ins.exc 1) ins 0) which) 64 s₀
    → s ≡ rising (of_ones (lane_of (converting ins.exc conversion) ins 0) which) 64 s₀
unfolding lane_of
other_conversions ins which s₀ s conversion f g e =
    e
    ∙ ones-alike (lane_of (converting ins.exc 1) ins 0) (lane_of (converting ins.exc conversion) ins 0) which 64 s₀
    (λ i y _. ap (landed ins.vc.0 i y) (other-conversion ins.exc conversion 0 (at y.elements ins.vb.0 i) (at y.elements ins.vc.0 i) f g))

-- ---- a loop by the work, which is a constant, against the instruction's own
module _ (ins : Instruction) (x mask which : ℕ) (s₀ s : Lanes) where
  abbrev Made : Type 0
  Made = s ≡ rising (of_ones (lane ins x mask) which) 64 s₀

  by-set : (turn : ℕ → Lanes → Lanes) → ((i : ℕ) (y : Lanes) → turn i y ≡ lane ins x mask i y) → s ≡ rising (of_ones turn which) 64 s₀ → Made
  by-set turn same e = e ∙ ones-alike turn (lane ins x mask) which 64 s₀ (λ i y _. same i y)

  -- a short work
  module _ (k : Work) (is : is_short k ≡ true) (work : ins.work ≡ k) where
    same-short : (i : ℕ) (y : Lanes) → short_lane k ins.exc mask ins x i y ≡ lane ins x mask i y
    same-short =
        let p = short-plainly k is ins in
        plain_lane k ins work p.field p.va p.vb x mask (λ i. plainly k ins.exc (bit mask i)) (λ i. p.bit ins.exc (bit mask i))

    pub short_set : s ≡ rising (of_ones (short_lane k ins.exc mask ins x) which) 64 s₀ → Made
    short_set = by-set (short_lane k ins.exc mask ins x) same-short

  -- a floating work, of two operands
  pub floating_set : (k : Work) (w : Work) → Plainly k ins → w ≡ k → (row_of k).obeys_moe ≡ true → ins.work ≡ k
      → s ≡ rising (of_ones (lane_in ins.scalar (plainly w ins.exc false) ins x) which) 64 s₀ → Made
  floating_set k w p is obeys work =
      by-set (lane_in ins.scalar (plainly w ins.exc false) ins x)
      (plain_lane k ins work p.field p.va p.vb x mask (λ i. plainly w ins.exc false)
      (λ i a b c. ap₂ (λ (v : Work) (t : Bool). result_of v ins.exc 0 (pick (not t) (bit mask i) false) a b c) is (sym obeys)))

  pub convert_set : ins.work ≡ Convert → s ≡ rising (of_ones (lane_of (converting ins.exc ins.va.0) ins 0) which) 64 s₀ → Made
  convert_set work = by-set (lane_of (converting ins.exc ins.va.0) ins 0) (λ i y. convert-lane ins x mask i y work)

-- ---- a walk over the ones of a set, as its loop has it
module _ {A : Type 0} (f : ℕ → A → A) (which : ℕ) (a₀ : A) (left : ℕ) (a : A) (w : Walk f which 64 a₀ left a) where
  pub next_walk : (i rest : ℕ) (b : A) → TakesLowest left i rest → b ≡ f i a → Walk f which 64 a₀ rest b
  next_walk i rest b t e = turns-walk f which 64 a₀ left a w t.some w.small i t.lowest rest t.others b e

  pub end_walk : (rest : ℕ) → (left ≡ 0) × (rest ≡ 0) → a ≡ rising (of_ones f which) 64 a₀
  end_walk rest t = ends-walk f which 64 a₀ left a w t.0
