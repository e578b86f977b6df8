-- The loop over compares, and what it makes of the mask. Assumes nothing.
use mathlib.Core.Path.{◌≡◌, refl, sym, ap, ap₂, ◌∙◌}
use mathlib.Core.Bool.{Bool, true, false, not, ◌&&◌, ◌||◌}
use mathlib.Core.Logic.{◌⊎◌, inl, inr}
use mathlib.Core.List.{List}
use Prim.Native.Nat.{ℕ, zero, suc, ◌+◌, ◌-◌, ◌*◌, ◌/◌, ◌%◌, ◌^◌, ◌≤◌, ◌<◌}
use native.Mathlib.Nat.{pow-suc, mod-lt, zero-add}
use native.Mathlib.Omega.{arith}
use borrow.Author.Tests.{lt-ltb, le-ltb, eqb-true, eq-eqb, ne_eqb}
use lib.Dec.{eqb, ltb}
use lib.Bits.{bit_or, bit_and, or_zero_l, or_zero_r}
use lib.Pow.{pow_mono}
use Rattle.numbers.specs.Choice.{pick}
use Rattle.numbers.specs.Bits.{bit, with_bit}
use Rattle.numbers.specs.Rising.{rising}
use Rattle.numbers.specs.Working.{of_ones}
use Rattle.numbers.proofs.BitLaws.{digit-suc, digit-zero, bit_is, bit_kept, bit-replaced, dec_eq}
use Rattle.numbers.proofs.Sets.{same_bits, bit-and, bit-none}
use Rattle.numbers.proofs.SetBits.{ones-carry}
use Rattle.numbers.proofs.Tests.{below_or_not, and_left, and_right, pick_true, pick-false}
use Rattle.state.specs.Elements.{at, matches}
use Rattle.opcodes.specs.declared.Instruction.{Instruction}
use Rattle.opcodes.specs.Opcodes.{writes_mask, in_one_step}
use Rattle.opcodes.specs.ControlWord.{field_by, field_of}
use Rattle.opcodes.specs.Works.{Writes, element, mask_bit, counted_elements, bytes, is_mask_bit, is_counted, reads, row_of}
use Rattle.opcodes.specs.declared.works.Work.{Work}
use Rattle.opcodes.specs.declared.works.Work.TheVariants.{CompareLongword, CompareF}
use Rattle.machine.proofs.Works.{is_compare-of}
use Rattle.element.specs.declared.Out.{Out}
use Rattle.element.specs.Receives.{result_of}
use Rattle.element.specs.Working.{is_compare}
use Rattle.element.proofs.Groups.{of-compares, compare-types}
use Rattle.element.proofs.Opposites.{opposite-types, opposite-bit}
use Rattle.machine.specs.declared.Effect.{Effect}
use Rattle.machine.specs.Run.{Gathered, Run, run, added, joined}
use Rattle.state.specs.declared.Control.{Control}
use Rattle.state.specs.Marks.{one_element}
use Rattle.state.specs.State.{with_vmr, with_vcr}
use Rattle.machine.specs.Step.{first, second, chooses, received, register_bit, notes, written, wrote_at, adding, worked}
use Rattle.machine.specs.Iota.{iota_step}
use Rattle.machine.specs.Working.{operand_at, compared_at, odd_from, OddBelow, effected, done_for}
use Rattle.machine.proofs.Gather.{joined-nothing, joined-twice}

-- ---- the set that the loop makes
pub odd-small : (v : ℕ → ℕ) (i n : ℕ) → odd_from v i n < 2 ^ n
unfolding odd_from
odd-small v i zero = omega arith
odd-small v i (suc n) =
    let p : 2 ^ suc n ≡ 2 ^ n * 2 = pow-suc 2 n in
    let g : odd_from v (suc i) n < 2 ^ n = odd-small v (suc i) n in
    omega arith

lower : (x d : ℕ) → d < 2 → bit (x * 2 + d) 0 ≡ eqb d 1
lower x d h = bit_is (x * 2 + d) 0 d (digit-zero (x * 2 + d) ∙ omega arith)

higher : (x d k : ℕ) → d < 2 → bit (x * 2 + d) (suc k) ≡ bit x k
higher x d k h = ap (λ (e : ℕ). eqb e 1) (sym (digit-suc (x * 2 + d) k)) ∙ ap (λ (y : ℕ). bit y k) half
  where
    half : (x * 2 + d) / 2 ≡ x
    half = omega arith

pub odd-bit : (v : ℕ → ℕ) (i n k : ℕ) → k < n → bit (odd_from v i n) k ≡ eqb (v (i + k) % 2) 1
unfolding odd_from
odd-bit v i zero k h = absurd (omega arith)
odd-bit v i (suc n) zero h =
    lower (odd_from v (suc i) n) (v i % 2) (mod-lt (v i) (omega arith))
    ∙ ap (λ (j : ℕ). eqb (v j % 2) 1) same
  where
    same : i ≡ i + 0
    same = omega arith
odd-bit v i (suc n) (suc k) h =
    higher (odd_from v (suc i) n) (v i % 2) k (mod-lt (v i) (omega arith))
    ∙ odd-bit v (suc i) n k (omega arith)
    ∙ ap (λ (j : ℕ). eqb (v j % 2) 1) same
  where
    same : suc i + k ≡ i + suc k
    same = omega arith

pub odd-below : (v : ℕ → ℕ) (n set : ℕ) → set ≡ odd_from v 0 n → OddBelow v n set
odd-below v n set q k h =
    ap (λ (s : ℕ). bit s k) q
    ∙ odd-bit v 0 n k h
    ∙ ap (λ (j : ℕ). eqb (v j % 2) 1) (zero-add k)

-- ---- the loop, from the highest element down
pub nothing : (v : ℕ → ℕ) (to : ℕ) → 0 ≡ odd_from v to (to - to)
unfolding odd_from
nothing v to = ap (odd_from v to) none
  where
    none : 0 ≡ to - to
    none = omega arith

module _ (v : ℕ → ℕ) (i to : ℕ) (set : ℕ) (is : set ≡ odd_from v i (to - i)) where
  -- there is room for one more
  pub room : 0 < i → to ≤ 64 → set < 2 ^ 63
  room h g =
      let e = odd-small v i (to - i) in
      let m : 2 ^ (to - i) ≤ 2 ^ 63 = pow_mono {j = 63} (omega arith) in
      omega arith

  pub done : i ≤ 0 → set ≡ odd_from v 0 to
  done g = let e : i ≡ 0 = omega arith in let z : to - 0 ≡ to = omega arith in is ∙ ap (λ (j : ℕ). odd_from v j (to - j)) e ∙ ap (odd_from v 0) z

  pub one_more : (j : ℕ) → j ≡ i - 1 → 0 < i → i ≤ to → set * 2 + v j % 2 ≡ odd_from v j (to - j)
  unfolding odd_from
  one_more j e h g =
      ap (λ (x : ℕ). x * 2 + v j % 2) (is ∙ ap (λ (k : ℕ). odd_from v k (to - i)) up)
      ∙ ap (odd_from v j) count
    where
      up : i ≡ suc j
      up = omega arith

      count : suc (to - i) ≡ to - j
      count = omega arith

-- ---- a compare, from what the relation's bits <1:0> found and refused
module _ (relation : ℕ) (w : Work) (is : is_compare w ≡ true) (scalar : Bool) (ins : Instruction) (x : ℕ) (l : List ℕ) (n : ℕ) where
  abbrev at_element : ℕ → ℕ → Out
  at_element r i = compared_at w r scalar ins x l i

  pub opposite_refused : (refused : ℕ) → refused ≡ odd_from (λ i. (at_element (relation % 4) i).types / 4) 0 n
      → OddBelow (λ i. (at_element relation i).types / 4) n refused
  opposite_refused refused q i h =
      odd-below _ n refused q i h
      ∙ ap (λ (t : ℕ). eqb (t / 4 % 2) 1) (opposite-types relation w is (operand_at scalar x ins.va.0 l i) (at l ins.vb.0 i))

  pub opposite_found : (found refused all : ℕ) → found ≡ odd_from (λ i. (at_element (relation % 4) i).value) 0 n
      → refused ≡ odd_from (λ i. (at_element (relation % 4) i).types / 4) 0 n → n ≤ 64
      → ((i : ℕ) → i < 64 → bit all i ≡ pick (eqb (relation / 4 % 2) 1) (not (bit found i || bit refused i)) (bit found i))
      → OddBelow (λ i. (at_element relation i).value) n all
  opposite_found found refused all p q s e i h =
      e i (omega arith)
      ∙ ap₂ (λ (f r : Bool). pick (eqb (relation / 4 % 2) 1) (not (f || r)) f) (odd-below _ n found p i h) (odd-below _ n refused q i h)
      ∙ opposite-bit relation w is (operand_at scalar x ins.va.0 l i) (at l ins.vb.0 i)

-- ---- the mask, as the compares of a set leave it
no-iota : (w : Writes) → is_mask_bit w ≡ true → is_counted w ≡ false
no-iota element e = refl
no-iota mask_bit e = refl
no-iota counted_elements e = sym e
no-iota bytes e = refl

pub is-compare : (ins : Instruction) → writes_mask ins ≡ true → is_compare ins.work ≡ true
is-compare ins e = sym (is_compare-of ins.work) ∙ e

none_of : (s : Bool) → (s && false) ≡ false
none_of true = refl
none_of false = refl

record Mask : Type 0 where
  vmr : ℕ
  types : ℕ

abbrev masked : ℕ → ℕ → Mask
masked v t = record { vmr = v; types = t }

module _ (ins : Instruction) (x which : ℕ) (l : List ℕ) (c : Control) (g : Gathered) (compare : writes_mask ins ≡ true) where
  is_one : is_compare ins.work ≡ true
  is_one = is-compare ins compare

  abbrev pub out : ℕ → Out
  out i = compared_at ins.work (ins.vc.0 % 8) ins.scalar ins x l i

  abbrev replace : ℕ → Mask → Mask
  replace i m = masked (with_bit m.vmr i ((out i).value % 2)) (bit_or m.types (notes 0 (out i).types))

  -- the run, where the steps have come to m
  abbrev reached : Mask → Run
  reached m = run l (with_vmr c m.vmr) (joined g (added m.types ins.vc.0 0))

  module _ (i : ℕ) (m : Mask) where
    abbrev given : Work → Bool → Out
    given n t =
        result_of n ins.exc (field_by (row_of n).holds ins) (pick (not (row_of n).obeys_moe) t false)
        (pick ins.scalar x (pick (reads (row_of n).va ins.scalar) (at l ins.va.0 i) 0))
        (pick (reads (row_of n).vb ins.scalar) (at l ins.vb.0 i) 0)
        0

    form : (t : Bool) (y : ℕ) → pick t x (pick (not t) y 0) ≡ pick t x y
    form true y = refl
    form false y = refl

    of_work : (n : Work) → is_compare n ≡ true → (t : Bool) → given n t ≡ compared_at n (ins.vc.0 % 8) ins.scalar ins x l i
    unfolding result_of row_of
    of_work n e t =
        of-compares (λ (k : Work). given k t ≡ compared_at k (ins.vc.0 % 8) ins.scalar ins x l i) n e
        (ap (λ (y : ℕ). result_of CompareLongword false (ins.vc.0 % 8) false y (at l ins.vb.0 i) 0) (form ins.scalar (at l ins.va.0 i)))
        (ap (λ (y : ℕ). result_of CompareF false (ins.vc.0 % 8) false y (at l ins.vb.0 i) 0) (form ins.scalar (at l ins.va.0 i)))

    receives : received ins x i (reached m) ≡ out i
    unfolding received
    receives =
        ap (λ (t : Bool). of (pick t 0 (at l ins.vc.0 i))) compare
        ∙ of_work ins.work is_one (matches m.vmr ins.mtf i)
      where
        of : ℕ → Out
        of c = result_of ins.work ins.exc (field_of ins) (chooses ins m.vmr i) (first ins x l i) (second ins l i) c

    writes : (v : ℕ) → written ins i v (reached m) ≡ run l (with_vmr c (with_bit m.vmr i (v % 2))) (reached m).gathered
    unfolding written
    writes v = pick_true (writes_mask ins) _ _ compare

    one : reached (replace i m) ≡ worked ins x i (reached m)
    unfolding worked
    one =
        sym
        (ap (λ (o : Out). adding (added (notes (register_bit (writes_mask ins) ins.vc.0) o.types) ins.vc.0 (wrote_at ins i))
        (written ins i o.value (reached m))) receives
        ∙ ap (λ (t : Bool). adding (added (notes (register_bit t ins.vc.0) (out i).types) ins.vc.0 (pick t 0 (one_element i)))
        (written ins i (out i).value (reached m))) compare
        ∙ ap (adding (added (notes 0 (out i).types) ins.vc.0 0)) (writes (out i).value)
        ∙ ap (run l (with_vmr c (with_bit m.vmr i ((out i).value % 2))))
        (joined-twice g m.types (notes 0 (out i).types) ins.vc.0 0 0))

  starts : reached (masked c.vmr 0) ≡ run l c g
  starts = ap (run l c) (joined-nothing g ins.vc.0)

  -- what a compare leaves, where the steps have come to m
  as-effect : (e : Effect) (m : Mask) → e.vmr ≡ m.vmr → e.vcr ≡ c.vcr → e.notes ≡ m.types → e.wrote ≡ 0 → effected l ins e c g ≡ reached m
  as-effect e m v k n none =
      ap₂ (λ (a b : ℕ). run l (with_vcr (with_vmr c a) e.vcr) (joined g (added b ins.vc.0 e.wrote))) v n
      ∙ ap₂ (λ (a b : ℕ). run l (with_vcr (with_vmr c m.vmr) a) (joined g (added m.types ins.vc.0 b))) k none

  -- of one element
  plain : (t : ℕ) → bit_or 0 (notes 0 t) ≡ t
  unfolding notes
  plain t = or_zero_l (pick (eqb t 0) 0 (bit_or t 0)) ∙ at (eqb t 0) refl
    where
      at : (b : Bool) → eqb t 0 ≡ b → pick b 0 (bit_or t 0) ≡ t
      at true e = sym (eqb-true t 0 e)
      at false e = or_zero_r t

  pub compared-one : (e : Effect) (i : ℕ) → e.vmr ≡ with_bit c.vmr i ((out i).value % 2) → e.vcr ≡ c.vcr → e.notes ≡ (out i).types → e.wrote ≡ 0
      → effected l ins e c g ≡ worked ins x i (run l c g)
  compared-one e i v k n none =
      let m = replace i (masked c.vmr 0) in
      as-effect e m v k (n ∙ sym (plain (out i).types)) none
      ∙ one i (masked c.vmr 0)
      ∙ ap (worked ins x i) starts

  abbrev after : ℕ → Mask
  after n = rising (of_ones replace which) n (masked c.vmr 0)

  all : reached (after 64) ≡ rising (of_ones (worked ins x) which) 64 (run l c g)
  all =
      ones-carry reached replace (worked ins x) which 64 (masked c.vmr 0) (λ i m _. one i m)
      ∙ ap (rising (of_ones (worked ins x) which) 64) starts

  -- bit k of the mask
  bits : (n k : ℕ) → bit (after n).vmr k ≡ pick (ltb k n && bit which k) (eqb ((out k).value % 2) 1) (bit c.vmr k)
  unfolding rising of_ones
  bits zero k = sym (pick-false (ltb k 0 && bit which k) _ _ (ap (λ (t : Bool). t && bit which k) (le-ltb k 0 (omega arith))))
  bits (suc n) k = at (bit which n) refl (dec_eq k n) (bits n k)
    where
      Has : ℕ → Mask → Type 0
      Has j m = bit m.vmr k ≡ pick (ltb k j && bit which k) (eqb ((out k).value % 2) 1) (bit c.vmr k)

      older : (k ≡ n → ⊥) → ltb k (suc n) ≡ ltb k n
      older q = go (below_or_not k n)
        where
          go : (k < n) ⊎ (n ≤ k) → ltb k (suc n) ≡ ltb k n
          go (inl h) = lt-ltb k (suc n) (omega arith) ∙ sym (lt-ltb k n h)
          go (inr h) = le-ltb k (suc n) (omega arith) ∙ sym (le-ltb k n h)

      kept : Has n (after n) → (k ≡ n → ⊥) → Has (suc n) (after n)
      kept b q = b ∙ ap (λ (t : Bool). pick (t && bit which k) (eqb ((out k).value % 2) 1) (bit c.vmr k)) (sym (older q))

      at : (t : Bool) → bit which n ≡ t → Dec (k ≡ n) → Has n (after n) → Has (suc n) (pick t (replace n (after n)) (after n))
      at true e (yes q) b =
          ap (bit (with_bit (after n).vmr n ((out n).value % 2))) q
          ∙ bit-replaced (after n).vmr n ((out n).value % 2) (mod-lt (out n).value (omega arith))
          ∙ ap (λ (j : ℕ). eqb ((out j).value % 2) 1) (sym q)
          ∙ sym (pick_true (ltb k (suc n) && bit which k) _ _ (ap₂ (λ (s u : Bool). s && u) (lt-ltb k (suc n) (omega arith)) (ap (bit which) q ∙ e)))
      at true e (no q) b = bit_kept (after n).vmr n ((out n).value % 2) (mod-lt (out n).value (omega arith)) k q ∙ kept b q
      at false e (yes q) b =
          b
          ∙ pick-false (ltb k n && bit which k) _ _ (ap (λ (t : Bool). t && bit which k) (le-ltb k n (omega arith)))
          ∙ sym (pick-false (ltb k (suc n) && bit which k) _ _ (ap₂ (λ (s u : Bool). s && u) (lt-ltb k (suc n) (omega arith)) (ap (bit which) q ∙ e)))
      at false e (no q) b = kept b q

  -- none of the elements of the set below n was refused
  abbrev refuses : ℕ → Bool
  refuses k = eqb ((out k).types / 4 % 2) 1

  none : ℕ → Bool
  none zero = true
  none (suc n) = none n && not (bit which n && refuses n)

  types : (n : ℕ) → (after n).types ≡ pick (none n) 0 4
  unfolding rising of_ones notes none
  types zero = refl
  types (suc n) = at (bit which n) (types n)
    where
      joins : (s : Bool) (t : ℕ) → (t ≡ 0) ⊎ (t ≡ 4) → bit_or (pick s 0 4) (pick (eqb t 0) 0 (bit_or t 0)) ≡ pick (s && not (eqb (t / 4 % 2) 1)) 0 4
      joins true t (inl e) = rw e refl
      joins true t (inr e) = rw e refl
      joins false t (inl e) = rw e refl
      joins false t (inr e) = rw e refl

      stays : (s : Bool) → ◌≡◌ {A = ℕ} (pick s 0 4) (pick (s && true) 0 4)
      stays true = refl
      stays false = refl

      at : (t : Bool) → (after n).types ≡ pick (none n) 0 4 → (pick t (replace n (after n)) (after n)).types ≡ pick (none n && not (t && refuses n)) 0 4
      at true b = ap (λ (y : ℕ). bit_or y (notes 0 (out n).types)) b ∙ joins (none n) (out n).types (compare-types ins.work is_one _ _ _)
      at false b = b ∙ stays (none n)

  module _ (r : ℕ) (is : (k : ℕ) → bit r k ≡ (bit which k && refuses k)) (short : (k : ℕ) → bit which k ≡ true → k < 64) where
    empty : (n : ℕ) → r ≡ 0 → none n ≡ true
    unfolding none
    empty zero e = refl
    empty (suc n) e = ap₂ (λ (s t : Bool). s && not t) (empty n e) (sym (is n) ∙ ap (λ (y : ℕ). bit y n) e ∙ bit-none n)

    not-true : (t : Bool) → not t ≡ true → t ≡ false
    not-true true e = sym e
    not-true false e = refl

    all-false : (n : ℕ) → none n ≡ true → (k : ℕ) → k < n → bit r k ≡ false
    unfolding none
    all-false zero e k h = absurd (omega arith)
    all-false (suc n) e k h = go (all-false n (and_left (none n) (not (bit which n && refuses n)) e) k) (dec_eq k n)
      where
        go : (k < n → bit r k ≡ false) → Dec (k ≡ n) → bit r k ≡ false
        go b (yes q) = ap (bit r) q ∙ is n ∙ not-true (bit which n && refuses n) (and_right (none n) (not (bit which n && refuses n)) e)
        go b (no q) = b (omega arith)

    past : (k : ℕ) → 64 ≤ k → bit r k ≡ false
    past k h = is k ∙ go (bit which k) refl
      where
        go : (t : Bool) → bit which k ≡ t → (t && refuses k) ≡ false
        go true e = absurd (let g = short k e in omega arith)
        go false e = refl

    none_is : none 64 ≡ eqb r 0
    none_is = go (none 64) refl (dec_eq r 0)
      where
        go : (t : Bool) → none 64 ≡ t → Dec (r ≡ 0) → t ≡ eqb r 0
        go t e (yes q) = sym e ∙ empty 64 q ∙ sym (eq-eqb r 0 q)
        go true e (no q) = absurd (q (same_bits r 0 (λ k. at k (below_or_not k 64) ∙ sym (bit-none k))))
          where
            at : (k : ℕ) → (k < 64) ⊎ (64 ≤ k) → bit r k ≡ false
            at k (inl h) = all-false 64 e k h
            at k (inr h) = past k h
        go false e (no q) = sym (ne_eqb r 0 q)

  -- what the loop found and refused below n
  module _ (n found refused : ℕ) (e : Effect) (short : n ≤ 64)
      (inside : (i : ℕ) → bit which i ≡ true → i < n)
      (is_found : OddBelow (λ i. (out i).value) n found)
      (is-refused : OddBelow (λ i. (out i).types / 4) n refused)
      (is-vmr : (k : ℕ) → bit e.vmr k ≡ pick (bit which k) (bit found k) (bit c.vmr k))
      (is-vcr : e.vcr ≡ c.vcr)
      (is-notes : e.notes ≡ pick (eqb (bit_and refused which) 0) 0 4)
      (is_none : e.wrote ≡ 0)
    where
      same-mask : e.vmr ≡ (after 64).vmr
      same-mask = same_bits e.vmr (after 64).vmr (λ k. is-vmr k ∙ at k (bit which k) refl ∙ sym (bits 64 k))
        where
          at : (k : ℕ) (t : Bool) → bit which k ≡ t
              → pick t (bit found k) (bit c.vmr k) ≡ pick (ltb k 64 && bit which k) (eqb ((out k).value % 2) 1) (bit c.vmr k)
          at k true g =
              is_found k (inside k g)
              ∙ sym (pick_true (ltb k 64 && bit which k) _ _ (ap₂ (λ (s u : Bool). s && u) (lt-ltb k 64 (let h = inside k g in omega arith)) g))
          at k false g = sym (pick-false (ltb k 64 && bit which k) _ _ (ap (λ (u : Bool). ltb k 64 && u) g ∙ none_of (ltb k 64)))

      same-types : e.notes ≡ (after 64).types
      same-types =
          is-notes
          ∙ ap (λ (t : Bool). pick t 0 4) (sym (none_is (bit_and refused which) is (λ k g. let h = inside k g in omega arith)))
          ∙ sym (types 64)
        where
          is : (k : ℕ) → bit (bit_and refused which) k ≡ (bit which k && refuses k)
          is k = bit-and refused which k ∙ at (bit which k) refl
            where
              whole_of : (s : Bool) → (s && true) ≡ s
              whole_of true = refl
              whole_of false = refl

              at : (t : Bool) → bit which k ≡ t → (bit refused k && t) ≡ (t && refuses k)
              at true g = whole_of (bit refused k) ∙ is-refused k (inside k g)
              at false g = none_of (bit refused k)

      pub compared : effected l ins e c g ≡ done_for which ins x (run l c g)
      unfolding done_for
      compared =
          as-effect e (after 64) same-mask is-vcr same-types is_none
          ∙ all
          ∙ sym (pick-false (in_one_step ins) (iota_step ins x (run l c g)) _ (no-iota (row_of ins.work).writes compare))
