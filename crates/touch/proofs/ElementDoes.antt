-- The step of one element does what it is said to do: it changes the place that it writes alone, and makes it of what it reads and of what stood there.
-- Assumes nothing.
use mathlib.Core.Path.{◌≡◌, refl, sym, ap, ap₂, ◌∙◌, subst}
use mathlib.Core.Logic.{◌⊎◌, inl, inr}
use mathlib.Core.Bool.{Bool, true, false, not, ◌&&◌, ◌||◌, beq, or-true}
use mathlib.Core.List.{List, [], ◌∷◌, ◌++◌}
use Prim.Native.Nat.{ℕ, ◌%◌, ◌<◌, ◌≤◌}
use native.Mathlib.Nat.{mod-lt}
use native.Mathlib.Omega.{arith}
use lib.Dec.{T, ltb, eqb}
use lib.ListN.{length}
use Rattle.numbers.specs.Choice.{pick}
use Rattle.state.specs.Elements.{at, matches}
use Rattle.state.specs.State.{place_of}
use Rattle.opcodes.specs.declared.Instruction.{Instruction}
use Rattle.opcodes.specs.Opcodes.{writes_mask, ignores_moe, reads_va, reads_vb, reads_mask}
use Rattle.opcodes.specs.ControlWord.{field_of}
use Rattle.opcodes.specs.Working.{Below}
use Rattle.element.specs.declared.Out.{Out}
use Rattle.element.specs.Receives.{result_of}
use Rattle.machine.specs.Run.{Gathered, Added, Run, added, joined}
use Rattle.machine.specs.Step.{received, register_bit, notes, written, wrote_at, worked, element_step}
use Rattle.opcodes.specs.Masking.{operated}
use Rattle.machine.proofs.Gather.{joined-nothing}
use Rattle.order.specs.Order.{Mem}
use Rattle.touch.specs.Touch.{element_place, mask_place, count_place, place_if, element_reads, written_place}
use Rattle.touch.proofs.Places.{mem-append-l, mem-append-r}
use Rattle.touch.proofs.Contents.{get, get-element, get-mask, masked, stored, masked-here, masked-keeps, masked-still, stored_same, stored-keeps}
use Rattle.touch.proofs.Contents.{stored-still, adding-keeps, adding-still, Still}
use Rattle.touch.proofs.Commute.{HasVlr, Agree, Does}

mem-place-if : (t : Bool) (p : ℕ) → t ≡ true → Mem p (place_if t p)
mem-place-if true p e = inl refl
mem-place-if false p e = absurd (subst T (sym e) tt)

-- a choice goes by what it may take
picked : {A : Type 0} (t : Bool) (x y z : A) → (t ≡ true → x ≡ y) → pick t x z ≡ pick t y z
picked true x y z f = f refl
picked false x y z f = refl

unpicked : {A : Type 0} (t : Bool) (x y z : A) → (t ≡ false → x ≡ y) → pick t z x ≡ pick t z y
unpicked true x y z f = refl
unpicked false x y z f = f refl

handed : (f : Bool → ℕ → ℕ → ℕ → Out) {m m' : Bool} {a a' b b' c c' : ℕ} → m ≡ m' → a ≡ a' → b ≡ b' → c ≡ c' → f m a b c ≡ f m' a' b' c'
handed f d e g h = cc

module _ (ins : Instruction) (i : ℕ) where
  abbrev vb : List ℕ
  vb = place_if (reads_vb ins) (element_place ins.vb.0 i)

  abbrev va : List ℕ
  va = place_if (reads_va ins) (element_place ins.va.0 i)

  abbrev bits : List ℕ
  bits = place_if (reads_mask ins) (mask_place i)

  reads-vb : reads_vb ins ≡ true → Mem (element_place ins.vb.0 i) (element_reads ins i)
  reads-vb e = let p = element_place ins.vb.0 i in mem-append-l p (vb ++ va) bits (mem-append-l p vb va (mem-place-if (reads_vb ins) p e))

  reads-va : reads_va ins ≡ true → Mem (element_place ins.va.0 i) (element_reads ins i)
  reads-va e = let p = element_place ins.va.0 i in mem-append-l p (vb ++ va) bits (mem-append-r p vb va (mem-place-if (reads_va ins) p e))

  reads-bit : reads_mask ins ≡ true → Mem (mask_place i) (element_reads ins i)
  reads-bit e = mem-append-r (mask_place i) (vb ++ va) bits (mem-place-if (reads_mask ins) (mask_place i) e)

module _ (n : ℕ) (ins : Instruction) (scalar i : ℕ) (regs : Below ins) (small : i < 64) where
  -- ---- what it makes of what it reads
  module _ (r r' : Run) (h : HasVlr n r) (h' : HasVlr n r') (agree : Agree (element_reads ins i) (written_place ins i ∷ []) r r') where
    same-element : (x : ℕ) → x < 16 → Mem (element_place x i) (element_reads ins i) ⊎ Mem (element_place x i) (written_place ins i ∷ [])
        → at r.elements x i ≡ at r'.elements x i
    same-element x hx m =
        let k : element_place x i < 1024 = omega arith in
        sym (get-element (element_place x i) r k) ∙ agree (element_place x i) (omega arith) m ∙ get-element (element_place x i) r' k

    same-matches : reads_mask ins ≡ true → matches r.control.vmr ins.mtf i ≡ matches r'.control.vmr ins.mtf i
    same-matches e =
        ap (λ (d : ℕ). beq (eqb d 1) ins.mtf)
        (sym (get-mask i r small) ∙ agree (mask_place i) (omega arith) (inl (reads-bit ins i e)) ∙ get-mask i r' small)

    same-operated : operated ins r.control i ≡ operated ins r'.control i
    unfolding operated
    same-operated = ap₂ (λ (v : ℕ) (t : Bool). ltb i v && t) (h ∙ sym h') (go ins.moe (ignores_moe ins) same-matches)
      where
        go : (x y : Bool) → ((x || y) ≡ true → matches r.control.vmr ins.mtf i ≡ matches r'.control.vmr ins.mtf i)
            → (not x || y || matches r.control.vmr ins.mtf i) ≡ (not x || y || matches r'.control.vmr ins.mtf i)
        go true true s = refl
        go true false s = s refl
        go false y s = refl

    same_received : received ins scalar i r ≡ received ins scalar i r'
    unfolding received
    same_received =
        handed (result_of ins.work ins.exc (field_of ins))
        (picked (ignores_moe ins) _ _ false (λ e. same-matches (ap (λ (t : Bool). ins.moe || t) e ∙ or-true ins.moe)))
        (ap (pick ins.scalar scalar) (picked (reads_va ins) _ _ 0 (λ e. same-element ins.va.0 regs.va (inl (reads-va ins i e)))))
        (picked (reads_vb ins) _ _ 0 (λ e. same-element ins.vb.0 regs.vb (inl (reads-vb ins i e))))
        (unpicked (writes_mask ins) _ _ 0
        (λ e.
        same-element ins.vc.0 regs.vc (inr (inl (sym (ap (λ (t : Bool). pick t (mask_place i) (element_place ins.vc.0 i)) e))))))

  -- ---- what it changes
  -- what it adds to what the run gathers
  abbrev noting : Out → Added
  noting o = added (notes (register_bit (writes_mask ins) ins.vc.0) o.types) ins.vc.0 (wrote_at ins i)

  abbrev nothing : Added
  nothing = added 0 ins.vc.0 0

  adds : Run → Added
  adds r = pick (operated ins r.control i) (noting (received ins scalar i r)) nothing

  -- where its element stands
  place-small : element_place ins.vc.0 i < 1024
  place-small = let k = regs.vc in omega arith

  written_keeps : (value : ℕ) (r : Run) (p : ℕ) → p ≤ count_place → (Mem p (written_place ins i ∷ []) → ⊥) → get p (written ins i value r) ≡ get p r
  unfolding written
  written_keeps value r p k out = go (writes_mask ins) (λ e. out (inl e))
    where
      go : (t : Bool) → (p ≡ pick t (mask_place i) (element_place ins.vc.0 i) → ⊥)
          → get p (pick t (masked i (value % 2) r) (stored (place_of ins.vc.0 i) value r)) ≡ get p r
      go true f = masked-keeps i (value % 2) r small (mod-lt value (omega arith)) p k f
      go false f = stored-keeps (place_of ins.vc.0 i) value r place-small p k f

  written-still : (value : ℕ) (r : Run) → Still r (written ins i value r)
  unfolding written
  written-still value r = go (writes_mask ins)
    where
      go : (t : Bool) → Still r (pick t (masked i (value % 2) r) (stored (place_of ins.vc.0 i) value r))
      go true = masked-still i (value % 2) r small (mod-lt value (omega arith))
      go false = stored-still (place_of ins.vc.0 i) value r place-small

  -- what stands there afterwards goes by the value alone
  written-here : (value : ℕ) (r r' : Run) → length r.elements ≡ length r'.elements → get (written_place ins i) (written ins i value r) ≡ get
      (written_place ins i) (written ins i value r')
  unfolding written
  written-here value r r' long = go (writes_mask ins)
    where
      go : (t : Bool)
          → get (pick t (mask_place i) (element_place ins.vc.0 i)) (pick t (masked i (value % 2) r) (stored (place_of ins.vc.0 i) value r))
          ≡ get (pick t (mask_place i) (element_place ins.vc.0 i)) (pick t (masked i (value % 2) r') (stored (place_of ins.vc.0 i) value r'))
      go true = masked-here i (value % 2) r small (mod-lt value (omega arith)) ∙ sym (masked-here i (value % 2) r' small (mod-lt value (omega arith)))
      go false = stored_same (place_of ins.vc.0 i) value r r' place-small long

  step_keeps : (r : Run) → HasVlr n r → (p : ℕ) → p ≤ count_place → (Mem p (written_place ins i ∷ []) → ⊥) → get p (element_step ins scalar i r) ≡ get p r
  unfolding element_step worked
  step_keeps r h p k out = go (operated ins r.control i)
    where
      go : (t : Bool) → get p (pick t (worked ins scalar i r) r) ≡ get p r
      go true = adding-keeps _ p (written ins i (received ins scalar i r).value r) ∙ written_keeps (received ins scalar i r).value r p k out
      go false = refl

  step-still : (r : Run) → HasVlr n r → Still r (element_step ins scalar i r)
  unfolding element_step worked
  step-still r h = go (operated ins r.control i)
    where
      go : (t : Bool) → Still r (pick t (worked ins scalar i r) r)
      go true = adding-still _ r (written ins i (received ins scalar i r).value r) (written-still (received ins scalar i r).value r)
      go false = record { long = refl; past = λ k z. refl; vlr = refl; vaer = refl; vpsr = refl; high = λ k z. refl }

  step-leaves : (r r' : Run) → HasVlr n r → HasVlr n r' → length r.elements ≡ length r'.elements
      → Agree (element_reads ins i) (written_place ins i ∷ []) r r'
      → (p : ℕ) → p ≤ count_place → Mem p (written_place ins i ∷ []) → get p (element_step ins scalar i r) ≡ get p (element_step ins scalar i r')
  unfolding element_step worked
  step-leaves r r' h h' long agree p k (inl e) =
      ap (λ (t : Bool). get p (pick t (worked ins scalar i r) r)) (same-operated r r' h h' agree)
      ∙ subst (λ (x : ℕ). get x (pick (operated ins r'.control i) (worked ins scalar i r) r) ≡ get x
      (pick (operated ins r'.control i) (worked ins scalar i r') r')) (sym e)
      (go (operated ins r'.control i))
    where
      go : (t : Bool) → get (written_place ins i) (pick t (worked ins scalar i r) r) ≡ get (written_place ins i) (pick t (worked ins scalar i r') r')
      go true =
          adding-keeps _ (written_place ins i) (written ins i (received ins scalar i r).value r)
          ∙ ap (λ (o : Out). get (written_place ins i) (written ins i o.value r)) (same_received r r' h h' agree)
          ∙ written-here (received ins scalar i r').value r r' long
          ∙ sym (adding-keeps _ (written_place ins i) (written ins i (received ins scalar i r').value r'))
      go false = agree (written_place ins i) (subst (λ (x : ℕ). x ≤ count_place) e k) (inr (inl refl))
  step-leaves r r' h h' long agree p k (inr e) = absurd e

  same-adds : (r r' : Run) → HasVlr n r → HasVlr n r' → Agree (element_reads ins i) (written_place ins i ∷ []) r r' → adds r ≡ adds r'
  unfolding adds
  same-adds r r' h h' agree = ap₂ (λ (t : Bool) (o : Out). pick t (noting o) nothing) (same-operated r r' h h' agree) (same_received r r' h h' agree)

  written-gathers : (value : ℕ) (r : Run) → (written ins i value r).gathered ≡ r.gathered
  unfolding written
  written-gathers value r = go (writes_mask ins)
    where
      go : (t : Bool) → (pick t (masked i (value % 2) r) (stored (place_of ins.vc.0 i) value r)).gathered ≡ r.gathered
      go true = refl
      go false = refl

  step-gathers : (r : Run) → (element_step ins scalar i r).gathered ≡ joined r.gathered (adds r)
  unfolding element_step worked adds
  step-gathers r = go (operated ins r.control i)
    where
      go : (t : Bool) → (pick t (worked ins scalar i r) r).gathered
          ≡ joined r.gathered (pick t (noting (received ins scalar i r)) nothing)
      go true = ap (λ (g : Gathered). joined g (noting (received ins scalar i r))) (written-gathers (received ins scalar i r).value r)
      go false = sym (joined-nothing r.gathered ins.vc.0)

  pub element-does : Does n (element_step ins scalar i) (element_reads ins i) (written_place ins i ∷ [])
  element-does = record {
    adds = adds;
    still = step-still;
    keeps = step_keeps;
    leaves = step-leaves;
    same-adds = same-adds;
    gathers = step-gathers;
  }
