-- The places that two steps touch conflict exactly where their instructions bind, and, but for a work of one step, their elements are the same.
-- Assumes nothing.
use mathlib.Core.Path.{◌≡◌, refl, sym, ap, ap₂, ◌∙◌, subst}
use mathlib.Core.Logic.{inl}
use mathlib.Core.Bool.{Bool, true, false, not, ◌&&◌, ◌||◌, and_comm, or_comm, or-true, or-false, and-false}
use mathlib.Core.List.{List, [], ◌∷◌, ◌++◌}
use Prim.Native.Nat.{ℕ, ◌<◌, ◌≤◌}
use native.Mathlib.Omega.{arith}
use native.Mathlib.Decide.{ℕ_discrete}
use lib.Dec.{T, eqb}
use borrow.Author.Tests.{eq-eqb, ne_eqb}
use Rattle.numbers.specs.Choice.{pick}
use Rattle.opcodes.specs.declared.Instruction.{Instruction}
use Rattle.opcodes.specs.declared.works.Work.{Work}
use Rattle.opcodes.specs.declared.works.Work.TheVariants.{NoWork, AddLongword, SubtractLongword, MultiplyLongword, CompareLongword, BitSet, ExclusiveOr}
use Rattle.opcodes.specs.declared.works.Work.TheVariants.{BitClear, ShiftRight, ShiftLeft, AddF, SubtractF, MultiplyF, CompareF, Convert, Iota, Merge}
use Rattle.opcodes.specs.declared.works.Work.TheVariants.{LoadLongword, LoadQuadword, StoreLongword, StoreQuadword, DivideF}
use Rattle.opcodes.specs.Works.{When, never, in_vector_form, in_scalar_form, always, Writes, element, mask_bit, counted_elements, bytes}
use Rattle.opcodes.specs.Works.{Row, row_of, is_mask_bit, is_counted}
use Rattle.opcodes.specs.Works as works
use Rattle.opcodes.specs.Opcodes.{writes_mask, in_one_step, ignores_moe, reads_va, reads_vb, reads_mask}
use Rattle.opcodes.specs.Working.{Below}
use Rattle.machine.specs.Instruction.{step_count}
use Rattle.order.specs.Order.{has}
use Rattle.touch.specs.Touch.{element_place, mask_place, count_place, below, element_reads, written_place, iota_reads, iota_writes, reads, writes}
use Rattle.touch.specs.Touch.{meet, conflict}
use Rattle.touch.specs.BindsWorking.{target, reads_place, binds, steps_bind}
use Rattle.order.proofs.Tests.{and_l, and_r, true-T}
use Rattle.touch.proofs.Places.{mem-append-r, elements_same, has-append, has_one, has-place-if, has-below, has-not-below}
use Rattle.touch.proofs.Places.{meets, meet_comm, meet_one, meet-append, meet-place-if, conflict-comm}

-- ---- a work of one step reads mask bits and no register, and writes no mask bit: by its row

abbrev unread : When → Bool
unread never = true
unread in_vector_form = false
unread in_scalar_form = false
unread always = false

unread-is : (w : When) (scalar : Bool) → T (unread w) → works.reads w scalar ≡ false
unread-is never s t = refl
unread-is in_vector_form s t = absurd t
unread-is in_scalar_form s t = absurd t
unread-is always s t = absurd t

abbrev by_mask_alone : Row → Bool
by_mask_alone r = unread r.va && (unread r.vb && not r.obeys_moe)

of-one-step : (w : Work) → T (not (is_counted (row_of w).writes) || by_mask_alone (row_of w))
unfolding row_of
of-one-step NoWork = tt
of-one-step AddLongword = tt
of-one-step SubtractLongword = tt
of-one-step MultiplyLongword = tt
of-one-step CompareLongword = tt
of-one-step BitSet = tt
of-one-step ExclusiveOr = tt
of-one-step BitClear = tt
of-one-step ShiftRight = tt
of-one-step ShiftLeft = tt
of-one-step AddF = tt
of-one-step SubtractF = tt
of-one-step MultiplyF = tt
of-one-step CompareF = tt
of-one-step Convert = tt
of-one-step Iota = tt
of-one-step Merge = tt
of-one-step LoadLongword = tt
of-one-step LoadQuadword = tt
of-one-step StoreLongword = tt
of-one-step StoreQuadword = tt
of-one-step DivideF = tt

counts-no-bit : (w : Writes) → is_counted w ≡ true → is_mask_bit w ≡ false
counts-no-bit element e = refl
counts-no-bit mask_bit e = sym e
counts-no-bit counted_elements e = refl
counts-no-bit bytes e = refl

module _ (a : Instruction) (e : in_one_step a ≡ true) where
  alone : T (by_mask_alone (row_of a.work))
  alone = subst (λ (t : Bool). T (not t || by_mask_alone (row_of a.work))) e (of-one-step a.work)

  one-target : a.vc.0 ≡ target a
  one-target = sym (ap (λ (t : Bool). pick t 16 a.vc.0) (counts-no-bit (row_of a.work).writes e))

  one-reads : (s : ℕ) → reads_place a s ≡ eqb s 16
  one-reads s =
      let row = row_of a.work in
      let rest = and_r (unread row.va) _ alone in
      ap₂ (λ (x y : Bool). x && eqb s a.vb.0 || y && eqb s a.va.0 || reads_mask a && eqb s 16)
      (unread-is row.vb a.scalar (and_l (unread row.vb) _ rest)) (unread-is row.va a.scalar (and_l (unread row.va) _ alone))
      ∙ ap (λ (x : Bool). (a.moe || x) && eqb s 16) (true-T (ignores_moe a) (and_r (unread row.vb) _ rest))
      ∙ ap (λ (x : Bool). x && eqb s 16) (or-true a.moe)

-- ---- what an instruction touches

module _ (ins : Instruction) (vlr i : ℕ) where
  reads_plain : in_one_step ins ≡ false → reads ins vlr i ≡ element_reads ins i
  unfolding reads
  reads_plain e = ap (λ (t : Bool). pick t (iota_reads vlr) (element_reads ins i)) e

  reads-one : in_one_step ins ≡ true → reads ins vlr i ≡ iota_reads vlr
  unfolding reads
  reads-one e = ap (λ (t : Bool). pick t (iota_reads vlr) (element_reads ins i)) e

  writes-plain : in_one_step ins ≡ false → writes ins vlr i ≡ written_place ins i ∷ []
  unfolding writes
  writes-plain e = ap (λ (t : Bool). pick t (iota_writes ins vlr) (written_place ins i ∷ [])) e

  writes_one : in_one_step ins ≡ true → writes ins vlr i ≡ iota_writes ins vlr
  unfolding writes
  writes_one e = ap (λ (t : Bool). pick t (iota_writes ins vlr) (written_place ins i ∷ [])) e

pub target-le : (ins : Instruction) → Below ins → target ins < 17
target-le ins s = go (writes_mask ins)
  where
    go : (c : Bool) → pick c 16 ins.vc.0 < 17
    go true = omega arith
    go false = let h = s.vc in omega arith

-- mask bits are numbered as the elements of a register 16 would be
written_at : (ins : Instruction) (i : ℕ) → written_place ins i ≡ element_place (target ins) i
written_at ins i = go (writes_mask ins)
  where
    go : (t : Bool) → pick t (mask_place i) (element_place ins.vc.0 i) ≡ element_place (pick t 16 ins.vc.0) i
    go true = refl
    go false = refl

-- what holds of a place that it reads
abbrev some_read : Instruction → (ℕ → Bool) → Bool
some_read b f = reads_vb b && f b.vb.0 || reads_va b && f b.va.0 || reads_mask b && f 16

has-read : (p : ℕ) (b : Instruction) (j : ℕ) → has p (element_reads b j) ≡ some_read b (λ (r : ℕ). eqb p (element_place r j))
has-read p b j = simp (has-append, has-place-if)

meet-read : (b : Instruction) (j : ℕ) (zs : List ℕ) → meet (element_reads b j) zs ≡ some_read b (λ (r : ℕ). has (element_place r j) zs)
meet-read b j zs = simp (meet-append, meet-place-if)

same_read : (b : Instruction) → Below b → (f g : ℕ → Bool) → ((r : ℕ) → r < 17 → f r ≡ g r) → some_read b f ≡ some_read b g
same_read b small f g same =
    let va = small.va in let vb = small.vb in
    let x = same b.vb.0 (omega arith) in let y = same b.va.0 (omega arith) in let z = same 16 (omega arith) in
    ap₂ (λ (s t : Bool). reads_vb b && s || reads_va b && t || reads_mask b && f 16) x y
    ∙ ap (λ (t : Bool). reads_vb b && g b.vb.0 || reads_va b && g b.va.0 || reads_mask b && t) z

-- ---- neither is one step

module _ (a b : Instruction) (i j : ℕ) (rb : Below b) (hi : i < 64) (hj : j < 64) where
  plain-feeds : has (written_place a i) (element_reads b j) ≡ (eqb i j && reads_place b (target a))
  plain-feeds =
      ap (λ (p : ℕ). has p (element_reads b j)) (written_at a i)
      ∙ has-read (element_place (target a) i) b j
      ∙ same_read b rb _ (λ (r : ℕ). eqb i j && eqb (target a) r) (λ r h. elements_same (target a) r i j hi hj)
      ∙ out (eqb i j) (reads_vb b) (reads_va b) (reads_mask b) _ _ _
    where
      out : (e x y z u v w : Bool) → (x && (e && u) || y && (e && v) || z && (e && w)) ≡ (e && (x && u || y && v || z && w))
      out true x y z u v w = refl
      out false x y z u v w = rw (and-false x, and-false y, and-false z)

  plain-targets : eqb (written_place a i) (written_place b j) ≡ (eqb i j && eqb (target a) (target b))
  plain-targets = ap₂ eqb (written_at a i) (written_at b j) ∙ elements_same (target a) (target b) i j hi hj

pub eqb_comm : (i j : ℕ) → eqb i j ≡ eqb j i
eqb_comm i j = go (ℕ_discrete i j)
  where
    go : Dec (i ≡ j) → eqb i j ≡ eqb j i
    go (yes e) = eq-eqb i j e ∙ sym (eq-eqb j i (sym e))
    go (no e) = ne_eqb i j e ∙ sym (ne_eqb j i (λ z. e (sym z)))

all_three : {x y z x' y' z' : Bool} → x ≡ x' → y ≡ y' → z ≡ z' → (x || y || z) ≡ (x' || y' || z')
all_three e f g = cc

-- not both are one step
not-both : (x w : Bool) → w ≡ false → x ≡ (x || w)
not-both x w e = sym (ap (λ (t : Bool). x || t) e ∙ or-false x)

plain-conflict : (a b : Instruction) (i j : ℕ) → Below a → Below b → i < 64 → j < 64 → in_one_step a ≡ false
    → conflict (element_reads a i) (written_place a i ∷ []) (element_reads b j) (written_place b j ∷ []) ≡ (eqb i j && binds a b)
unfolding conflict binds
plain-conflict a b i j ra rb hi hj e =
    all_three
    (meet_one (written_place a i) (written_place b j ∷ []) ∙ has_one (written_place a i) (written_place b j) ∙ plain-targets a b i j rb hi hj)
    (meet_one (written_place a i) (element_reads b j) ∙ plain-feeds a b i j rb hi hj)
    (meet_comm (element_reads a i) (written_place b j ∷ []) ∙ meet_one (written_place b j) (element_reads a i) ∙ plain-feeds b a j i ra hj hi
    ∙ ap (λ (t : Bool). t && reads_place a (target b)) (eqb_comm j i))
    ∙ out (eqb i j) (eqb (target a) (target b)) (reads_place b (target a)) (reads_place a (target b))
    ∙ ap (λ (x : Bool). eqb i j && x) (not-both _ _ (ap (λ (u : Bool). u && in_one_step b) e))
  where
    out : (e s f g : Bool) → (e && s || e && f || e && g) ≡ (e && (s || f || g))
    out true s f g = refl
    out false s f g = refl

-- ---- the first is one step

module _ (vlr j : ℕ) (few : vlr ≤ 64) (h : j < vlr) where
  row : (r s : ℕ) → has (element_place s j) (below vlr (element_place r)) ≡ eqb r s
  row r s = go (ℕ_discrete r s)
    where
      go : Dec (r ≡ s) → has (element_place s j) (below vlr (element_place r)) ≡ eqb r s
      go (yes e) = ap (λ (n : ℕ). has (element_place n j) (below vlr (element_place r))) (sym e) ∙ has-below (element_place r) j vlr h ∙ sym (eq-eqb r s e)
      go (no e) = has-not-below (element_place r) (element_place s j) vlr (λ k g z. e (omega arith)) ∙ sym (ne_eqb r s e)

  module _ (a b : Instruction) (rb : Below b) (e : in_one_step a ≡ true) (f : in_one_step b ≡ false) where
    -- an element, or a mask bit, among what it writes
    among-written : (s : ℕ) → s < 17 → has (element_place s j) (iota_writes a vlr) ≡ eqb (target a) s
    among-written s hs =
        has-append (element_place s j) (below vlr (element_place a.vc.0)) (count_place ∷ [])
        ∙ ap₂ (λ (x y : Bool). x || y) (row a.vc.0 s) (has_one (element_place s j) count_place ∙ ne_eqb (element_place s j) count_place (λ z. omega arith))
        ∙ or-false (eqb a.vc.0 s)
        ∙ ap (λ (t : ℕ). eqb t s) (one-target a e)

    one-conflict : conflict (iota_reads vlr) (iota_writes a vlr) (element_reads b j) (written_place b j ∷ []) ≡ binds a b
    unfolding conflict binds
    one-conflict =
        all_three
        (meet_comm (iota_writes a vlr) (written_place b j ∷ []) ∙ meet_one (written_place b j) (iota_writes a vlr)
        ∙ ap (λ (p : ℕ). has p (iota_writes a vlr)) (written_at b j) ∙ among-written (target b) (target-le b rb))
        (meet_comm (iota_writes a vlr) (element_reads b j) ∙ meet-read b j (iota_writes a vlr) ∙ same_read b rb _ (eqb (target a)) among-written)
        (meet_comm (iota_reads vlr) (written_place b j ∷ []) ∙ meet_one (written_place b j) (iota_reads vlr)
        ∙ ap (λ (p : ℕ). has p (iota_reads vlr)) (written_at b j) ∙ row 16 (target b) ∙ eqb_comm 16 (target b) ∙ sym (one-reads a e (target b)))
        ∙ not-both _ _ (ap₂ (λ (u v : Bool). u && v) e f)

-- ---- any two steps

-- both write VCR
ones-conflict : (ra rb xs ys : List ℕ) → conflict ra (xs ++ (count_place ∷ [])) rb (ys ++ (count_place ∷ [])) ≡ true
unfolding conflict
ones-conflict ra rb xs ys =
    ap (λ (t : Bool). t || meet (xs ++ (count_place ∷ [])) rb || meet ra (ys ++ (count_place ∷ [])))
    (true-T (meet (xs ++ (count_place ∷ [])) (ys ++ (count_place ∷ [])))
    (meets (xs ++ (count_place ∷ [])) (ys ++ (count_place ∷ [])) count_place (mem-append-r count_place xs (count_place ∷ []) (inl refl))
    (mem-append-r count_place ys (count_place ∷ []) (inl refl))))

ones-bind : (a b : Instruction) → in_one_step a ≡ true → in_one_step b ≡ true → binds a b ≡ true
unfolding binds
ones-bind a b e f =
    ap₂ (λ (u v : Bool). eqb (target a) (target b) || reads_place b (target a) || reads_place a (target b) || u && v) e f
    ∙ or-true (eqb (target a) (target b) || reads_place b (target a) || reads_place a (target b))

binds-comm : (a b : Instruction) → binds a b ≡ binds b a
unfolding binds
binds-comm a b =
    ap₂ (λ (t u : Bool). t || reads_place b (target a) || reads_place a (target b) || u) (eqb_comm (target a) (target b))
    (and_comm (in_one_step a) (in_one_step b))
    ∙ turn (eqb (target b) (target a)) (reads_place b (target a)) (reads_place a (target b)) _
  where
    turn : (t f g u : Bool) → (t || f || g || u) ≡ (t || g || f || u)
    turn true f g u = refl
    turn false f g u = ap (λ (x : Bool). x || u) (or_comm f g)

steps_bind-is : (a b : Instruction) (i j : ℕ) (u v : Bool) → in_one_step a ≡ u → in_one_step b ≡ v → steps_bind a i b j ≡ ((u || v || eqb i j) && binds a b)
unfolding steps_bind
steps_bind-is a b i j u v e f = ap₂ (λ (x y : Bool). (x || y || eqb i j) && binds a b) e f

pub plain-count : (ins : Instruction) (vlr i : ℕ) → in_one_step ins ≡ false → i < step_count ins vlr → i < vlr
plain-count ins vlr i e h = subst (λ (t : Bool). i < pick t 1 vlr) e h

-- THE CLOSED FORM: of two steps' places
pub conflict-bound : (a b : Instruction) (vlr i j : ℕ) → Below a → Below b → vlr ≤ 64 → i < step_count a vlr → j < step_count b vlr
    → conflict (reads a vlr i) (writes a vlr i) (reads b vlr j) (writes b vlr j) ≡ steps_bind a i b j
conflict-bound a b vlr i j ra rb few hi hj = go (in_one_step a) (in_one_step b) refl refl
  where
    go : (u v : Bool) → in_one_step a ≡ u → in_one_step b ≡ v
        → conflict (reads a vlr i) (writes a vlr i) (reads b vlr j) (writes b vlr j) ≡ steps_bind a i b j
    go false false e f =
        let ki = plain-count a vlr i e hi in
        let kj = plain-count b vlr j f hj in
        rw (reads_plain a vlr i e, writes-plain a vlr i e, reads_plain b vlr j f, writes-plain b vlr j f)
        (plain-conflict a b i j ra rb (omega arith) (omega arith) e ∙ sym (steps_bind-is a b i j false false e f))
    go true false e f =
        rw (reads-one a vlr i e, writes_one a vlr i e, reads_plain b vlr j f, writes-plain b vlr j f)
        (one-conflict vlr j few (plain-count b vlr j f hj) a b rb e f ∙ sym (steps_bind-is a b i j true false e f))
    go false true e f =
        conflict-comm (reads a vlr i) (writes a vlr i) (reads b vlr j) (writes b vlr j)
        ∙ rw (reads_plain a vlr i e, writes-plain a vlr i e, reads-one b vlr j f, writes_one b vlr j f)
        (one-conflict vlr i few (plain-count a vlr i e hi) b a ra f e ∙ binds-comm b a ∙ sym (steps_bind-is a b i j false true e f))
    go true true e f =
        rw (writes_one a vlr i e, writes_one b vlr j f)
        (ones-conflict (reads a vlr i) (reads b vlr j) (below vlr (element_place a.vc.0)) (below vlr (element_place b.vc.0))
        ∙ sym (steps_bind-is a b i j true true e f ∙ ones-bind a b e f))
