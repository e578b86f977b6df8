-- Steps that touch nothing in common but what both only read commute, whatever they do.
-- Assumes nothing.
use mathlib.Core.Path.{◌≡◌, sym, ap₂, ◌∙◌}
use mathlib.Core.Logic.{◌⊎◌, inl, inr, ⊎_elim}
use mathlib.Core.Bool.{◌||◌}
use mathlib.Core.List.{List}
use Prim.Native.Nat.{ℕ, ◌≤◌}
use lib.Dec.{T}
use lib.ListN.{length}
use Rattle.machine.specs.Run.{Added, Run, joined}
use Rattle.machine.proofs.Gather.{joined-swap}
use Rattle.order.specs.Order.{Mem, has}
use Rattle.touch.specs.Touch.{count_place, meet, conflict}
use Rattle.order.proofs.Tests.{T-dec, T-or-l, T-or-r, has→mem, mem→has}
use Rattle.touch.proofs.Places.{meets}
use Rattle.touch.proofs.Contents.{get, Still, equal-runs}

-- a run at VLR n
abbrev pub HasVlr : ℕ → Run → Type 0
HasVlr n r = r.control.vlr ≡ n

-- the runs have the same contents at the places of both lists
abbrev pub Agree : List ℕ → List ℕ → Run → Run → Type 0
Agree rs ws r r' = (p : ℕ) → p ≤ count_place → Mem p rs ⊎ Mem p ws → get p r ≡ get p r'

-- a step that reads and writes these places: it changes no other; what it leaves in those that it writes, and what it adds to what the run gathers, it
-- makes of these places alone
pub record Does (n : ℕ) (step : Run → Run) (rs ws : List ℕ) : Type 0 where
  pub adds : Run → Added
  pub still : (r : Run) → HasVlr n r → Still r (step r)
  pub keeps : (r : Run) → HasVlr n r → (p : ℕ) → p ≤ count_place → (Mem p ws → ⊥) → get p (step r) ≡ get p r
  pub leaves : (r r' : Run) → HasVlr n r → HasVlr n r' → length r.elements ≡ length r'.elements → Agree rs ws r r' → (p : ℕ) → p ≤ count_place
      → Mem p ws → get p (step r) ≡ get p (step r')
  pub same-adds : (r r' : Run) → HasVlr n r → HasVlr n r' → Agree rs ws r r' → adds r ≡ adds r'
  pub gathers : (r : Run) → (step r).gathered ≡ joined r.gathered (adds r)

abbrev Disjoint : List ℕ → List ℕ → Type 0
Disjoint xs ys = (p : ℕ) → Mem p xs → Mem p ys → ⊥

module _ (n : ℕ) (f g : Run → Run) (rf wf rg wg : List ℕ) (df : Does n f rf wf) (dg : Does n g rg wg)
    (ww : Disjoint wf wg) (wr : Disjoint wf rg) (rw' : Disjoint rf wg) (r : Run) (h : HasVlr n r)
  where
    hf : HasVlr n (f r)
    hf = (df.still r h).vlr ∙ h

    hg : HasVlr n (g r)
    hg = (dg.still r h).vlr ∙ h

    -- what f touches, g has left as it was, and the other way round
    for-f : Agree rf wf (g r) r
    for-f p k m = dg.keeps r h p k (⊎_elim (λ a b. rw' p a b) (λ a b. ww p a b) m)

    for-g : Agree rg wg (f r) r
    for-g p k m = df.keeps r h p k (⊎_elim (λ a b. wr p b a) (λ a b. ww p b a) m)

    same_at : (p : ℕ) → p ≤ count_place → get p (f (g r)) ≡ get p (g (f r))
    same_at p k = go (T-dec (has p wf)) (T-dec (has p wg))
      where
        go : T (has p wf) ⊎ (T (has p wf) → ⊥) → T (has p wg) ⊎ (T (has p wg) → ⊥) → get p (f (g r)) ≡ get p (g (f r))
        go (inl a) d =
            df.leaves (g r) r hg h (dg.still r h).long for-f p k (has→mem p wf a)
            ∙ sym (dg.keeps (f r) hf p k (λ m. ww p (has→mem p wf a) m))
        go (inr a) (inl b) =
            df.keeps (g r) hg p k (λ m. a (mem→has p wf m))
            ∙ sym (dg.leaves (f r) r hf h (df.still r h).long for-g p k (has→mem p wg b))
        go (inr a) (inr b) =
            (df.keeps (g r) hg p k (λ m. a (mem→has p wf m)) ∙ dg.keeps r h p k (λ m. b (mem→has p wg m)))
            ∙ sym (dg.keeps (f r) hf p k (λ m. b (mem→has p wg m)) ∙ df.keeps r h p k (λ m. a (mem→has p wf m)))

    gather : (f (g r)).gathered ≡ (g (f r)).gathered
    gather =
        df.gathers (g r)
        ∙ ap₂ joined (dg.gathers r) (df.same-adds (g r) r hg h for-f)
        ∙ joined-swap r.gathered (dg.adds r) (df.adds r)
        ∙ sym (dg.gathers (f r) ∙ ap₂ joined (df.gathers r) (dg.same-adds (f r) r hf h for-g))

    stills : Still (g (f r)) (f (g r))
    stills = record {
      long = ((df.still (g r) hg).long ∙ (dg.still r h).long) ∙ sym ((dg.still (f r) hf).long ∙ (df.still r h).long);
      past = λ p z. ((df.still (g r) hg).past p z ∙ (dg.still r h).past p z) ∙ sym ((dg.still (f r) hf).past p z ∙ (df.still r h).past p z);
      vlr = ((df.still (g r) hg).vlr ∙ (dg.still r h).vlr) ∙ sym ((dg.still (f r) hf).vlr ∙ (df.still r h).vlr);
      vaer = ((df.still (g r) hg).vaer ∙ (dg.still r h).vaer) ∙ sym ((dg.still (f r) hf).vaer ∙ (df.still r h).vaer);
      vpsr = ((df.still (g r) hg).vpsr ∙ (dg.still r h).vpsr) ∙ sym ((dg.still (f r) hf).vpsr ∙ (df.still r h).vpsr);
      high = λ k z. ((df.still (g r) hg).high k z ∙ (dg.still r h).high k z) ∙ sym ((dg.still (f r) hf).high k z ∙ (df.still r h).high k z);
    }

    commutes : f (g r) ≡ g (f r)
    commutes = equal-runs (g (f r)) (f (g r)) stills same_at gather

-- STEPS THAT DO NOT CONFLICT COMMUTE
pub clear : (n : ℕ) (f g : Run → Run) (rf wf rg wg : List ℕ) → Does n f rf wf → Does n g rg wg → (T (conflict rf wf rg wg) → ⊥)
    → (r : Run) → HasVlr n r → f (g r) ≡ g (f r)
unfolding conflict
clear n f g rf wf rg wg df dg no-conflict =
    commutes n f g rf wf rg wg df dg
    (λ p a b. no-conflict (T-or-l (meet wf wg || meet wf rg) (meet rf wg) (T-or-l (meet wf wg) (meet wf rg) (meets wf wg p a b))))
    (λ p a b. no-conflict (T-or-l (meet wf wg || meet wf rg) (meet rf wg) (T-or-r (meet wf wg) (meet wf rg) (meets wf rg p a b))))
    (λ p a b. no-conflict (T-or-r (meet wf wg || meet wf rg) (meet rf wg) (meets rf wg p a b)))
