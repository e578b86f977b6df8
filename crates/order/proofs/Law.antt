-- The law of order lists: two lists of the same steps, each with dependent ones in the same order, run to the same state. Assumes nothing.
use mathlib.Core.Path.{◌≡◌, refl, sym, ap, ◌∙◌, subst}
use mathlib.Core.Logic.{inl, inr}
use mathlib.Core.Bool.{Bool}
use mathlib.Core.List.{List, [], ◌∷◌}
use Prim.Native.Nat.{ℕ}
use lib.Dec.{T}
use Rattle.order.specs.Order.{Mem, run}

-- no entry twice
abbrev pub Nodup : List ℕ → Type 0
Nodup [] = Unit {0}
Nodup (x ∷ l) = (Mem x l → ⊥) × Nodup l

-- no entry must come before itself or an earlier one
abbrev pub Ord : (ℕ → ℕ → Bool) → List ℕ → Type 0
Ord before [] = Unit {0}
Ord before (x ∷ l) = ((y : ℕ) → Mem y (x ∷ l) → T (before y x) → ⊥) × Ord before l

module _ (x : ℕ) where
  -- r without one of its entries; the empty list has none, so its case does not come, here and below
  abbrev rm : (r : List ℕ) → Mem x r → List ℕ
  rm [] m = []
  rm (y ∷ r) (inl e) = r
  rm (y ∷ r) (inr m) = y ∷ rm r m

  rm-mem : (r : List ℕ) (m : Mem x r) (a : ℕ) → Mem a (rm r m) → Mem a r
  rm-mem [] m a h = h
  rm-mem (y ∷ r) (inl e) a h = inr h
  rm-mem (y ∷ r) (inr m) a (inl e) = inl e
  rm-mem (y ∷ r) (inr m) a (inr h) = inr (rm-mem r m a h)

  mem-rm : (r : List ℕ) (m : Mem x r) (a : ℕ) → (a ≡ x → ⊥) → Mem a r → Mem a (rm r m)
  mem-rm [] m a n h = h
  mem-rm (y ∷ r) (inl e) a n (inl e') = absurd (n (e' ∙ sym e))
  mem-rm (y ∷ r) (inl e) a n (inr h) = h
  mem-rm (y ∷ r) (inr m) a n (inl e') = inl e'
  mem-rm (y ∷ r) (inr m) a n (inr h) = inr (mem-rm r m a n h)

  rm-fresh : (r : List ℕ) (m : Mem x r) → Nodup r → Mem x (rm r m) → ⊥
  rm-fresh [] m nd h = m
  rm-fresh (y ∷ r) (inl e) nd h = nd.0 (subst (λ (z : ℕ). Mem z r) e h)
  rm-fresh (y ∷ r) (inr m) nd (inl e) = nd.0 (subst (λ (z : ℕ). Mem z r) e m)
  rm-fresh (y ∷ r) (inr m) nd (inr h) = rm-fresh r m nd.1 h

  rm-nodup : (r : List ℕ) (m : Mem x r) → Nodup r → Nodup (rm r m)
  rm-nodup [] m nd = tt
  rm-nodup (y ∷ r) (inl e) nd = nd.1
  rm-nodup (y ∷ r) (inr m) nd = (λ h. nd.0 (rm-mem r m y h), rm-nodup r m nd.1)

  rm-ord : (before : ℕ → ℕ → Bool) (r : List ℕ) (m : Mem x r) → Ord before r → Ord before (rm r m)
  rm-ord before [] m o = tt
  rm-ord before (y ∷ r) (inl e) o = o.1
  rm-ord before (y ∷ r) (inr m) o = (λ z h. o.0 z (rm-mem (y ∷ r) (inr m) z h), rm-ord before r m o.1)

-- S: the states; `act`: what a step does; `Inv`: what is known of a state, and every step keeps it; `Step`: which numbers are steps; `comm`: two steps
-- of which neither must come before the other commute
module _ {S : Type 0} (act : ℕ → S → S) (before : ℕ → ℕ → Bool) (Step : ℕ → Type 0) (Inv : S → Type 0)
    (keeps : (a : ℕ) → Step a → (s : S) → Inv s → Inv (act a s))
    (comm : (a b : ℕ) → Step a → Step b → (T (before a b) → ⊥) → (T (before b a) → ⊥) → (s : S) → Inv s → act a (act b s) ≡ act b (act a s))
  where
    -- an entry that must come before none and after none of those in front of it is taken to the front
    pull : (x : ℕ) (r : List ℕ) (m : Mem x r) → ((a : ℕ) → Mem a r → Step a) → Step x → Ord before r
        → ((a : ℕ) → Mem a r → T (before a x) → ⊥) → (s : S) → Inv s → run act r s ≡ run act (rm x r m) (act x s)
    unfolding run
    pull x [] m sub sx o free s i = absurd m
    pull x (y ∷ r) (inl e) sub sx o free s i = ap (λ (z : ℕ). run act r (act z s)) (sym e)
    pull x (y ∷ r) (inr m) sub sx o free s i =
        pull x r m (λ a h. sub a (inr h)) sx o.1 (λ a h. free a (inr h)) (act y s) (keeps y (sub y (inl refl)) s i)
        ∙ ap (run act (rm x r m)) (comm x y sx (sub y (inl refl)) (o.0 x (inr m)) (free y (inl refl)) s i)

    pub same-run : (l r : List ℕ) → ((a : ℕ) → Mem a r → Step a) → Ord before l → Nodup l → Ord before r → Nodup r
        → ((a : ℕ) → Mem a l → Mem a r) → ((a : ℕ) → Mem a r → Mem a l) → (s : S) → Inv s → run act l s ≡ run act r s
    unfolding run
    same-run [] [] sub ol nl or nr to from s i = refl
    same-run [] (y ∷ r) sub ol nl or nr to from s i = absurd (from y (inl refl))
    same-run (x ∷ l) r sub ol nl or nr to from s i =
        same-run l (rm x r m) (λ a h. sub a (rm-mem x r m a h)) ol.1 nl.1 (rm-ord x before r m or) (rm-nodup x r m nr)
        (λ a h. mem-rm x r m a (λ e. nl.0 (subst (λ (z : ℕ). Mem z l) e h)) (to a (inr h)))
        (λ a h. back a h (from a (rm-mem x r m a h)))
        (act x s) (keeps x (sub x m) s i)
        ∙ sym (pull x r m sub (sub x m) or (λ a h. ol.0 a (from a h)) s i)
      where
        m : Mem x r
        m = to x (inl refl)

        back : (a : ℕ) → Mem a (rm x r m) → Mem a (x ∷ l) → Mem a l
        back a h (inl e) = absurd (rm-fresh x r m nr (subst (λ (z : ℕ). Mem z (rm x r m)) e h))
        back a h (inr k) = k
