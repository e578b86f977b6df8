-- The tests of `specs/Order.antt` against what they test, and laws of tests that other files cite.
-- Assumes nothing.
use mathlib.Core.Path.{◌≡◌, refl, sym, subst}
use mathlib.Core.Logic.{◌⊎◌, inl, inr, ⊎_elim}
use mathlib.Core.Bool.{Bool, true, false, ◌&&◌, ◌||◌}
use mathlib.Core.List.{List, [], ◌∷◌}
use Prim.Native.Nat.{ℕ}
use lib.Dec.{T, eqb, eqb→eq, eqb_refl}
use Rattle.order.specs.Order.{Mem, has, each}
use Rattle.numbers.specs.Choice.{pick}
use Rattle.numbers.proofs.Tests.{and_left, and_right}

pub or-T : (a b : Bool) → T (a || b) → T a ⊎ T b
or-T true b t = inl tt
or-T false b t = inr t

pub T-or-l : (a b : Bool) → T a → T (a || b)
T-or-l true b t = tt
T-or-l false b t = absurd t

pub T-or-r : (a b : Bool) → T b → T (a || b)
T-or-r true b t = tt
T-or-r false b t = t

pub and_l : (a b : Bool) → T (a && b) → T a
and_l true b t = tt
and_l false b t = t

pub and_r : (a b : Bool) → T (a && b) → T b
and_r true b t = t
and_r false b t = absurd t

pub T_and : (a b : Bool) → T a → T b → T (a && b)
T_and true b s t = t
T_and false b s t = s

pub T-dec : (b : Bool) → T b ⊎ (T b → ⊥)
T-dec true = inl tt
T-dec false = inr (λ t. t)

-- a property of both branches, each where its test says so
pub by-pick : {A : Type 0} (P : A → Type 0) (b : Bool) (u v : A) → (T b → P u) → ((T b → ⊥) → P v) → P (pick b u v)
by-pick P true u v f g = f tt
by-pick P false u v f g = g (λ t. t)

pub has→mem : (x : ℕ) (l : List ℕ) → T (has x l) → Mem x l
unfolding has
has→mem x [] t = t
has→mem x (y ∷ l) t = ⊎_elim (λ e. inl (eqb→eq x y e)) (λ h. inr (has→mem x l h)) (or-T (eqb x y) (has x l) t)

pub mem→has : (x : ℕ) (l : List ℕ) → Mem x l → T (has x l)
unfolding has
mem→has x [] m = m
mem→has x (y ∷ l) (inl e) = T-or-l (eqb x y) (has x l) (subst (λ (z : ℕ). T (eqb x z)) e (eqb_refl x))
mem→has x (y ∷ l) (inr m) = T-or-r (eqb x y) (has x l) (mem→has x l m)

pub each→ : (p : ℕ → Bool) (l : List ℕ) → T (each p l) → (a : ℕ) → Mem a l → T (p a)
unfolding each
each→ p [] t a m = absurd m
each→ p (x ∷ l) t a (inl e) = subst (λ (z : ℕ). T (p z)) (sym e) (and_l (p x) (each p l) t)
each→ p (x ∷ l) t a (inr m) = each→ p l (and_r (p x) (each p l) t) a m

pub →each : (p : ℕ → Bool) (l : List ℕ) → ((a : ℕ) → Mem a l → T (p a)) → T (each p l)
unfolding each
→each p [] f = tt
→each p (x ∷ l) f = T_and (p x) (each p l) (f x (inl refl)) (→each p l (λ a m. f a (inr m)))

-- where not each passes, one fails
pub each-fails : (p : ℕ → Bool) (l : List ℕ) → (T (each p l) → ⊥) → (a : ℕ) × Mem a l × (T (p a) → ⊥)
unfolding each
each-fails p [] f = absurd (f tt)
each-fails p (x ∷ l) f = ⊎_elim (λ t. later (each-fails p l (λ u. f (T_and (p x) (each p l) t u)))) (λ n. (x, inl refl, n)) (T-dec (p x))
  where
    later : ((a : ℕ) × Mem a l × (T (p a) → ⊥)) → (a : ℕ) × Mem a (x ∷ l) × (T (p a) → ⊥)
    later w = (w.0, inr w.1, w.2)

pub T_true : (b : Bool) → b ≡ true → T b
T_true true e = tt
T_true false e = subst T (sym e) tt

pub same_bool : (a b : Bool) → (T a → T b) → (T b → T a) → a ≡ b
same_bool true true f g = refl
same_bool true false f g = absurd (f tt)
same_bool false true f g = absurd (g tt)
same_bool false false f g = refl

pub true-T : (b : Bool) → T b → b ≡ true
true-T true t = refl
true-T false t = absurd t

pub false-T : (b : Bool) → (T b → ⊥) → b ≡ false
false-T true t = absurd (t tt)
false-T false t = refl

pub both : (a b : Bool) → a && b ≡ true → (a ≡ true) × (b ≡ true)
both a b e = (and_left a b e, and_right a b e)
