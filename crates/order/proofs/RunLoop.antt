-- A loop that runs a list of steps, one entry at a time: what is left of the list, run from here, gives what the whole list gives.
-- Assumes nothing.
use mathlib.Core.Path.{◌≡◌, refl, sym, ap, ◌∙◌, subst}
use mathlib.Core.Logic.{inl, inr}
use mathlib.Core.List.{List, [], ◌∷◌, ◌++◌}
use Prim.Native.Nat.{ℕ, suc, ◌+◌, ◌<◌, ◌≤◌, zero-le}
use native.Mathlib.Numerals.{add-one}
use lib.ListN.{length, get_or, drop, drop_of_length-le}
use lib.Seq.{drop-cons}
use Rattle.order.specs.Order.{Mem, run}

pub run-append : {S : Type 0} (f : ℕ → S → S) (xs ys : List ℕ) (r : S) → run f (xs ++ ys) r ≡ run f ys (run f xs r)
unfolding run
run-append f [] ys r = refl
run-append f (x ∷ xs) ys r = run-append f xs ys (f x r)

module _ {S : Type 0} (does : ℕ → S → S) (list : List ℕ) (s₀ : S) where
  pub record RunInv (s : S) (i : ℕ) : Type 0 where
    pub inside : i ≤ length list
    pub same : run does list s₀ ≡ run does (drop i list) s

  pub run-start : RunInv s₀ 0
  run-start = record { inside = zero-le; same = refl }

  -- one entry more
  pub run-one : (s : S) (i : ℕ) → RunInv s i → i < length list → (s' : S) → s' ≡ does (get_or list i 0) s → RunInv s' (i + 1)
  unfolding run
  run-one s i inv h s' e = subst (RunInv s') (sym (add-one i)) (record {
    inside = h;
    same = inv.same ∙ ap (λ (l : List ℕ). run does l s) (drop-cons list i 0 h) ∙ ap (run does (drop (suc i) list)) (sym e);
  })

  pub run_end : (s : S) (i : ℕ) → RunInv s i → length list ≤ i → s ≡ run does list s₀
  unfolding run
  run_end s i inv h = sym (inv.same ∙ ap (λ (l : List ℕ). run does l s) (drop_of_length-le list h))

-- steps that do the same at each entry run to the same
pub run-same : {S : Type 0} (f g : ℕ → S → S) (l : List ℕ) → ((x : ℕ) → Mem x l → (s : S) → f x s ≡ g x s) → (s : S) → run f l s ≡ run g l s
unfolding run
run-same f g [] e s = refl
run-same f g (x ∷ l) e s = ap (run f l) (e x (inl refl) s) ∙ run-same f g l (λ y m. e y (inr m)) (g x s)
