-- What the answers of the check mean, and that it gives the one right answer; the law, from the check's answers.
-- Assumes nothing.
use mathlib.Core.Path.{◌≡◌, refl, sym, ap, ◌∙◌, subst}
use mathlib.Core.Logic.{◌↔◌, ◌⊎◌, inl, inr, ⊎_elim}
use mathlib.Core.Bool.{Bool, not}
use mathlib.Core.List.{List, [], ◌∷◌}
use Prim.Native.Nat.{ℕ, zero, suc, ◌+◌, ◌<◌, zero-le, suc-le-suc}
use native.Mathlib.Nat.{not-suc-le-zero, le_of_suc-le-suc, add-zero, suc-add, add-suc, zero-add}
use native.Mathlib.Omega.{arith}
use lib.Dec.{T, T_not, not_T}
use lib.ListN.{length, get_or, take}
use Rattle.std.specs.Prelude.{Ok, Err}
use Rattle.order.specs.Order.{Verdict, Mem, has, each, ready, ok, check_from, check, GoodAt, Right, Proper, run}
use native.Mathlib.Decide.{dec_lt}
use lib.Seq.{take-length}
use Rattle.order.proofs.Law.{Nodup, Ord, same-run}
use Rattle.order.proofs.Tests.{or-T, T-or-l, T-or-r, and_l, and_r, T_and, T-dec, by-pick, has→mem, mem→has, each→, →each, each-fails}

-- a list that goes up
abbrev pub Asc : List ℕ → Type 0
Asc [] = Unit {0}
Asc (x ∷ l) = ((y : ℕ) → Mem y l → x < y) × Asc l

-- an entry of the first k, by its place
pub place_in : (a : ℕ) (l : List ℕ) (k : ℕ) → Mem a (take k l) → (j : ℕ) × (j < k) × (j < length l) × (get_or l j 0 ≡ a)
place_in a l zero m = absurd m
place_in a [] (suc k) m = absurd m
place_in a (x ∷ l) (suc k) (inl e) = (0, suc-le-suc zero-le, suc-le-suc zero-le, sym e)
place_in a (x ∷ l) (suc k) (inr m) =
    let w = place_in a l k m in
    (suc w.0, suc-le-suc w.1, suc-le-suc w.2, w.3)

at_place : (l : List ℕ) (j k : ℕ) → j < k → j < length l → Mem (get_or l j 0) (take k l)
at_place l j zero h i = absurd (not-suc-le-zero h)
at_place [] j (suc k) h i = absurd (not-suc-le-zero i)
at_place (x ∷ l) zero (suc k) h i = inl refl
at_place (x ∷ l) (suc j) (suc k) h i = inr (at_place l j k (le_of_suc-le-suc h) (le_of_suc-le-suc i))

module _ (before : ℕ → ℕ → Bool) (steps : List ℕ) where
  -- the entry at k of what is left is good, where `seen` has come
  record Good (seen l : List ℕ) (k : ℕ) : Type 0 where
    a-step : Mem (get_or l k 0) steps
    fresh : Mem (get_or l k 0) seen ⊎ Mem (get_or l k 0) (take k l) → ⊥
    after : (a : ℕ) → Mem a steps → T (before a (get_or l k 0)) → Mem a seen ⊎ Mem a (take k l)

  abbrev RightFrom : List ℕ → ℕ → List ℕ → Verdict → Type 0
  RightFrom seen i l (Ok _) = ((k : ℕ) → k < length l → Good seen l k) × ((a : ℕ) → Mem a steps → Mem a seen ⊎ Mem a l)
  RightFrom seen i l (Err p) =
      (q : ℕ) × (p ≡ i + q) × ((k : ℕ) → k < q → Good seen l k)
      × (((q < length l) × (Good seen l q → ⊥)) ⊎ ((q ≡ length l) × ((a : ℕ) × Mem a steps × (Mem a seen ⊎ Mem a l → ⊥))))

  only-left : {A : Type 0} → A ⊎ ⊥ → A
  only-left (inl a) = a
  only-left (inr e) = absurd e

  ok→good : (seen : List ℕ) (x : ℕ) (l : List ℕ) → T (ok before steps seen x) → Good seen (x ∷ l) zero
  unfolding ok ready
  ok→good seen x l t =
      let r = and_r (has x steps) _ t in
      record {
        a-step = has→mem x steps (and_l (has x steps) _ t);
        fresh = λ m. T_not (has x seen) (and_l (not (has x seen)) _ r) (mem→has x seen (only-left m));
        after = λ a m b. inl (has→mem a seen (⊎_elim (λ n. absurd (T_not (before a x) n b)) (λ h. h)
            (or-T (not (before a x)) (has a seen) (each→ _ steps (and_r (not (has x seen)) _ r) a m))));
      }

  good→ok : (seen : List ℕ) (x : ℕ) (l : List ℕ) → Good seen (x ∷ l) zero → T (ok before steps seen x)
  unfolding ok ready
  good→ok seen x l g =
      T_and (has x steps) _ (mem→has x steps g.a-step)
      (T_and (not (has x seen)) _ (not_T (has x seen) (λ h. g.fresh (inl (has→mem x seen h))))
      (→each _ steps (λ a m. ⊎_elim (λ b. T-or-r (not (before a x)) (has a seen) (mem→has a seen (only-left (g.after a m b))))
      (λ n. T-or-l (not (before a x)) (has a seen) (not_T (before a x) n)) (T-dec (before a x)))))

  -- an entry that has come stands in front of what is left, or in what is seen
  front : {a x : ℕ} (seen t : List ℕ) → Mem a (x ∷ seen) ⊎ Mem a t → Mem a seen ⊎ Mem a (x ∷ t)
  front seen t (inl (inl e)) = inr (inl e)
  front seen t (inl (inr m)) = inl m
  front seen t (inr m) = inr (inr m)

  unfront : {a x : ℕ} (seen t : List ℕ) → Mem a seen ⊎ Mem a (x ∷ t) → Mem a (x ∷ seen) ⊎ Mem a t
  unfront seen t (inl m) = inl (inr m)
  unfront seen t (inr (inl e)) = inl (inl e)
  unfront seen t (inr (inr m)) = inr m

  good-up : (seen : List ℕ) (x : ℕ) (l : List ℕ) (k : ℕ) → Good (x ∷ seen) l k → Good seen (x ∷ l) (suc k)
  good-up seen x l k g = record {
    a-step = g.a-step;
    fresh = λ m. g.fresh (unfront seen (take k l) m);
    after = λ a m b. front seen (take k l) (g.after a m b);
  }

  good-down : (seen : List ℕ) (x : ℕ) (l : List ℕ) (k : ℕ) → Good seen (x ∷ l) (suc k) → Good (x ∷ seen) l k
  good-down seen x l k g = record {
    a-step = g.a-step;
    fresh = λ m. g.fresh (front seen (take k l) m);
    after = λ a m b. unfront seen (take k l) (g.after a m b);
  }

  goods-up : (seen : List ℕ) (x : ℕ) (l : List ℕ) (n : ℕ) → Good seen (x ∷ l) zero → ((k : ℕ) → k < n → Good (x ∷ seen) l k)
      → (k : ℕ) → k < suc n → Good seen (x ∷ l) k
  goods-up seen x l n g f zero h = g
  goods-up seen x l n g f (suc k) h = good-up seen x l k (f k (le_of_suc-le-suc h))

  cons_right : (seen : List ℕ) (x : ℕ) (l : List ℕ) (i : ℕ) → Good seen (x ∷ l) zero → (v : Verdict)
      → RightFrom (x ∷ seen) (suc i) l v → RightFrom seen i (x ∷ l) v
  cons_right seen x l i g (Ok _) w = (goods-up seen x l (length l) g w.0, λ a m. front seen l (w.1 a m))
  cons_right seen x l i g (Err p) w = (
    suc w.0,
    w.1 ∙ (suc-add i w.0 ∙ sym (add-suc i w.0)),
    goods-up seen x l w.0 g w.2,
    ⊎_elim (λ b. inl (suc-le-suc b.0, λ h. b.1 (good-down seen x l w.0 h)))
        (λ b. inr (ap suc b.0, (b.1.0, b.1.1, λ m. b.1.2 (unfront seen l m)))) w.3,
  )

  from-right : (l seen : List ℕ) (i : ℕ) → RightFrom seen i l (check_from before steps seen i l)
  unfolding check_from
  from-right [] seen i =
      by-pick (RightFrom seen i []) (each (λ (a : ℕ). has a seen) steps) (Ok tt) (Err i)
      (λ t. ((λ k h. absurd (not-suc-le-zero h)), λ a m. inl (has→mem a seen (each→ _ steps t a m))))
      (λ f. (0, sym (add-zero i), (λ k h. absurd (not-suc-le-zero h)), inr (refl, miss (each-fails _ steps f))))
    where
      miss : ((a : ℕ) × Mem a steps × (T (has a seen) → ⊥)) → (a : ℕ) × Mem a steps × (Mem a seen ⊎ ⊥ → ⊥)
      miss w = (w.0, w.1, λ m. w.2 (mem→has w.0 seen (only-left m)))
  from-right (x ∷ l) seen i =
      by-pick (RightFrom seen i (x ∷ l)) (ok before steps seen x) (check_from before steps (x ∷ seen) (suc i) l) (Err i)
      (λ t. cons_right seen x l i (ok→good seen x l t) (check_from before steps (x ∷ seen) (suc i) l) (from-right l (x ∷ seen) (suc i)))
      (λ f. (0, sym (add-zero i), (λ k h. absurd (not-suc-le-zero h)), inl (suc-le-suc zero-le, λ g. f (good→ok seen x l g))))

  -- the check's own statement: nothing seen, from position 0
  at : (l : List ℕ) (k : ℕ) → Good [] l k → GoodAt before steps l k
  at l k g = record { a-step = g.a-step; fresh = λ m. g.fresh (inr m); after = λ a m b. ⊎_elim (λ e. absurd e) (λ h. h) (g.after a m b) }

  un-at : (l : List ℕ) (k : ℕ) → GoodAt before steps l k → Good [] l k
  un-at l k g = record { a-step = g.a-step; fresh = λ m. ⊎_elim (λ e. e) g.fresh m; after = λ a m b. inr (g.after a m b) }

  at_right : (l : List ℕ) (v : Verdict) → RightFrom [] 0 l v → Right before steps l v
  at_right l (Ok _) w = (λ k h. at l k (w.0 k h), λ a m. ⊎_elim (λ e. absurd e) (λ h. h) (w.1 a m))
  at_right l (Err p) w =
      subst (λ (n : ℕ). Right before steps l (Err n)) (sym (w.1 ∙ zero-add w.0))
      (λ k h. at l k (w.2 k h), ⊎_elim (λ b. inl (b.0, λ g. b.1 (un-at l w.0 g))) (λ b. inr (b.0, (b.1.0, b.1.1, λ m. b.1.2 (inr m)))) w.3)

  -- THE CHECK'S ANSWER IS RIGHT
  pub check-right : (l : List ℕ) → Right before steps l (check before steps l)
  unfolding check
  check-right l = at_right l (check_from before steps [] 0 l) (from-right l [] 0)

  -- no two answers are right
  clash : (l : List ℕ) (p : ℕ) → Right before steps l (Ok tt) → Right before steps l (Err p) → ⊥
  clash l p v w = ⊎_elim (λ b. b.1 (v.0 p b.0)) (λ b. b.1.2 (v.1 b.1.0 b.1.1)) w.1

  within : (l : List ℕ) (p : ℕ) → Right before steps l (Err p) → p < suc (length l)
  within l p w = ⊎_elim (λ b. omega arith) (λ b. omega arith) w.1

  not-later : (l : List ℕ) (p q : ℕ) → Right before steps l (Err p) → Right before steps l (Err q) → p < q → ⊥
  not-later l p q v w h = ⊎_elim (λ b. b.1 (w.0 p h)) (λ b. omega (arith, within l q w)) v.1

  same_place : (l : List ℕ) (p q : ℕ) → Right before steps l (Err p) → Right before steps l (Err q) → p ≡ q
  same_place l p q v w = go (dec_lt p q) (dec_lt q p)
    where
      go : Dec (p < q) → Dec (q < p) → p ≡ q
      go (yes h) d = absurd (not-later l p q v w h)
      go (no n) (yes h) = absurd (not-later l q p w v h)
      go (no n) (no m) = omega arith

  pub unique : (l : List ℕ) (v w : Verdict) → Right before steps l v → Right before steps l w → v ≡ w
  unique l (Ok _) (Ok _) v w = refl
  unique l (Ok _) (Err q) v w = absurd (clash l q v w)
  unique l (Err p) (Ok _) v w = absurd (clash l p w v)
  unique l (Err p) (Err q) v w = ap Err (same_place l p q v w)

  -- THE CHECK GIVES v EXACTLY WHERE v IS RIGHT
  pub check-iff : (l : List ℕ) (v : Verdict) → (check before steps l ≡ v) ↔ Right before steps l v
  check-iff l v = (λ e. subst (Right before steps l) e (check-right l), λ w. unique l (check before steps l) v (check-right l) w)

  -- the right answer is Ok where the list is proper, and nowhere else
  right→proper : (l : List ℕ) → Right before steps l (Ok tt) → Proper before steps l
  right→proper l w = record {
    only = λ k h. (w.0 k h).a-step;
    once = once;
    all = λ a m.
        let p = place_in a l (length l) (rw take-length (w.1 a m)) in
        (p.0, p.1, p.3);
    order = λ j k hj hk b.
        let p = place_in (get_or l j 0) l k ((w.0 k hk).after (get_or l j 0) (w.0 j hj).a-step b) in
        subst (λ (n : ℕ). n < k) (once p.0 j p.2 hj p.3) p.1;
  }
    where
      not-twice : (j k : ℕ) → j < length l → k < length l → get_or l j 0 ≡ get_or l k 0 → j < k → ⊥
      not-twice j k hj hk e h = (w.0 k hk).fresh (subst (λ (z : ℕ). Mem z (take k l)) e (at_place l j k h hj))

      once : (j k : ℕ) → j < length l → k < length l → get_or l j 0 ≡ get_or l k 0 → j ≡ k
      once j k hj hk e = go (dec_lt j k) (dec_lt k j)
        where
          go : Dec (j < k) → Dec (k < j) → j ≡ k
          go (yes h) d = absurd (not-twice j k hj hk e h)
          go (no n) (yes h) = absurd (not-twice k j hk hj (sym e) h)
          go (no n) (no m) = omega arith

  proper→right : (l : List ℕ) → Proper before steps l → Right before steps l (Ok tt)
  proper→right l w = (good, λ a m. rw take-length at (found a m))
    where
      found : (a : ℕ) → Mem a steps → Mem a (take (length l) l)
      found a m =
          let p = w.all a m in
          subst (λ (z : ℕ). Mem z (take (length l) l)) p.2 (at_place l p.0 (length l) p.1 p.1)

      good : (k : ℕ) → k < length l → GoodAt before steps l k
      good k hk = record {
        a-step = w.only k hk;
        fresh = λ m.
            let p = place_in (get_or l k 0) l k m in
            let e = w.once p.0 k p.2 hk p.3 in
            omega (arith, p.1);
        after = λ a m b.
            let p = w.all a m in
            let h = w.order p.0 k p.1 hk (subst (λ (z : ℕ). T (before z (get_or l k 0))) (sym p.2) b) in
            subst (λ (z : ℕ). Mem z (take k l)) p.2 (at_place l p.0 k h p.1);
      }

  -- A LIST IS PERMITTED EXACTLY WHERE IT IS PROPER
  pub permitted-iff : (l : List ℕ) → (check before steps l ≡ Ok tt) ↔ Proper before steps l
  permitted-iff l = (λ e. right→proper l ((check-iff l (Ok tt)).0 e), λ w. (check-iff l (Ok tt)).1 (proper→right l w))

  -- the steps in their own order are permitted, where their numbers go up and a step that must come before another has the lower number
  asc-at : (l : List ℕ) → Asc l → (j k : ℕ) → j < k → k < length l → get_or l j 0 < get_or l k 0
  asc-at [] u j k h i = absurd (not-suc-le-zero i)
  asc-at (x ∷ l) u j zero h i = absurd (not-suc-le-zero h)
  asc-at (x ∷ l) u zero (suc k) h i = u.0 (get_or l k 0) (rw take-length at (at_place l k (length l) (le_of_suc-le-suc i) (le_of_suc-le-suc i)))
  asc-at (x ∷ l) u (suc j) (suc k) h i = asc-at l u.1 j k (le_of_suc-le-suc h) (le_of_suc-le-suc i)

  pub own-order : Asc steps → ((a b : ℕ) → T (before a b) → a < b) → check before steps steps ≡ Ok tt
  own-order u lt = (permitted-iff steps).1 (record {
    only = λ k h. rw take-length at (at_place steps k (length steps) h h);
    once = λ j k hj hk e. go j k hj hk e (dec_lt j k) (dec_lt k j);
    all = λ a m.
        let p = place_in a steps (length steps) (rw take-length m) in
        (p.0, p.1, p.3);
    order = λ j k hj hk b. up j k hj hk (lt (get_or steps j 0) (get_or steps k 0) b) (dec_lt j k) (dec_lt k j);
  })
    where
      go : (j k : ℕ) → j < length steps → k < length steps → get_or steps j 0 ≡ get_or steps k 0 → Dec (j < k) → Dec (k < j) → j ≡ k
      go j k hj hk e (yes h) d = let g = asc-at steps u j k h hk in absurd (omega arith)
      go j k hj hk e (no n) (yes h) = let g = asc-at steps u k j h hj in absurd (omega arith)
      go j k hj hk e (no n) (no m) = omega arith

      up : (j k : ℕ) → j < length steps → k < length steps → get_or steps j 0 < get_or steps k 0 → Dec (j < k) → Dec (k < j) → j < k
      up j k hj hk g (yes h) d = h
      up j k hj hk g (no n) (yes h) = let f = asc-at steps u k j h hj in absurd (omega arith)
      up j k hj hk g (no n) (no m) =
          let e : get_or steps j 0 ≡ get_or steps k 0 = ap (λ (i : ℕ). get_or steps i 0) (omega arith) in
          absurd (omega arith)

  -- what the law asks, from good entries
  abbrev Goods : List ℕ → List ℕ → Type 0
  Goods seen l = (k : ℕ) → k < length l → Good seen l k

  rest : (seen : List ℕ) (x : ℕ) (l : List ℕ) → Goods seen (x ∷ l) → Goods (x ∷ seen) l
  rest seen x l g k h = good-down seen x l k (g (suc k) (suc-le-suc h))

  first : (seen : List ℕ) (x : ℕ) (l : List ℕ) → Goods seen (x ∷ l) → Good seen (x ∷ l) zero
  first seen x l g = g zero (suc-le-suc zero-le)

  only-in : (l seen : List ℕ) → Goods seen l → (a : ℕ) → Mem a l → Mem a steps
  only-in [] seen g a m = absurd m
  only-in (x ∷ l) seen g a (inl e) = subst (λ (z : ℕ). Mem z steps) (sym e) (first seen x l g).a-step
  only-in (x ∷ l) seen g a (inr m) = only-in l (x ∷ seen) (rest seen x l g) a m

  new_in : (l seen : List ℕ) → Goods seen l → (a : ℕ) → Mem a l → Mem a seen → ⊥
  new_in [] seen g a m h = m
  new_in (x ∷ l) seen g a (inl e) h = (first seen x l g).fresh (inl (subst (λ (z : ℕ). Mem z seen) e h))
  new_in (x ∷ l) seen g a (inr m) h = new_in l (x ∷ seen) (rest seen x l g) a m (inr h)

  nodup : (l seen : List ℕ) → Goods seen l → Nodup l
  nodup [] seen g = tt
  nodup (x ∷ l) seen g = (λ m. new_in l (x ∷ seen) (rest seen x l g) x m (inl refl), nodup l (x ∷ seen) (rest seen x l g))

  ord : (l seen : List ℕ) → Goods seen l → Ord before l
  ord [] seen g = tt
  ord (x ∷ l) seen g =
      (λ y m b. new_in (x ∷ l) seen g y m (only-left ((first seen x l g).after y (only-in (x ∷ l) seen g y m) b)), ord l (x ∷ seen) (rest seen x l g))

  module _ {S : Type 0} (act : ℕ → S → S) (Inv : S → Type 0)
      (keeps : (a : ℕ) → Mem a steps → (s : S) → Inv s → Inv (act a s))
      (comm : (a b : ℕ) → Mem a steps → Mem b steps → (T (before a b) → ⊥) → (T (before b a) → ⊥) → (s : S) → Inv s → act a (act b s) ≡ act b (act a s))
    where
      -- THE LAW: a permitted list runs to the state that the steps run to in their own order
      pub law : (l : List ℕ) → check before steps l ≡ Ok tt → check before steps steps ≡ Ok tt
          → (s : S) → Inv s → run act l s ≡ run act steps s
      law l pl ps =
          same-run act before (λ (a : ℕ). Mem a steps) Inv keeps comm l steps (λ a m. m)
          (ord l [] gl) (nodup l [] gl) (ord steps [] gs) (nodup steps [] gs) (only-in l [] gl) ((check-iff l (Ok tt)).0 pl).1
        where
          gl : Goods [] l
          gl k h = un-at l k (((check-iff l (Ok tt)).0 pl).0 k h)

          gs : Goods [] steps
          gs k h = un-at steps k (((check-iff steps (Ok tt)).0 ps).0 k h)
