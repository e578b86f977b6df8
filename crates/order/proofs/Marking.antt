-- The pass over an order list with sets of positions: what the sets say, and that the code's tests are the check's. Assumes nothing.
use mathlib.Core.Path.{◌≡◌, refl, sym, ap, ap₂, ◌∙◌, subst}
use mathlib.Core.Bool.{Bool, true, false, not, ◌&&◌, ◌||◌, and-false, or-true, not-not}
use mathlib.Core.List.{List}
use Prim.Native.Nat.{ℕ, zero, suc, ◌+◌, ◌-◌, ◌*◌, ◌^◌, ◌<◌, ◌≤◌, zero-le}
use native.Mathlib.Omega.{arith}
use native.Mathlib.Numerals.{add-one}
use native.Mathlib.Decide.{ℕ_discrete, dec_lt}
use borrow.Author.Tests.{eq-eqb, ne_eqb, eqb-true, ltb-true, lt-ltb, le-ltb}
use lib.Dec.{T, eqb, ltb}
use lib.Bits.{bit_or}
use lib.ListN.{length, get_or, take, replicate, get_or-replicate}
use Rattle.std.specs.List.{fold}
use Rattle.std.proofs.lemmas.List.Sums.{fold_more}
use Rattle.numbers.specs.Choice.{pick}
use Rattle.numbers.specs.Bits.{bit}
use Rattle.numbers.proofs.Tests.{true-not-false}
use Rattle.numbers.proofs.Sets.{bit-or, bit-none}
use Rattle.std.specs.Prelude.{Ok, Err}
use Rattle.order.specs.Order.{Verdict, Mem, has, each}
use Rattle.order.specs.Steps.{position, element}
use Rattle.order.specs.SetsWorking.{apart, count_by, is_step_by, steps_by, follows_by, verdict_by, gone, has_come, somewhere, due, sentinel, may_come, Struck}
use Rattle.order.specs.SetsWorking.{StretchTaken, Started}
use Rattle.order.proofs.Tests.{T_true, each→, →each, has→mem, mem→has}
use Rattle.std.proofs.lemmas.Bool.{and_from}
use Rattle.order.proofs.Tests.{same_bool, true-T}
use Rattle.order.proofs.Passing.{passing→, →passing}
use Rattle.order.proofs.Tests.{both}
use Rattle.order.proofs.Sets.{bit-joined, bit_below, apart→, →apart}
use Rattle.order.proofs.Taking.{along}
use Rattle.order.proofs.CheckLoop.{CheckInv, may_by, check-start, check-stop, check-on, check-end}

-- ---- tests
implied : (a b : Bool) → (a ≡ true → b ≡ true) → T (not a || b)
implied true b f = T_true b (f refl)
implied false b f = tt

implies : (a b : Bool) → T (not a || b) → a ≡ true → b ≡ true
implies true b t e = true-T b t
implies false b t e = absurd (true-not-false e)

-- ---- a step, and its position and element
position_at : (k e : ℕ) → e < 64 → position (k * 64 + e) ≡ k
position_at k e h = omega arith

element-at : (k e : ℕ) → e < 64 → element (k * 64 + e) ≡ e
element-at k e h = omega arith

come-at : (left : List ℕ) (k e : ℕ) → e < 64 → has_come left (k * 64 + e) ≡ gone left e k
come-at left k e h = ap₂ (λ (i j : ℕ). gone left i j) (element-at k e h) (position_at k e h)

-- ---- the positions that no element waits for
neither : (a b : Bool) → not (a || b) ≡ (not a && not b)
neither true b = refl
neither false b = refl

somewhere→ : (left : List ℕ) (n k : ℕ) → not (bit (somewhere left n) k) ≡ true → (e : ℕ) → e < n → gone left e k ≡ true
unfolding somewhere
somewhere→ left zero k f e h = absurd (none h)
  where
    none : e < 0 → ⊥
    none g = omega arith
somewhere→ left (suc n) k f e h =
    let u = both (not (bit (somewhere left n) k)) (gone left n k)
    (sym (ap not (bit-or (somewhere left n) (get_or left n 0) k) ∙ neither (bit (somewhere left n) k) (bit (get_or left n 0) k)) ∙ f) in
    go (ℕ_discrete e n) u.1 (λ g. somewhere→ left n k u.0 e g)
  where
    go : Dec (e ≡ n) → gone left n k ≡ true → (e < n → gone left e k ≡ true) → gone left e k ≡ true
    go (yes z) v r = ap (λ (j : ℕ). gone left j k) z ∙ v
    go (no z) v r = r (omega arith)

→somewhere : (left : List ℕ) (n k : ℕ) → ((e : ℕ) → e < n → gone left e k ≡ true) → not (bit (somewhere left n) k) ≡ true
unfolding somewhere
→somewhere left zero k f = ap not (bit-none k)
→somewhere left (suc n) k f =
    ap not (bit-or (somewhere left n) (get_or left n 0) k)
    ∙ neither (bit (somewhere left n) k) (bit (get_or left n 0) k)
    ∙ and_from _ _ (→somewhere left n k (λ e g. f e (omega arith))) (f n (omega arith))

-- the code's sets joined
pub somewhere-joins : (left : List ℕ) (n : ℕ) → n ≤ length left → fold bit_or 0 (take n left) ≡ somewhere left n
unfolding somewhere
somewhere-joins left zero h = refl
somewhere-joins left (suc n) h =
    ap (λ (m : ℕ). fold bit_or 0 (take m left)) (sym (add-one n)) ∙ fold_more bit_or 0 left n 0 h
    ∙ ap (λ (s : ℕ). bit_or s (get_or left n 0)) (somewhere-joins left n (omega arith))

-- before the start every position is left, the sentinel too
pub all-left : (e : ℕ) → e < 64 → gone (replicate 64 18446744073709551615) e sentinel ≡ false
all-left e h = ap (λ (v : ℕ). not (bit v sentinel)) (get_or-replicate 64 e 18446744073709551615 0 h)

module _ (n vlr iotas : ℕ) where
  pub record IsStep (x : ℕ) : Type 0 where
    pub at : position x < n
    pub of : element x < count_by vlr iotas (position x)

  -- what the sets say after i entries
  pub record Marked (bound list left : List ℕ) (i : ℕ) : Type 0 where
    pub on : CheckInv (follows_by iotas bound) (steps_by n vlr iotas) list (has_come left) i
    -- the elements from VLR on wait for IOTAs alone
    pub beyond : (k e : ℕ) → k < n → bit iotas k ≡ false → vlr ≤ e → e < 64 → gone left e k ≡ true
    -- every element waits for an IOTA, or none
    pub alike : (k e : ℕ) → k < n → bit iotas k ≡ true → e < 64 → gone left e k ≡ gone left 0 k

module _ (n vlr iotas : ℕ) (few : n ≤ 16) (short : vlr ≤ 64) where
  count-le : (k : ℕ) → count_by vlr iotas k ≤ 64
  count-le k = go (bit iotas k)
    where
      go : (t : Bool) → pick t 1 vlr ≤ 64
      go true = omega arith
      go false = short

  -- ---- the steps
  step→ : (x : ℕ) → is_step_by n vlr iotas x ≡ true → IsStep n vlr iotas x
  unfolding is_step_by
  step→ x e =
      let u = both (ltb (position x) n) (ltb (element x) (count_by vlr iotas (position x))) e in
      record { at = ltb-true (position x) n u.0; of = ltb-true (element x) (count_by vlr iotas (position x)) u.1 }

  →step : (x : ℕ) → IsStep n vlr iotas x → is_step_by n vlr iotas x ≡ true
  unfolding is_step_by
  →step x s = and_from (ltb (position x) n) _ (lt-ltb (position x) n s.at) (lt-ltb (element x) (count_by vlr iotas (position x)) s.of)

  mem→step : (x : ℕ) → Mem x (steps_by n vlr iotas) → IsStep n vlr iotas x
  unfolding steps_by
  mem→step x m = step→ x (true-T _ (passing→ (is_step_by n vlr iotas) x 0 (n * 64) m).2)

  step→mem : (x : ℕ) → IsStep n vlr iotas x → Mem x (steps_by n vlr iotas)
  unfolding steps_by
  step→mem x s = let h = s.at in →passing (is_step_by n vlr iotas) x 0 (n * 64) zero-le (omega arith) (T_true _ (→step x s))

  has-step : (x : ℕ) → has x (steps_by n vlr iotas) ≡ is_step_by n vlr iotas x
  has-step x =
      same_bool (has x (steps_by n vlr iotas)) (is_step_by n vlr iotas x)
      (λ t. T_true _ (→step x (mem→step x (has→mem x (steps_by n vlr iotas) t))))
      (λ t. mem→has x (steps_by n vlr iotas) (step→mem x (step→ x (true-T _ t))))

  step-at : (k e : ℕ) → k < n → e < count_by vlr iotas k → IsStep n vlr iotas (k * 64 + e)
  step-at k e h g =
      let small = count-le k in
      let p : position (k * 64 + e) ≡ k = position_at k e (omega arith) in
      record {
        at = rw p h;
        of = rw (p, element-at k e (omega arith)) g;
      }

  -- an IOTA's one step
  first : (y : ℕ) → IsStep n vlr iotas y → bit iotas (position y) ≡ true → element y ≡ 0
  first y s e = let h : element y < pick true 1 vlr = subst (λ (b : Bool). element y < pick b 1 vlr) e s.of in omega arith

  module _ (bound : List ℕ) (earlier : (p k : ℕ) → p < n → bit (get_or bound p 0) k ≡ true → k < p) where
    module _ (list left : List ℕ) (i : ℕ) (inv : Marked n vlr iotas bound list left i) where
      -- element e waits for position k no more, where the steps of k have come
      held : (k e : ℕ) → k < n → e < 64 → ((j : ℕ) → j < count_by vlr iotas k → (bit iotas k || eqb j e) ≡ true → has_come left (k * 64 + j) ≡ true)
          → gone left e k ≡ true
      held k e h g f = go (bit iotas k) refl (dec_lt e vlr)
        where
          go : (b : Bool) → bit iotas k ≡ b → Dec (e < vlr) → gone left e k ≡ true
          go true z d =
              inv.alike k e h z g
              ∙ sym (come-at left k 0 (omega arith))
              ∙ f 0 (subst (λ (b : Bool). 0 < pick b 1 vlr) (sym z) (omega arith)) (ap (λ (b : Bool). b || eqb 0 e) z)
          go false z (yes d) =
              sym (come-at left k e g)
              ∙ f e (subst (λ (b : Bool). e < pick b 1 vlr) (sym z) d) (ap₂ (λ (a b : Bool). a || b) z (eq-eqb e e refl))
          go false z (no d) = inv.beyond k e h z (omega arith) g

      -- ---- an entry that is a step
      module _ (x : ℕ) (sx : IsStep n vlr iotas x) where
        abbrev needed : ℕ
        needed = get_or bound (position x) 0

        abbrev awaited : ℕ → Bool
        awaited a = not (follows_by iotas bound a x) || has_come left a

        follows-at : (k e : ℕ) → e < 64 → bit needed k ≡ true → (bit iotas k || bit iotas (position x) || eqb e (element x)) ≡ true
            → follows_by iotas bound (k * 64 + e) x ≡ true
        unfolding follows_by
        follows-at k e h f g =
            ap₂ (λ (p j : ℕ). bit (get_or bound (position x) 0) p && (bit iotas p || bit iotas (position x) || eqb j (element x))) (position_at k e h)
            (element-at k e h)
            ∙ and_from (bit (get_or bound (position x) 0) k) _ f g

        -- every step that x must follow has come: it waits for no position that it is bound to
        frees : T (each awaited (steps_by n vlr iotas)) → (k e : ℕ) → bit needed k ≡ true → e < 64 → (bit iotas (position x) || eqb e (element x)) ≡ true
            → gone left e k ≡ true
        frees t k e f g o =
            let s = sx.at in let l = earlier (position x) k sx.at f in
            held k e (omega arith) g (λ j c m.
            let small = count-le k in
            implies (follows_by iotas bound (k * 64 + j) x) (has_come left (k * 64 + j))
            (each→ awaited (steps_by n vlr iotas) t (k * 64 + j) (step→mem (k * 64 + j) (step-at k j (omega arith) c)))
            (follows-at k j (omega arith) f (which (bit iotas k) (bit iotas (position x)) j e (element x) m o)))
          where
            which : (a b : Bool) (j d y : ℕ) → (a || eqb j d) ≡ true → (b || eqb d y) ≡ true → (a || b || eqb j y) ≡ true
            which true b j d y u v = refl
            which false true j d y u v = refl
            which false false j d y u v = eq-eqb j y (eqb-true j d u ∙ eqb-true d y v)

        -- x waits for no position: every step that it must follow has come
        follows-come : (a : ℕ) → IsStep n vlr iotas a → follows_by iotas bound a x ≡ true
            → ((e : ℕ) → e < 64 → (bit iotas (position x) || eqb e (element x)) ≡ true → bit needed (position a) ≡ true → gone left e (position a) ≡ true)
            → has_come left a ≡ true
        unfolding follows_by
        follows-come a sa f w =
            let u = both (bit needed (position a)) (bit iotas (position a) || bit iotas (position x) || eqb (element a) (element x)) f in
            go (bit iotas (position a)) (bit iotas (position x)) refl refl u.1 u.0
          where
            go : (ia ix : Bool) → bit iotas (position a) ≡ ia → bit iotas (position x) ≡ ix → (ia || ix || eqb (element a) (element x)) ≡ true
                → bit needed (position a) ≡ true → has_come left a ≡ true
            go ia true za zx o v = w (element a) (omega arith) (ap (λ (b : Bool). b || eqb (element a) (element x)) zx) v
            go true false za zx o v =
                ap (λ (e : ℕ). gone left e (position a)) (first a sa za)
                ∙ sym (inv.alike (position a) (element x) sa.at za (omega arith))
                ∙ w (element x) (omega arith) (ap₂ (λ (p q : Bool). p || q) zx (eq-eqb (element x) (element x) refl)) v
            go false false za zx o v = w (element a) (omega arith) (ap₂ (λ (p q : Bool). p || q) zx o) v

        -- the sets that the code looks at
        abbrev seen : Bool → ℕ
        seen b = pick b (somewhere left 64) (get_or left (element x) 0)

        seen→ : (b : Bool) → bit iotas (position x) ≡ b → (k : ℕ) → not (bit (seen b) k) ≡ true → (e : ℕ) → e < 64
            → (bit iotas (position x) || eqb e (element x)) ≡ true → gone left e k ≡ true
        seen→ true z k f e g o = somewhere→ left 64 k f e g
        seen→ false z k f e g o = ap (λ (j : ℕ). gone left j k) (eqb-true e (element x) (sym (ap (λ (b : Bool). b || eqb e (element x)) z) ∙ o)) ∙ f

        →seen : (b : Bool) → bit iotas (position x) ≡ b → (k : ℕ)
            → ((e : ℕ) → e < 64 → (bit iotas (position x) || eqb e (element x)) ≡ true → gone left e k ≡ true) → not (bit (seen b) k) ≡ true
        →seen true z k f = →somewhere left 64 k (λ e g. f e g (ap (λ (b : Bool). b || eqb e (element x)) z))
        →seen false z k f = f (element x) (omega arith) (ap₂ (λ (p q : Bool). p || q) z (eq-eqb (element x) (element x) refl))

        due-same : (b : Bool) → bit iotas (position x) ≡ b → each awaited (steps_by n vlr iotas) ≡ apart needed (seen b)
        due-same b z =
            same_bool (each awaited (steps_by n vlr iotas)) (apart needed (seen b))
            (λ t. T_true _ (→apart needed (seen b) (λ k f. →seen b z k (λ e g o. frees t k e f g o))))
            (λ t. →each awaited (steps_by n vlr iotas) (λ a m.
            implied (follows_by iotas bound a x) (has_come left a) (λ f.
            follows-come a (mem→step a m) f (λ e g o v. seen→ b z (position a) (apart→ needed (seen b) (true-T _ t) (position a) v) e g o))))

        -- x itself
        fresh-same : (b : Bool) → bit iotas (position x) ≡ b → not (bit (seen b) (position x)) ≡ has_come left x
        fresh-same false z = refl
        fresh-same true z =
            same_bool (not (bit (somewhere left 64) (position x))) (has_come left x)
            (λ t. T_true _ (somewhere→ left 64 (position x) (true-T _ t) (element x) (omega arith)))
            (λ t. T_true _ (→somewhere left 64 (position x) (λ e g.
            inv.alike (position x) e sx.at z g ∙ sym (ap (λ (j : ℕ). gone left j (position x)) (first x sx z)) ∙ true-T _ t)))

        entry-same : (b : Bool) → bit iotas (position x) ≡ b
            → (not (has_come left x) && each awaited (steps_by n vlr iotas)) ≡ due needed (seen b) (position x)
        entry-same b z = ap₂ (λ (u v : Bool). u && v) (ap not (sym (fresh-same b z)) ∙ not-not (bit (seen b) (position x))) (due-same b z)

      -- THE CODE'S TEST IS THE CHECK'S
      may-same : (x : ℕ) → may_by (follows_by iotas bound) (steps_by n vlr iotas) (has_come left) x ≡ may_come n iotas bound left x
      unfolding may_by may_come is_step_by
      may-same x =
          ap (λ (b : Bool). b && (not (has_come left x) && each (λ (a : ℕ). not (follows_by iotas bound a x) || has_come left a) (steps_by n vlr iotas)))
          (has-step x)
          ∙ go (dec_lt (position x) n) (bit iotas (position x)) refl
        where
          rest : Bool
          rest = not (has_come left x) && each (λ (a : ℕ). not (follows_by iotas bound a x) || has_come left a) (steps_by n vlr iotas)

          core : position x < n → (b : Bool) → bit iotas (position x) ≡ b
              → (ltb (element x) (pick b 1 vlr) && rest)
              ≡ pick b (eqb (element x) 0 && due (get_or bound (position x) 0) (somewhere left 64) (position x))
              (due (get_or bound (position x) 0) (get_or left (element x) 0) (position x))
          core h true z = by (ℕ_discrete (element x) 0)
            where
              by : Dec (element x ≡ 0) → (ltb (element x) 1 && rest) ≡
                  (eqb (element x) 0 && due (get_or bound (position x) 0) (somewhere left 64) (position x))
              by (yes e) =
                  ap (λ (t : Bool). t && rest) (lt-ltb (element x) 1 (omega arith))
                  ∙ entry-same x (record { at = h; of = subst (λ (b : Bool). element x < pick b 1 vlr) (sym z) (omega arith) }) true z
                  ∙ sym (ap (λ (t : Bool). t && due (get_or bound (position x) 0) (somewhere left 64) (position x)) (eq-eqb (element x) 0 e))
              by (no e) =
                  ap (λ (t : Bool). t && rest) (le-ltb (element x) 1 (omega arith))
                  ∙ sym (ap (λ (t : Bool). t && due (get_or bound (position x) 0) (somewhere left 64) (position x)) (ne_eqb (element x) 0 e))
          core h false z = by (dec_lt (element x) vlr)
            where
              by : Dec (element x < vlr) → (ltb (element x) vlr && rest) ≡ due (get_or bound (position x) 0) (get_or left (element x) 0) (position x)
              by (yes e) =
                  ap (λ (t : Bool). t && rest) (lt-ltb (element x) vlr e)
                  ∙ entry-same x (record { at = h; of = subst (λ (b : Bool). element x < pick b 1 vlr) (sym z) e }) false z
              by (no e) =
                  ap (λ (t : Bool). t && rest) (le-ltb (element x) vlr (omega arith))
                  ∙ sym (ap (λ (t : Bool). t && apart (get_or bound (position x) 0) (get_or left (element x) 0))
                  (sym (not-not (bit (get_or left (element x) 0) (position x)))
                  ∙ ap not (inv.beyond (position x) (element x) h z (omega arith) (omega arith))))

          go : Dec (position x < n) → (b : Bool) → bit iotas (position x) ≡ b
              → ((ltb (position x) n && ltb (element x) (count_by vlr iotas (position x))) && rest)
              ≡ (ltb (position x) n && pick (bit iotas (position x)) (eqb (element x) 0 && due (get_or bound (position x) 0) (somewhere left 64) (position x))
              (due (get_or bound (position x) 0) (get_or left (element x) 0) (position x)))
          go (yes h) b z =
              ap₂ (λ (t c : Bool). (t && ltb (element x) (pick c 1 vlr)) && rest) (lt-ltb (position x) n h) z
              ∙ core h b z
              ∙ sym (ap₂ (λ (t c : Bool). t && pick c (eqb (element x) 0 && due (get_or bound (position x) 0) (somewhere left 64) (position x))
              (due (get_or bound (position x) 0) (get_or left (element x) 0) (position x))) (lt-ltb (position x) n h) z)
          go (no h) b z =
              ap (λ (t : Bool). (t && ltb (element x) (count_by vlr iotas (position x))) && rest) (le-ltb (position x) n (omega arith))
              ∙ sym (ap (λ (t : Bool). t && pick (bit iotas (position x))
              (eqb (element x) 0 && due (get_or bound (position x) 0) (somewhere left 64) (position x))
              (due (get_or bound (position x) 0) (get_or left (element x) 0) (position x))) (le-ltb (position x) n (omega arith)))

      -- ---- the code's answers
      pub entry-stops : i < length list → may_come n iotas bound left (get_or list i 0) ≡ false → Err i ≡ verdict_by n vlr iotas bound list
      unfolding verdict_by
      entry-stops h e = check-stop (follows_by iotas bound) (steps_by n vlr iotas) list (has_come left) i inv.on h (may-same (get_or list i 0) ∙ e)

      -- no step is missing exactly where no element waits for a position of the queue
      complete : each (has_come left) (steps_by n vlr iotas) ≡ apart (2 ^ n - 1) (somewhere left 64)
      complete =
          same_bool (each (has_come left) (steps_by n vlr iotas)) (apart (2 ^ n - 1) (somewhere left 64))
          (λ t. T_true _ (→apart (2 ^ n - 1) (somewhere left 64) (λ k b.
          let h = ltb-true k n (sym (bit_below n k) ∙ b) in
          →somewhere left 64 k (λ e g. held k e h g (λ j c m. true-T _
          (each→ (has_come left) (steps_by n vlr iotas) t (k * 64 + j) (step→mem (k * 64 + j) (step-at k j h c))))))))
          (λ t. →each (has_come left) (steps_by n vlr iotas) (λ a mem.
          let s = mem→step a mem in
          T_true _ (somewhere→ left 64 (position a) (apart→ (2 ^ n - 1) (somewhere left 64) (true-T _ t) (position a)
          (bit_below n (position a) ∙ lt-ltb (position a) n s.at)) (element a) (omega arith))))

      pub list-ends : length list ≤ i → (v : Verdict) → v ≡ pick (apart (2 ^ n - 1) (somewhere left 64)) (Ok tt) (Err i)
          → v ≡ verdict_by n vlr iotas bound list
      unfolding verdict_by
      list-ends h v e =
          e ∙ ap (λ (t : Bool). pick t (Ok tt) (Err i)) (sym complete)
          ∙ sym (check-end (follows_by iotas bound) (steps_by n vlr iotas) list (has_come left) i inv.on h)

      -- ---- an entry that may come
      module _ (h : i < length list) (may : may_come n iotas bound left (get_or list i 0) ≡ true) where
        entry-step : IsStep n vlr iotas (get_or list i 0)
        unfolding may_by
        entry-step =
            mem→step (get_or list i 0) (has→mem (get_or list i 0) (steps_by n vlr iotas)
            (T_true _ (both (has (get_or list i 0) (steps_by n vlr iotas)) _ (may-same (get_or list i 0) ∙ may)).0))

        module _ (left' : List ℕ) (comes : Struck (bit iotas (position (get_or list i 0))) (get_or list i 0) left left') where
          abbrev x : ℕ
          x = get_or list i 0

          new-bit : (e k : ℕ) → e < 64 → gone left' e k ≡ ((bit iotas (position (get_or list i 0)) || eqb e (element (get_or list i 0))) && eqb k
              (position (get_or list i 0)) || gone left e k)
          new-bit = comes.sets

          -- no other step has come with it
          alone : (y : ℕ) → IsStep n vlr iotas y → ((bit iotas (position (get_or list i 0)) || eqb (element y) (element (get_or list i 0))) && eqb (position y)
              (position (get_or list i 0))) ≡ eqb y (get_or list i 0)
          alone y s = go (ℕ_discrete y (get_or list i 0)) (ℕ_discrete (position y) (position (get_or list i 0))) (bit iotas (position (get_or list i 0))) refl
            where
              go : Dec (y ≡ get_or list i 0) → Dec (position y ≡ position (get_or list i 0)) → (b : Bool) → bit iotas (position (get_or list i 0)) ≡ b
                  → ((bit iotas (position (get_or list i 0)) || eqb (element y) (element (get_or list i 0))) && eqb (position y) (position (get_or list i 0)))
                  ≡ eqb y (get_or list i 0)
              go (yes e) d b z =
                  ap₂ (λ (u v : Bool). (bit iotas (position (get_or list i 0)) || u) && v) (eq-eqb (element y) (element (get_or list i 0)) (ap element e))
                  (eq-eqb (position y) (position (get_or list i 0)) (ap position e))
                  ∙ ap (λ (u : Bool). u && true) (or-true (bit iotas (position (get_or list i 0))))
                  ∙ sym (eq-eqb y (get_or list i 0) e)
              go (no e) (no d) b z =
                  ap (λ (v : Bool). (bit iotas (position (get_or list i 0)) || eqb (element y) (element (get_or list i 0))) && v)
                  (ne_eqb (position y) (position (get_or list i 0)) d)
                  ∙ and-false (bit iotas (position (get_or list i 0)) || eqb (element y) (element (get_or list i 0)))
                  ∙ sym (ne_eqb y (get_or list i 0) e)
              go (no e) (yes d) true z =
                  let a = first y s (ap (bit iotas) d ∙ z) in let b = first (get_or list i 0) entry-step z in
                  absurd (e (omega arith))
              go (no e) (yes d) false z =
                  ap₂ (λ (u v : Bool). (u || v) && eqb (position y) (position (get_or list i 0))) z
                  (ne_eqb (element y) (element (get_or list i 0)) (λ w. e (omega arith)))
                  ∙ sym (ne_eqb y (get_or list i 0) e)

          pub entry-taken : Marked n vlr iotas bound list left' (i + 1)
          entry-taken = record {
            on = check-on (follows_by iotas bound) (steps_by n vlr iotas) list (has_come left) i inv.on h (may-same x ∙ may) (has_come left')
                (λ y m. new-bit (element y) (position y) (omega arith) ∙ ap (λ (b : Bool). b || has_come left y) (alone y (mem→step y m)));
            beyond = λ k e l z a b. new-bit e k b ∙ ap (λ (t : Bool). (bit iotas (position x) || eqb e (element x)) && eqb k (position x) || t)
                (inv.beyond k e l z a b) ∙ or-true ((bit iotas (position x) || eqb e (element x)) && eqb k (position x));
            alike = λ k e l z g. new-bit e k g ∙ both_ways k e l z g (ℕ_discrete k (position x)) ∙ sym (new-bit 0 k (omega arith));
          }
            where
              both_ways : (k e : ℕ) → k < n → bit iotas k ≡ true → e < 64 → Dec (k ≡ position (get_or list i 0))
                  → ((bit iotas (position (get_or list i 0)) || eqb e (element (get_or list i 0))) && eqb k (position (get_or list i 0)) || gone left e k)
                  ≡ ((bit iotas (position (get_or list i 0)) || eqb 0 (element (get_or list i 0))) && eqb k (position (get_or list i 0)) || gone left 0 k)
              both_ways k e l z g (yes d) =
                  let y : bit iotas (position (get_or list i 0)) ≡ true = ap (bit iotas) (sym d) ∙ z in
                  ap₂ (λ (u v : Bool). (u || eqb e (element (get_or list i 0))) && v || gone left e k) y (eq-eqb k (position (get_or list i 0)) d)
                  ∙ sym (ap₂ (λ (u v : Bool). (u || eqb 0 (element (get_or list i 0))) && v || gone left 0 k) y (eq-eqb k (position (get_or list i 0)) d))
              both_ways k e l z g (no d) =
                  aside (bit iotas (position (get_or list i 0)) || eqb e (element (get_or list i 0))) (gone left e k)
                  ∙ inv.alike k e l z g
                  ∙ sym (aside (bit iotas (position (get_or list i 0)) || eqb 0 (element (get_or list i 0))) (gone left 0 k))
                where
                  aside : (a b : Bool) → (a && eqb k (position (get_or list i 0)) || b) ≡ b
                  aside a b = ap (λ (v : Bool). a && v || b) (ne_eqb k (position (get_or list i 0)) d) ∙ ap (λ (v : Bool). v || b) (and-false a)

    -- ---- entries that come one after the other
    module _ (list left : List ℕ) (i : ℕ) (inv : Marked n vlr iotas bound list left i) where
      pub taken-marked : (left' : List ℕ) (j : ℕ) → StretchTaken n iotas bound list left i left' j → Marked n vlr iotas bound list left' j
      taken-marked = along n iotas bound list (Marked n vlr iotas bound list) (λ l l' k m h c. entry-taken list l k m h c.may l' c.struck) left i inv

    -- ---- at the start nothing has come
    module _ (list left : List ℕ) (starts : Started vlr iotas (replicate 64 18446744073709551615) left) where
      low : (e k : ℕ) → k < 64 → e < vlr → gone left e k ≡ false
      low e k h l =
          ap not (ap (λ (v : ℕ). bit v k) (starts.low e l ∙ get_or-replicate 64 e 18446744073709551615 0 (omega arith)) ∙ bit_below 64 k ∙ lt-ltb k 64 h)

      high : (e k : ℕ) → vlr ≤ e → e < 64 → gone left e k ≡ not (eqb k sentinel || bit iotas k)
      high e k l g = ap not (ap (λ (v : ℕ). bit v k) (starts.high e l g) ∙ bit-joined iotas sentinel k)

      high-at : (e k : ℕ) → k < n → vlr ≤ e → e < 64 → gone left e k ≡ not (bit iotas k)
      high-at e k h l g = high e k l g ∙ ap (λ (t : Bool). not (t || bit iotas k)) (ne_eqb k sentinel (λ z. omega arith))

      off : (e k : ℕ) → k < n → bit iotas k ≡ true → e < 64 → gone left e k ≡ false
      off e k h z g = go (dec_lt e vlr)
        where
          go : Dec (e < vlr) → gone left e k ≡ false
          go (yes l) = low e k (omega arith) l
          go (no l) = high-at e k h (omega arith) g ∙ ap not z

      none_came : (y : ℕ) → IsStep n vlr iotas y → has_come left y ≡ false
      none_came y s = go (bit iotas (position y)) refl
        where
          go : (b : Bool) → bit iotas (position y) ≡ b → has_come left y ≡ false
          go true z = off (element y) (position y) s.at z (omega arith)
          go false z = let h = s.at in low (element y) (position y) (omega arith) (subst (λ (b : Bool). element y < pick b 1 vlr) z s.of)

      pub pass-starts : Marked n vlr iotas bound list left 0
      pass-starts = record {
        on = check-start (follows_by iotas bound) (steps_by n vlr iotas) list (has_come left) (λ y m. none_came y (mem→step y m));
        beyond = λ k e h z l g. high-at e k h l g ∙ ap not z;
        alike = λ k e h z g. off e k h z g ∙ sym (off 0 k h z (omega arith));
      }
