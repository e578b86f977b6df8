-- An entry of an order list is taken or refused, and entries are taken one after the other, as the code does it. Assumes nothing.
use mathlib.Core.Path.{◌≡◌, refl, sym, ap, ap₂, subst, ◌∙◌}
use mathlib.Core.Bool.{Bool, beq, true, false, not, ◌&&◌, ◌||◌, and-false, not-not}
use mathlib.Core.List.{List}
use Prim.Native.Nat.{ℕ, zero, suc, ◌+◌, ◌-◌, ◌*◌, ◌%◌, ◌^◌, ◌<◌, ◌≤◌}
use native.Mathlib.Omega.{arith}
use native.Mathlib.Numerals.{add-one}
use native.Mathlib.Decide.{ℕ_discrete}
use borrow.Author.Tests.{eq-eqb, ne_eqb, lt-ltb, le-ltb, ltb-true}
use lib.Dec.{T, eqb, ltb}
use lib.Bits.{bit_xor}
use lib.ListN.{length, get_or, set, length-set}
use lib.Seq.{get_or-set_same, get_or-set_other}
use Rattle.numbers.specs.Choice.{pick}
use Rattle.numbers.specs.Bits.{bit}
use Rattle.numbers.proofs.BitLaws.{one_shifted}
use Rattle.numbers.proofs.Tests.{true-not-false}
use Rattle.order.specs.Steps.{position, element}
use Rattle.order.specs.SetsWorking.{joined, parted, apart, gone, somewhere, due, sentinel, group_of, may_come, Struck, EntryTaken, EntryTried}
use Rattle.order.specs.SetsWorking.{EntriesTaken, StretchTaken}
use Rattle.order.proofs.Tests.{both}
use Rattle.order.proofs.Sets.{bit-one, bit-parted, bit-flipped, flipped-out, apart→}
use Rattle.order.proofs.Groups.{alone→due}

-- a refused entry does not come
pub refuses : {A : Type 0} (t : Bool) → t ≡ false → (false ≡ t) × (false ≡ true → A)
refuses t e = (sym e, λ f. absurd (subst T (sym f) tt))

-- the step of one element, where its position is left
step-struck : (left : List ℕ) (x flipped : ℕ) → length left ≡ 64 → bit (get_or left (element x) 0) (position x) ≡ true
    → flipped ≡ bit_xor (get_or left (element x) 0) (2 ^ position x) → Struck false x left (set left (element x) flipped)
step-struck left x flipped long is t = record { long = simp length-set; sets = λ e k g. go e k (ℕ_discrete e (element x)) }
  where
    go : (e k : ℕ) → Dec (e ≡ element x) → gone (set left (element x) flipped) e k ≡ (eqb e (element x) && eqb k (position x) || gone left e k)
    go e k (yes z) =
        ap (λ (j : ℕ). gone (set left (element x) flipped) j k) z
        ∙ ap (λ (v : ℕ). not (bit v k)) (get_or-set_same left (element x) flipped 0 (omega arith) ∙ t)
        ∙ flipped-out (get_or left (element x) 0) (position x) is k
        ∙ sym (ap₂ (λ (b : Bool) (j : ℕ). b && eqb k (position x) || gone left j k) (eq-eqb e (element x) z) z)
    go e k (no z) =
        ap (λ (v : ℕ). not (bit v k)) (get_or-set_other left (element x) e flipped 0 z)
        ∙ sym (ap (λ (b : Bool). b && eqb k (position x) || gone left e k) (ne_eqb e (element x) z))

-- IOTA's, for every element
pub iota-struck : (left left' : List ℕ) (x : ℕ) → length left' ≡ length left
    → ((e : ℕ) → e < 64 → get_or left' e 0 ≡ parted (get_or left e 0) (position x)) → Struck true x left left'
iota-struck left left' x long r = record {
  long = long;
  sets = λ e k g. ap (λ (v : ℕ). not (bit v k)) (r e g) ∙ bit-parted (get_or left e 0) (position x) k;
}

-- ---- the test
module _ (n iotas : ℕ) (bound left : List ℕ) (x : ℕ) where
  abbrev by_kind : Bool → Bool
  by_kind b =
      pick b (eqb (element x) 0 && due (get_or bound (position x) 0) (somewhere left 64) (position x))
      (due (get_or bound (position x) 0) (get_or left (element x) 0) (position x))

  pub may-not : n ≤ position x → may_come n iotas bound left x ≡ false
  unfolding may_come
  may-not h = ap (λ (t : Bool). t && by_kind (bit iotas (position x))) (le-ltb (position x) n h)

  pub may-by : (left' : List ℕ) → position x < n → (i b r : Bool) → i ≡ bit iotas (position x) → i ≡ b
      → (r ≡ by_kind b) × (r ≡ true → Struck b x left left')
      → (r ≡ may_come n iotas bound left x) × (r ≡ true → Struck (bit iotas (position x)) x left left')
  unfolding may_come
  may-by left' h i b r is e g =
      let same : b ≡ bit iotas (position x) = sym e ∙ is in (
        g.0 ∙ ap₂ (λ (t u : Bool). t && by_kind u) (sym (lt-ltb (position x) n h)) same,
        λ f. subst (λ (k : Bool). Struck k x left left') same (g.1 f),
      )

-- IOTA's test
pub iota-tested : (e bound any p : ℕ) (left : List ℕ) (r : Bool) → e ≡ 0 → any ≡ somewhere left 64 → r ≡ due bound any p
    → r ≡ (eqb e 0 && due bound (somewhere left 64) p)
iota-tested e bound any p left r z f h =
    h ∙ ap (λ (s : ℕ). due bound s p) f ∙ sym (ap (λ (b : Bool). b && due bound (somewhere left 64) p) (eq-eqb e 0 z))

-- an entry that may come is at a position of the queue
inside_of : (n iotas : ℕ) (bound left : List ℕ) (x : ℕ) → may_come n iotas bound left x ≡ true → position x < n
unfolding may_come
inside_of n iotas bound left x e = ltb-true (position x) n (both (ltb (position x) n) _ e).0

-- what never comes does not come with it
pub sentinel-stays : (iota : Bool) (x : ℕ) (left left' : List ℕ) → position x < 16 → Struck iota x left left'
    → ((e : ℕ) → e < 64 → gone left e sentinel ≡ false) → (e : ℕ) → e < 64 → gone left' e sentinel ≡ false
sentinel-stays iota x left left' h c s e g =
    c.sets e sentinel g
    ∙ ap₂ (λ (t u : Bool). (iota || eqb e (element x)) && t || u) (ne_eqb sentinel (position x) (λ z. omega arith)) (s e g)
    ∙ ap (λ (t : Bool). t || false) (and-false (iota || eqb e (element x)))

pub still-stays : (n iotas : ℕ) (bound : List ℕ) (x : ℕ) (left left' : List ℕ) → n ≤ 16 → EntryTaken n iotas bound x left left'
    → ((e : ℕ) → e < 64 → gone left e sentinel ≡ false) → (e : ℕ) → e < 64 → gone left' e sentinel ≡ false
still-stays n iotas bound x left left' few c =
    sentinel-stays (bit iotas (position x)) x left left' (let p = inside_of n iotas bound left x c.may in omega arith) c.struck

-- ---- an entry tested by itself, of an instruction that is no IOTA
module _ (n iotas : ℕ) (bound left : List ℕ) (x : ℕ) (few : n ≤ 16) (long : length left ≡ 64) (inside : position x < n)
    (plain : bit iotas (position x) ≡ false) where
  pub not-due : (r : Bool) → r ≡ due (get_or bound (position x) 0) (get_or left (element x) 0) (position x) → r ≡ false → may_come n iotas bound left x ≡ false
  not-due r is e =
      sym (may-by n iotas bound left x left inside (bit iotas (position x)) false r refl plain (is, λ f. absurd (subst T (sym f ∙ e) tt))).0 ∙ e

  pub due-taken : (r : Bool) → r ≡ due (get_or bound (position x) 0) (get_or left (element x) 0) (position x) → r ≡ true
      → (true ≡ may_come n iotas bound left x) × (true ≡ true
      → Struck (bit iotas (position x)) x left (set left (element x) (bit_xor (get_or left (element x) 0) (1 * 2 ^ position x % 18446744073709551616))))
  due-taken r is e =
      may-by n iotas bound left x _ inside (bit iotas (position x)) false true refl plain (
        sym e ∙ is,
        λ f. step-struck left x _ long (both (bit (get_or left (element x) 0) (position x))
            (apart (get_or bound (position x) 0) (get_or left (element x) 0)) (sym is ∙ e)).0
            (ap (bit_xor (get_or left (element x) 0)) (one_shifted (position x) 64 (omega arith))),
      )

-- ---- an entry that is seen to come by its group, where `here` is its element's set
module _ (n iotas : ℕ) (bound left : List ℕ) (x here : ℕ) (few : n ≤ 16) (long : length left ≡ 64) (fetched : here ≡ get_or left (element x) 0)
    (inside : position x < n)
    (group : ℕ) (is : group ≡ group_of iotas bound (position x)) (earlier : (k : ℕ) → bit (get_or bound (position x) 0) k ≡ true → k < position x)
    (stays : gone left (element x) sentinel ≡ false)
  where
    abbrev flipped : ℕ
    flipped = bit_xor here (1 * 2 ^ position x % 18446744073709551616)

    as-power : flipped ≡ bit_xor (get_or left (element x) 0) (2 ^ position x)
    as-power = ap₂ (λ (a b : ℕ). bit_xor a b) fetched (one_shifted (position x) 64 (omega arith))

    abbrev group-by : Bool → ℕ
    group-by t = pick t (2 ^ sentinel) (joined (get_or bound (position x) 0) (position x))

    abbrev free : Bool → Bool
    free t = apart (group-by t) (bit_xor (get_or left (element x) 0) (2 ^ position x))

    as-free : (t : Bool) → bit iotas (position x) ≡ t → apart group flipped ≡ free t
    as-free t z = ap₂ (λ (g v : ℕ). apart g v) (is ∙ ap group-by z) as-power

    -- of an IOTA's group a position is left
    sentinel-not-free : free true ≡ true → ⊥
    sentinel-not-free e =
        true-not-false (sym (ap not (bit-flipped (get_or left (element x) 0) (position x) sentinel
        ∙ ap₂ (λ (b t : Bool). not (beq b t)) is-left (ne_eqb sentinel (position x) (λ z. omega arith))))
        ∙ apart→ (2 ^ sentinel) (bit_xor (get_or left (element x) 0) (2 ^ position x)) e sentinel (bit-one sentinel sentinel))
      where
        is-left : bit (get_or left (element x) 0) sentinel ≡ true
        is-left = sym (not-not (bit (get_or left (element x) 0) sentinel)) ∙ ap not stays

    -- where nothing of the group is left, it is no IOTA's, and its step may come
    free-due : (t : Bool) → bit iotas (position x) ≡ t → apart group flipped ≡ true
        → (t ≡ false) × (due (get_or bound (position x) 0) (get_or left (element x) 0) (position x) ≡ true)
    free-due true z e = absurd (sentinel-not-free (sym (as-free true z) ∙ e))
    free-due false z e = (refl, alone→due (get_or bound (position x) 0) (get_or left (element x) 0) (position x) earlier (sym (as-free false z) ∙ e))

    pub seen-taken : (t : Bool) → t ≡ apart group flipped → t ≡ true → EntryTried true n iotas bound x left (set left (element x) flipped)
    seen-taken t f e =
        let q = free-due (bit iotas (position x)) refl (sym f ∙ e) in
        let left_here = (both (bit (get_or left (element x) 0) (position x)) (apart (get_or bound (position x) 0) (get_or left (element x) 0)) q.1).0 in
        let r = may-by n iotas bound left x (set left (element x) flipped) inside (bit iotas (position x)) false true refl q.0
        (sym q.1, λ g. step-struck left x flipped long left_here as-power) in
        record { taken = λ g. record { may = sym r.0; struck = r.1 refl }; same = λ g. absurd (subst T g tt) }

-- ---- entries that come one after the other
module _ (n iotas : ℕ) (bound list left : List ℕ) (from : ℕ) where
  pub none-taken : from ≤ length list → StretchTaken n iotas bound list left from left from
  unfolding EntriesTaken
  none-taken h = record { forth = omega arith; inside = h; on = subst (EntriesTaken n iotas bound list left from left) none refl }
    where
      none : 0 ≡ from - from
      none = omega arith

  pub more-taken : (mid left' : List ℕ) (i : ℕ) → StretchTaken n iotas bound list left from mid i → i < length list
      → EntryTaken n iotas bound (get_or list i 0) mid left'
      → StretchTaken n iotas bound list left from left' (i + 1)
  unfolding EntriesTaken
  more-taken mid left' i c h m =
      let f = c.forth in
      let k : i - from + 1 ≡ i + 1 - from = omega arith in let j : i ≡ from + (i - from) = omega arith in
      record {
        forth = omega arith;
        inside = omega arith;
        on = subst (EntriesTaken n iotas bound list left from left') (sym (add-one (i - from)) ∙ k)
            (record { left = mid; so_far = c.on; taken = subst (λ (a : ℕ). EntryTaken n iotas bound (get_or list a 0) mid left') j m });
      }

-- what an entry that comes keeps, several keep
pub along : (n iotas : ℕ) (bound list : List ℕ) (P : List ℕ → ℕ → Type 0)
    → ((l l' : List ℕ) (k : ℕ) → P l k → k < length list → EntryTaken n iotas bound (get_or list k 0) l l' → P l' (k + 1))
    → (left : List ℕ) (i : ℕ) → P left i → (left' : List ℕ) (j : ℕ) → StretchTaken n iotas bound list left i left' j → P left' j
unfolding EntriesTaken
along n iotas bound list P one left i p left' j c =
    let f = c.forth in let h = c.inside in let there : i + (j - i) ≡ j = omega arith in
    subst (P left') there (go (j - i) left' (omega arith) c.on)
  where
    go : (k : ℕ) (l : List ℕ) → i + k ≤ length list → EntriesTaken n iotas bound list left i l k → P l (i + k)
    go zero l h o = subst (P l) none (subst (λ (t : List ℕ). P t i) (sym o) p)
      where
        none : i ≡ i + 0
        none = omega arith
    go (suc k) l h o = subst (P l) more (one o.left l (i + k) (go k o.left (omega arith) o.so_far) (omega arith) o.taken)
      where
        more : i + k + 1 ≡ i + suc k
        more = omega arith

-- one stretch after another
pub taken-on : (n iotas : ℕ) (bound list left : List ℕ) (from : ℕ) (mid : List ℕ) (i : ℕ) → StretchTaken n iotas bound list left from mid i
    → (left' : List ℕ) (j : ℕ) → StretchTaken n iotas bound list mid i left' j → StretchTaken n iotas bound list left from left' j
taken-on n iotas bound list left from mid i =
    along n iotas bound list (StretchTaken n iotas bound list left from) (λ l l' k g h c. more-taken n iotas bound list left from l l' k g h c) mid i
