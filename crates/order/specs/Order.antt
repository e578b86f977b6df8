-- An order list of steps: the check that goes through it once from left to right, what its answers mean, and the run of a list.
-- Document 01, "Queues and orders": number 9 names the first entry that is no step, or a repeat, or comes while a step it must follow has not yet come;
-- or, if there is no such entry, the list's length if steps are missing.
use Rattle.std.specs.Prelude.{◌≡◌, ◌⊎◌, Bool, true, false, not, ◌&&◌, ◌||◌, List, [], ◌∷◌, ℕ, suc, ◌<◌, T, eqb, length, get_or, take, Result, Ok, Err, ⊤}
use Rattle.numbers.specs.Choice.{pick}

-- what the check says of a list: it is permitted, or refused with a place in it
abbrev pub Verdict : Type 0
Verdict = Result ⊤ ℕ

-- x is one of l
abbrev pub Mem : ℕ → List ℕ → Type 0
Mem x [] = ⊥
Mem x (y ∷ l) = (x ≡ y) ⊎ Mem x l

-- the test of it
unfoldable pub has : ℕ → List ℕ → Bool
has x [] = false
has x (y ∷ l) = eqb x y || has x l

-- the test p passes at each of l
unfoldable pub each : (ℕ → Bool) → List ℕ → Bool
each p [] = true
each p (x ∷ l) = p x && each p l

-- the steps of a list, one after the other: each is done on what the last one left
unfoldable pub run : {S : Type 0} → (ℕ → S → S) → List ℕ → S → S
run f [] s = s
run f (x ∷ l) s = run f l (f x s)

module _ (before : ℕ → ℕ → Bool) (steps : List ℕ) where
  -- each step that must come before x has come
  unfoldable pub ready : List ℕ → ℕ → Bool
  ready seen x = each (λ (a : ℕ). not (before a x) || has a seen) steps

  -- x is a step, has not come yet, and may come now
  unfoldable pub ok : List ℕ → ℕ → Bool
  ok seen x = has x steps && (not (has x seen) && ready seen x)

  -- the check from position i on, where `seen` has come and the list is left
  unfoldable pub check_from : List ℕ → ℕ → List ℕ → Verdict
  check_from seen i [] = pick (each (λ (a : ℕ). has a seen) steps) (Ok tt) (Err i)
  check_from seen i (x ∷ l) = pick (ok seen x) (check_from (x ∷ seen) (suc i) l) (Err i)

  unfoldable pub check : List ℕ → Verdict
  check l = check_from [] 0 l

  -- ---- what the answers mean
  -- the entry at k is a step, no repeat, and each step that it must follow has come
  pub record GoodAt (l : List ℕ) (k : ℕ) : Type 0 where
    pub a-step : Mem (get_or l k 0) steps
    pub fresh : Mem (get_or l k 0) (take k l) → ⊥
    pub after : (a : ℕ) → Mem a steps → T (before a (get_or l k 0)) → Mem a (take k l)

  -- the answer is right: Ok, permitted, where every entry is good and no step is missing; Err p, refused at p, where every entry before p is good, and
  -- p is the place of an entry that is not, or the list's length where a step is missing
  abbrev pub Right : List ℕ → Verdict → Type 0
  Right l (Ok _) = ((k : ℕ) → k < length l → GoodAt l k) × ((a : ℕ) → Mem a steps → Mem a l)
  Right l (Err p) =
      ((k : ℕ) → k < p → GoodAt l k)
      × (((p < length l) × (GoodAt l p → ⊥)) ⊎ ((p ≡ length l) × ((a : ℕ) × Mem a steps × (Mem a l → ⊥))))

  -- the plain demand on a permitted list: every step once and nothing else, and two steps in queue order where one must follow the other
  pub record Proper (l : List ℕ) : Type 0 where
    pub only : (k : ℕ) → k < length l → Mem (get_or l k 0) steps
    pub once : (j k : ℕ) → j < length l → k < length l → get_or l j 0 ≡ get_or l k 0 → j ≡ k
    pub all : (a : ℕ) → Mem a steps → (k : ℕ) × (k < length l) × (get_or l k 0 ≡ a)
    pub order : (j k : ℕ) → j < length l → k < length l → T (before (get_or l j 0) (get_or l k 0)) → j < k
