-- What the code of the check computes with: sets of positions, one for each element (proofs/Marking.antt proves that they give the check of specs/Order.antt).
-- A set of positions is a number whose bit k says that position k is in it. No promise of a call cites it.
use Rattle.std.specs.Prelude.{◌≡◌, Bool, true, false, not, ◌&&◌, ◌||◌, List, ℕ, zero, suc, ◌+◌, ◌-◌, ◌*◌, ◌^◌, ◌<◌, ◌≤◌, ltb, eqb, length, get_or}
use Rattle.std.specs.Int.Bits.{bit_and, bit_or, bit_xor}
use Rattle.numbers.specs.Choice.{pick}
use Rattle.numbers.specs.Bits.{bit}
use Rattle.order.specs.Order.{Verdict, check}
use Rattle.order.specs.Steps.{position, element, passing}

-- position k joins a set
abbrev pub joined : ℕ → ℕ → ℕ
joined s k = bit_or s (2 ^ k)

-- position k leaves a set
abbrev pub parted : ℕ → ℕ → ℕ
parted s k = bit_xor (joined s k) (2 ^ k)

-- no position is in both sets
abbrev pub apart : ℕ → ℕ → Bool
apart a b = eqb (bit_and a b) 0

-- ---- steps, from the size of the queue, VLR and the set of its IOTAs
abbrev pub count_by : ℕ → ℕ → ℕ → ℕ
count_by vlr iotas k = pick (bit iotas k) 1 vlr

unfoldable pub is_step_by : ℕ → ℕ → ℕ → ℕ → Bool
is_step_by n vlr iotas x = ltb (position x) n && ltb (element x) (count_by vlr iotas (position x))

unfoldable pub steps_by : ℕ → ℕ → ℕ → List ℕ
steps_by n vlr iotas = passing (is_step_by n vlr iotas) 0 (n * 64)

-- and which must follow which, from the set of the positions that each one is bound to
unfoldable pub follows_by : ℕ → List ℕ → ℕ → ℕ → Bool
follows_by iotas bound a x =
    bit (get_or bound (position x) 0) (position a) && (bit iotas (position a) || bit iotas (position x) || eqb (element a) (element x))

unfoldable pub verdict_by : ℕ → ℕ → ℕ → List ℕ → List ℕ → Verdict
verdict_by n vlr iotas bound list = check (follows_by iotas bound) (steps_by n vlr iotas) list

-- ---- what is left: for each element the set of the positions whose step of it has not come; an IOTA's stays in each until its one step comes
-- element e waits for position k no more
abbrev pub gone : List ℕ → ℕ → ℕ → Bool
gone left e k = not (bit (get_or left e 0) k)

-- the step x has come
abbrev pub has_come : List ℕ → ℕ → Bool
has_come left x = gone left (element x) (position x)

-- the positions that one of the first n elements still waits for
unfoldable pub somewhere : List ℕ → ℕ → ℕ
somewhere left zero = 0
somewhere left (suc n) = bit_or (somewhere left n) (get_or left n 0)

-- position p is left, and none that it is bound to is
abbrev pub due : ℕ → ℕ → ℕ → Bool
due bound left p = bit left p && apart bound left

-- a position that no queue has: it is left at every element to the end
abbrev pub sentinel : ℕ
sentinel = 63

-- a position and those that it is bound to: its step may come where of these only itself is left. An IOTA's step waits for every element: its group is a
-- position that is always left, so that it is never seen to come by it
abbrev pub group_of : ℕ → List ℕ → ℕ → ℕ
group_of iotas bound k = pick (bit iotas k) (2 ^ sentinel) (joined (get_or bound k 0) k)

-- x may come next: IOTA's one step waits for every element, any other for its own
unfoldable pub may_come : ℕ → ℕ → List ℕ → List ℕ → ℕ → Bool
may_come n iotas bound left x =
    ltb (position x) n
    && pick (bit iotas (position x))
    (eqb (element x) 0 && due (get_or bound (position x) 0) (somewhere left 64) (position x))
    (due (get_or bound (position x) 0) (get_or left (element x) 0) (position x))

-- the step x is struck off what is left: that of an IOTA at every element
pub record Struck (iota : Bool) (x : ℕ) (left left' : List ℕ) : Type 0 where
  pub long : length left' ≡ length left
  pub sets : (e k : ℕ) → e < 64 → gone left' e k ≡ ((iota || eqb e (element x)) && eqb k (position x) || gone left e k)

-- the entry x is taken: its step may come, and is struck off
pub record EntryTaken (n iotas : ℕ) (bound : List ℕ) (x : ℕ) (left left' : List ℕ) : Type 0 where
  pub may : may_come n iotas bound left x ≡ true
  pub struck : Struck (bit iotas (position x)) x left left'

-- the entry x is tried: seen to come, it is taken; not seen, nothing has changed
pub record EntryTried (seen : Bool) (n iotas : ℕ) (bound : List ℕ) (x : ℕ) (left left' : List ℕ) : Type 0 where
  pub taken : seen ≡ true → EntryTaken n iotas bound x left left'
  pub same : seen ≡ false → left' ≡ left

-- one entry more is taken, after those before it
pub record OneMoreTaken (before : List ℕ → Type 0) (n iotas : ℕ) (bound : List ℕ) (x : ℕ) (left' : List ℕ) : Type 0 where
  pub left : List ℕ
  pub so_far : before left
  pub taken : EntryTaken n iotas bound x left left'

-- the k entries of a list from i on are taken, one after the other
unfoldable pub EntriesTaken : ℕ → ℕ → List ℕ → List ℕ → List ℕ → ℕ → List ℕ → ℕ → Type 0
EntriesTaken n iotas bound list left i left' zero = left' ≡ left
EntriesTaken n iotas bound list left i left' (suc k) =
    OneMoreTaken (λ (mid : List ℕ). EntriesTaken n iotas bound list left i mid k) n iotas bound (get_or list (i + k) 0) left'

-- a stretch of a list is taken: the entries from i up to j, without j
pub record StretchTaken (n iotas : ℕ) (bound list left : List ℕ) (i : ℕ) (left' : List ℕ) (j : ℕ) : Type 0 where
  pub forth : i ≤ j
  pub inside : j ≤ length list
  pub on : EntriesTaken n iotas bound list left i left' (j - i)

-- at the start: of the queue's positions only IOTAs are left from VLR on
pub record Started (vlr iotas : ℕ) (left left' : List ℕ) : Type 0 where
  pub long : length left' ≡ length left
  pub low : (e : ℕ) → e < vlr → get_or left' e 0 ≡ get_or left e 0
  pub high : (e : ℕ) → vlr ≤ e → e < 64 → get_or left' e 0 ≡ joined iotas sentinel
