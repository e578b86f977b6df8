-- The sets at the start, as the code writes them. Assumes nothing.
use mathlib.Core.Path.{◌≡◌, refl, ap, ◌∙◌}
use mathlib.Core.Bool.{Bool, false, not, ◌||◌}
use mathlib.Core.List.{List}
use Prim.Native.Nat.{ℕ, ◌-◌, ◌<◌, ◌≤◌}
use native.Mathlib.Omega.{arith}
use native.Mathlib.Decide.{dec_lt}
use lib.ListN.{length, get_or}
use Rattle.numbers.specs.Bits.{bit}
use borrow.Author.Rules.{rules}
use borrow.Author.Tests.{eq-eqb}
use borrow.Rule.Slice.PartMut.{put_mid}
use Rattle.std.proofs.lemmas.List.{places}
use Rattle.order.specs.SetsWorking.{joined, gone, sentinel, Started}
use Rattle.order.proofs.Sets.{bit-joined}

-- at the start, where the sets of the elements from VLR on are written
pub starts : (old : List ℕ) (vlr iotas : ℕ) (part : List ℕ) → length old ≡ 64 → vlr ≤ 64 → length part ≡ 64 - vlr
    → ((k : ℕ) → k < length part → get_or part k 0 ≡ joined iotas sentinel) → Started vlr iotas old (put_mid vlr (64 - vlr) old part)
starts old vlr iotas part long short rest written = record {
  long = search (rules, places);
  low = λ e h. search (rules, places);
  high = λ e h g. search (rules, places, written);
}

pub starts-stay : (old : List ℕ) (vlr iotas : ℕ) (new : List ℕ) → Started vlr iotas old new
    → ((e : ℕ) → e < 64 → gone old e sentinel ≡ false) → (e : ℕ) → e < 64 → gone new e sentinel ≡ false
starts-stay old vlr iotas new s stays e h = go (dec_lt e vlr)
  where
    go : Dec (e < vlr) → gone new e sentinel ≡ false
    go (yes l) = ap (λ (v : ℕ). not (bit v sentinel)) (s.low e l) ∙ stays e h
    go (no l) =
        ap (λ (v : ℕ). not (bit v sentinel)) (s.high e (omega arith) h) ∙ ap not (bit-joined iotas sentinel sentinel)
        ∙ ap (λ (t : Bool). not (t || bit iotas sentinel)) (eq-eqb sentinel sentinel refl)
