-- Laws of `over`. Assumes nothing.
use mathlib.Core.Path.{◌≡◌, sym, ap, ◌∙◌}
use mathlib.Core.List.{List, ◌++◌, append_assoc}
use Prim.Native.Nat.{ℕ, ◌+◌, ◌-◌, ◌≤◌}
use native.Mathlib.Nat.{add_assoc}
use native.Mathlib.Omega.{arith}
use lib.ListN.{length, take, drop, length-append, length-drop}
use lib.Seq.{take_at, drop_at, drop-drop, length-take-le}
use borrow.Rule.Slice.PartMut.{put_mid, Post-is}
use Rattle.numbers.specs.Over.{over}

-- what stands before the end of what was written
head-length : (l : List ℕ) (at : ℕ) (new : List ℕ) → at + length new ≤ length l → length (take at l ++ new) ≡ at + length new
head-length l at new h =
    let e : length (take at l) ≡ at = length-take-le at l (omega arith) in
    length-append (take at l) new ∙ ap (λ (n : ℕ). n + length new) e

pub take-over : (l : List ℕ) (at : ℕ) (new : List ℕ) → at + length new ≤ length l → take (at + length new) (over l at new) ≡ take at l ++ new
take-over l at new h =
    ap (take (at + length new)) (sym (append_assoc (take at l) new (drop (at + length new) l)))
    ∙ take_at (take at l ++ new) (drop (at + length new) l) (at + length new) (head-length l at new h)

pub drop-over : (l : List ℕ) (at : ℕ) (new : List ℕ) → at + length new ≤ length l → drop (at + length new) (over l at new) ≡ drop (at + length new) l
drop-over l at new h =
    ap (drop (at + length new)) (sym (append_assoc (take at l) new (drop (at + length new) l)))
    ∙ drop_at (take at l ++ new) (drop (at + length new) l) (at + length new) (head-length l at new h)

pub length_over : (l : List ℕ) (at : ℕ) (new : List ℕ) → at + length new ≤ length l → length (over l at new) ≡ length l
length_over l at new h =
    let d : length (drop (at + length new) l) ≡ length l - (at + length new) = length-drop (at + length new) l in
    let t : length (take at l) ≡ at = length-take-le at l (omega arith) in
    simp (length-append) (omega arith)

-- two writings, the second where the first ended, are one
pub over-over : (l : List ℕ) (at : ℕ) (a b : List ℕ) → at + length a ≤ length l → over (over l at a) (at + length a) b ≡ over l at (a ++ b)
over-over l at a b h =
    let d : drop (at + length a + length b) (over l at a) ≡ drop (at + length (a ++ b)) l =
    sym (drop-drop (length b) (at + length a) (over l at a))
    ∙ ap (drop (length b)) (drop-over l at a h)
    ∙ drop-drop (length b) (at + length a) l
    ∙ ap (λ (n : ℕ). drop n l) (add_assoc at (length a) (length b) ∙ ap (λ (n : ℕ). at + n) (sym (length-append a b))) in
    ap (λ (t : List ℕ). t ++ (b ++ drop (at + length a + length b) (over l at a))) (take-over l at a h)
    ∙ ap (λ (t : List ℕ). (take at l ++ a) ++ (b ++ t)) d
    ∙ append_assoc (take at l) a (b ++ drop (at + length (a ++ b)) l)
    ∙ ap (λ (t : List ℕ). take at l ++ t) (sym (append_assoc a b (drop (at + length (a ++ b)) l)))

-- a part that was lent and came back as new is a writing over the whole
pub part-over : (l : List ℕ) (at end : ℕ) (new : List ℕ) → at ≤ end → length new ≡ end - at → put_mid at (end - at) l new ≡ over l at new
part-over l at end new h e =
    let n : end ≡ at + length new = omega arith in
    ap (λ (t : List ℕ). take at l ++ (new ++ t)) (Post-is at end l h ∙ ap (λ (k : ℕ). drop k l) n)
