-- The loop that writes the records, and what saving comes to. Assumes nothing.
use Rattle.std.specs.Prelude.{Ok, Err}
use mathlib.Core.Bool.{Bool, true, false, not}
use mathlib.Core.Path.{◌≡◌, refl, sym, ap, ◌∙◌}
use mathlib.Core.List.{List, ◌++◌}
use Prim.Native.Nat.{ℕ, zero, suc, ◌+◌, ◌*◌, ◌-◌, ◌/◌, ◌≤◌, ◌<◌}
use native.Mathlib.Numerals.{add-one}
use native.Mathlib.Omega.{arith}
use lib.ListN.{length, drop, length-append}
use borrow.Author.Tests.{not-true, not-false, le-leb, lt-leb}
use borrow.Rule.Slice.PartMut.{put_mid}
use Rattle.numbers.specs.Over.{over}
use Rattle.numbers.proofs.Over.{over-over, part-over, length_over}
use Rattle.state.specs.declared.answer.Refusal.TheVariants.{BadFile, OutOfRange}
use Rattle.state.specs.Outcome.{outcome}
use Rattle.state.specs.State.{State, in_range}
use Rattle.saved.specs.File.{contents_of, record_bytes, records, file_of}
use Rattle.saved.specs.Save.{saving}

pub record-length : (k v : ℕ) → length (record_bytes k v) ≡ 16
unfolding record_bytes
record-length k v = refl

pub records-length : (n : ℕ) (s : State) → length (records n s) ≡ n * 16
unfolding records
records-length zero s = refl
records-length (suc n) s =
    let e : length (records n s) ≡ n * 16 = records-length n s in
    let r : length (record_bytes n (contents_of s n)) ≡ 16 = record-length n (contents_of s n) in
    length-append (records n s) (record_bytes n (contents_of s n)) ∙ omega arith

pub starts : (file : List ℕ) (s : State) → file ≡ over file 0 (records 0 s)
unfolding records
starts file s = refl

-- with k records in the file, writing record k into its part makes them k + 1
pub turns : (file₀ file part : List ℕ) (k contents : ℕ) (s : State) → k * 16 + 16 ≤ length file₀ → file ≡ over file₀ 0 (records k s)
    → contents ≡ contents_of s k → part ≡ record_bytes k contents → put_mid (k * 16) (k * 16 + 16 - k * 16) file part ≡ over file₀ 0 (records (k + 1) s)
unfolding records
turns file₀ file part k contents s h e ec ep =
    let el : length part ≡ 16 = ap length ep ∙ record-length k contents in
    let n : length (records k s) ≡ k * 16 = records-length k s in
    let n' : k * 16 ≡ 0 + length (records k s) = omega arith in
    let room : 0 + length (records k s) ≤ length file₀ = omega arith in
    let p : part ≡ record_bytes k (contents_of s k) = ep ∙ ap (record_bytes k) ec in
    part-over file (k * 16) (k * 16 + 16) part (omega arith) (omega arith)
    ∙ ap (λ (l : List ℕ). over l (k * 16) part) e
    ∙ ap (λ (at : ℕ). over (over file₀ 0 (records k s)) at part) n'
    ∙ over-over file₀ 0 (records k s) part room
    ∙ ap (λ (l : List ℕ). over file₀ 0 (records k s ++ l)) p
    ∙ ap (λ (m : ℕ). over file₀ 0 (records m s)) (sym (add-one k))

pub kept : (file₀ file : List ℕ) (k : ℕ) (s : State) → k * 16 ≤ length file₀ → file ≡ over file₀ 0 (records k s) → length file ≡ length file₀
kept file₀ file k s h e =
    let n : length (records k s) ≡ k * 16 = records-length k s in
    ap length e ∙ length_over file₀ 0 (records k s) (omega arith)

pub ends : (file₀ file : List ℕ) (k : ℕ) (s : State) → k ≤ 1029 → 1029 ≤ k → file ≡ over file₀ 0 (records k s) → file ≡ over file₀ 0 (file_of s)
unfolding file_of
ends file₀ file k s h h' e = let n : k ≡ 1029 = omega arith in rw n at e

pub file-length : (s : State) → length (file_of s) ≡ 16464
unfolding file_of
file-length s = records-length 1029 s

-- a state in range is saved wherever there is room
pub saves-done : (s : State) (bytes : List ℕ) → in_range s.control ≡ true → 16464 ≤ length bytes
    → saving s bytes ≡ outcome (Ok 0) (file_of s ++ drop 16464 bytes)
unfolding saving
saves-done s bytes e h = let l = le-leb 16464 (length bytes) h in rw (e, l)

-- The answers. `fit` is what the range test said.
module _ (s : State) (bytes : List ℕ) (fit : Bool) (e : fit ≡ in_range s.control) where
  pub refused : not fit ≡ true → outcome (Err OutOfRange) bytes ≡ saving s bytes
  unfolding saving
  refused t = let r = sym e ∙ not-true fit t in rw r

  pub no_room : not fit ≡ false → length bytes < 16464 → outcome (Err (BadFile (length bytes / 16))) bytes ≡ saving s bytes
  unfolding saving
  no_room t h = let r = sym e ∙ not-false fit t in let l = lt-leb 16464 (length bytes) h in rw (r, l)

  pub written : (after : List ℕ) → not fit ≡ false → 16464 ≤ length bytes → after ≡ over bytes 0 (file_of s) → outcome (Ok 0) after ≡ saving s bytes
  written after t h w =
      let n : 0 + length (file_of s) ≡ 16464 = omega (arith, file-length s) in
      ap (outcome (Ok 0)) (w ∙ ap (λ (m : ℕ). file_of s ++ drop m bytes) n)
      ∙ sym (saves-done s bytes (sym e ∙ not-false fit t) h)
