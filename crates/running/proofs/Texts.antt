-- The text of a run: the answer's line, then the listing where the part after it is lent. Assumes nothing.
use Rattle.std.specs.Prelude.{Ok}
use mathlib.Core.Bool.{Bool, true, false}
use mathlib.Core.Path.{◌≡◌, refl, sym, ap, subst, ◌∙◌}
use mathlib.Core.List.{List, [], ◌++◌, append-nil}
use Prim.Native.Nat.{ℕ, ◌+◌, ◌-◌, ◌/◌, ◌^◌, ◌≤◌, ◌<◌}
use native.Mathlib.Omega.{arith}
use lib.ListN.{length, take, drop, length-append, length-drop, drop_of_length-le}
use lib.Seq.{take_all, drop-drop}
use borrow.Rule.Slice.PartMut.{put_mid}
use Rattle.numbers.specs.Choice.{pick}
use Rattle.numbers.specs.Over.{over}
use Rattle.numbers.proofs.Over.{part-over}
use Rattle.numbers.proofs.Tests.{true-not-false}
use Rattle.state.specs.Answer.{Answer}
use Rattle.state.specs.Answer.{beside_of, is_done}
use Rattle.state.specs.Marks.{Marked, marked, no_marks}
use Rattle.state.specs.Outcome.{Outcome, outcome, refused_marked}
use Rattle.state.specs.State.{State, in_range}
use Rattle.saved.specs.Load.{accepted, state_in}
use Rattle.touch.specs.Parts.{Queue}
use Rattle.queue.specs.Queue.{acceptance}
use Rattle.queue.specs.Run.{ran_through, queue_run}
use Rattle.queue.proofs.Again.{run-in-range}
use Rattle.listing.specs.Text.{listing, printed, answer_line, answer_listed, state_listed}
use Rattle.listing.specs.Working.{Wrote}
use Rattle.listing.proofs.Writing.{wrote-both, wrote-length}
use Rattle.listing.proofs.Printing.{wrote-printed, printed-wrote, ranged-listed, answer-line-length, listing-length}
use Rattle.running.specs.Records.{well_formed, queue_in}
use Rattle.running.specs.Runner.{file_in, records_in, unmarked, records_run, input_run, blank, text_of, input_printed}

-- ---- a run that is done leaves a state in range

abbrev Ranged : Outcome State → Type 0
Ranged o = is_done o.answer ≡ true → in_range o.left.control ≡ true

-- where a test holds such an outcome, else a refusal
else-refused : (b : Bool) (x y : Outcome State) → (b ≡ true → Ranged x) → (b ≡ false → is_done y.answer ≡ false)
    → Ranged (pick b x y)
else-refused true x y p q e = p refl e
else-refused false x y p q e = absurd (true-not-false (sym (q refl) ∙ e))

queue-ranged : (q : Queue) (b : Marked) → Ranged (unmarked (queue_run q b))
unfolding queue_run
queue-ranged q b = by (is_done (acceptance b.state.control q)) refl
  where
    by : (t : Bool) → is_done (acceptance b.state.control q) ≡ t
        → Ranged (unmarked (pick t (outcome (Ok 0) (ran_through q b)) (refused_marked (acceptance b.state.control q) b)))
    by true t e = run-in-range q b t
    by false t e = absurd (true-not-false (sym t ∙ e))

records-ranged : (records : List ℕ) (s : State) → Ranged (records_run records s)
unfolding records_run
records-ranged records s = else-refused (well_formed records) _ _ (λ t. queue-ranged (queue_in (length records / 16) records) (marked s no_marks)) (λ t. refl)

input-ranged : (input : List ℕ) (old : State) → Ranged (input_run input old)
unfolding input_run
input-ranged input old =
    else-refused (accepted (file_in input)) _ _ (λ t. records-ranged (records_in input) (state_in (file_in input))) (λ t. refl)

-- ---- 25,705 bytes hold every text

pub run-text-length : (input : List ℕ) → length (text_of (input_run input blank)) ≤ 25705
unfolding text_of
run-text-length input =
    let o = input_run input blank in
    let h : length (answer_line o.answer) ≤ 42 = answer-line-length o.answer in
    let g : length (pick (is_done o.answer) (listing o.left) []) ≤ 25663 = either (is_done o.answer) refl in
    simp length-append (omega arith)
  where
    either : (b : Bool) → is_done (input_run input blank).answer ≡ b → length (pick b (listing (input_run input blank).left) []) ≤ 25663
    either true e = listing-length (input_run input blank).left (input-ranged input blank e)
    either false e = omega arith

-- ---- the part after a place

-- all that follows a place, as it is lent
all_after : (l : List ℕ) (at : ℕ) → take (length l - at) (drop at l) ≡ drop at l
all_after l at =
    let d : length (drop at l) ≡ length l - at = length-drop at l in
    take_all (length l - at) (drop at l) (omega arith)

-- a writing at its start is one at that place
over-rest : (l : List ℕ) (at : ℕ) (x : List ℕ) → at + length x ≤ length l → over l at (over (drop at l) 0 x) ≡ over l at x
over-rest l at x h =
    let rest = drop (0 + length x) (drop at l) in
    let d₀ : length (drop at l) ≡ length l - at = length-drop at l in
    let d₁ : length rest ≡ length (drop at l) - (0 + length x) = length-drop (0 + length x) (drop at l) in
    let n : length (x ++ rest) ≡ length x + length rest = length-append x rest in
    let m : length l ≤ at + length (x ++ rest) = omega arith in
    let z : at + (0 + length x) ≡ at + length x = omega arith in
    ap (λ (t : List ℕ). take at l ++ ((x ++ rest) ++ t)) (drop_of_length-le l m)
    ∙ ap (λ (t : List ℕ). take at l ++ t) (append-nil (x ++ rest))
    ∙ ap (λ (t : List ℕ). take at l ++ (x ++ t)) (drop-drop (0 + length x) at l ∙ ap (λ (k : ℕ). drop k l) z)

after-wrote : (l part : List ℕ) (at n : ℕ) (x : List ℕ) → at + length x ≤ length l → Wrote (drop at l) part 0 n x
    → Wrote l (put_mid at (length l - at) l part) at (at + n) x
after-wrote l part at n x h w =
    let d : length (drop at l) ≡ length l - at = length-drop at l in
    let k : length part ≡ length l - at = wrote-length w (omega arith) ∙ d in
    let z : n ≡ 0 + length x = w.place in
    record {
      bytes = part-over l at (length l) part (omega arith) k ∙ ap (over l at) w.bytes ∙ over-rest l at x h;
      place = omega arith;
    }

-- ---- the text of an input

-- a run, and the answer's line
module _ (input t : List ℕ) (room : 25705 ≤ length t) (a : Answer) (s : State) (answers : a ≡ (input_run input blank).answer)
    (leaves : is_done a ≡ true → s ≡ (input_run input blank).left) (line : Answer) (t₁ : List ℕ) (e : outcome line t₁ ≡ answer_listed a t) where
  same-text : text_of (outcome a s) ≡ text_of (input_run input blank)
  unfolding text_of
  same-text = by (is_done a) refl
    where
      by : (b : Bool) → is_done a ≡ b
          → (answer_line a ++ pick (is_done a) (listing s) []) ≡ (answer_line (input_run input blank).answer
          ++ pick (is_done (input_run input blank).answer) (listing (input_run input blank).left) [])
      by true d = rw (← answers, d, leaves d) refl
      by false d = rw (← answers, d) refl

  as-input : {t₂ x : List ℕ} {k : ℕ} → Wrote t t₂ 0 k x → x ≡ text_of (outcome a s) → outcome (Ok k) t₂ ≡ input_printed input t
  as-input {x = x} w f = wrote-printed 25705 x t room w ∙ ap (λ (y : List ℕ). printed 25705 y t) (f ∙ same-text)

  -- the line alone, after a refusal
  pub refused-text : is_done a ≡ false → outcome line t₁ ≡ input_printed input t
  unfolding text_of
  refused-text z =
      let w = printed-wrote 42 (answer_line a) t line t₁ e (beside_of line) refl (omega arith) in
      e
      ∙ sym (wrote-printed 42 (answer_line a) t (omega arith) w)
      ∙ as-input w (sym (ap (λ (k : Bool). answer_line a ++ pick k (listing s) []) z ∙ append-nil (answer_line a)))

  module _ (at : ℕ) (is : at ≡ beside_of line) where
    line_wrote : Wrote t t₁ 0 at (answer_line a)
    line_wrote = printed-wrote 42 (answer_line a) t line t₁ e at is (omega arith)

    line-short : (at ≤ 42) × (length t₁ ≡ length t)
    line-short =
        let h : length (answer_line a) ≤ 42 = answer-line-length a in
        let z : at ≡ 0 + length (answer_line a) = line_wrote.place in
        (omega arith, wrote-length line_wrote (omega arith))

    pub at-within : at ≤ length t₁
    at-within = let h = line-short in omega arith

    -- and the listing of the state after a run that is done
    module _ (is-done : is_done a ≡ true) where
      ranged : in_range s.control ≡ true
      ranged =
          subst (λ (x : State). in_range x.control ≡ true) (sym (leaves is-done))
          (input-ranged input blank (ap is_done (sym answers) ∙ is-done))

      module _ (after : Answer) (part : List ℕ) (f : outcome after part ≡ state_listed s (take (length t₁ - at) (drop at t₁)))
          (k : ℕ) (is' : k ≡ beside_of after) where
        state-wrote : Wrote (drop at t₁) part 0 k (listing s)
        state-wrote =
            let h = line-short in
            let d : length (drop at t₁) ≡ length t₁ - at = length-drop at t₁ in
            printed-wrote 25663 (listing s) (drop at t₁) after part
            (f ∙ ap (state_listed s) (all_after t₁ at) ∙ ranged-listed s.elements (drop at t₁) s.control ranged) k is' (omega arith)

        pub ends-within : at + k < 2 ^ 64
        ends-within = let h = line-short in omega (arith, state-wrote.place, listing-length s ranged)

        pub done-text : outcome (Ok (at + k)) (put_mid at (length t₁ - at) t₁ part) ≡ input_printed input t
        unfolding text_of
        done-text =
            let h = line-short in
            let g : length (listing s) ≤ 25663 = listing-length s ranged in
            let l : at ≡ 0 + length (answer_line a) = line_wrote.place in
            let w = after-wrote t₁ part at k (listing s) (omega arith) state-wrote in
            as-input (wrote-both line_wrote w (omega arith)) (sym (ap (λ (v : Bool). answer_line a ++ pick v (listing s) []) is-done))
