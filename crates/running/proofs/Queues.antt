-- The run of the records, and of an input. Assumes nothing.
use Rattle.std.specs.Prelude.{Err}
use mathlib.Core.Bool.{Bool, true, false, ◌&&◌, and_assoc}
use mathlib.Core.Path.{◌≡◌, refl, sym, ap, ◌∙◌}
use mathlib.Core.List.{List}
use Prim.Native.Nat.{ℕ, ◌-◌, ◌*◌, ◌/◌, ◌%◌, ◌≤◌}
use native.Mathlib.Omega.{arith}
use lib.Dec.{leb, ltb, eqb}
use lib.ListN.{length, take, drop, length-drop, drop_of_length-le}
use lib.Seq.{take_all, take-length, drop-length, length-take-le}
use borrow.Author.Tests.{leb-true, ltb-true}
use Rattle.std.specs.List.{list_all}
use Rattle.std.specs.Simd.{first_chunks}
use Rattle.numbers.specs.Choice.{pick}
use Rattle.numbers.proofs.Tests.{and_left, pick-false}
use Rattle.state.specs.declared.answer.Refusal.TheVariants.{QueueRefused}
use Rattle.state.specs.Answer.{is_done}
use Rattle.state.specs.Marks.{Marked, marked, no_marks}
use Rattle.state.specs.Outcome.{Outcome, refused_state}
use Rattle.state.specs.State.{State}
use Rattle.saved.specs.Load.{accepted, loading}
use Rattle.saved.proofs.Loading.{gives-state}
use Rattle.saved.proofs.RoundTrip.{done-accepted, refused-at}
use Rattle.touch.specs.Parts.{queue}
use Rattle.queue.specs.Run.{queue_run}
use Rattle.running.specs.Records.{opcode_at, control_word_at, scalar_at, unfilled, all_unfilled, well_formed, each, queue_in}
use Rattle.running.specs.Working.{filled, file_size}
use Rattle.running.specs.Runner.{file_in, records_in, unmarked, records_run, input_run}
use Rattle.running.proofs.Parts.{fillers-of, filled-length, filled-each}

-- the three tests of the records
pub formed : (bytes : List ℕ) (records : List (List ℕ)) (last : Bool) → records ≡ first_chunks 16 (length bytes / 16) bytes → last ≡ list_all unfilled records
    → ((leb (length bytes) 256 && eqb (length bytes % 16) 0) && last) ≡ well_formed bytes
unfolding well_formed
formed bytes records last e f =
    ap (λ (b : Bool). (leb (length bytes) 256 && eqb (length bytes % 16) 0) && b) (f ∙ ap (list_all unfilled) e ∙ fillers-of (length bytes / 16) bytes)
    ∙ and_assoc (leb (length bytes) 256) (eqb (length bytes % 16) 0) (all_unfilled (length bytes / 16) bytes)

-- ---- the records on a state; `t` is what the test said
module _ (bytes : List ℕ) (t : Bool) (e : t ≡ well_formed bytes) where
  pub no-queue : (s : State) → t ≡ false → refused_state (Err QueueRefused) s ≡ records_run bytes s
  unfolding records_run
  no-queue s u = let g = sym e ∙ u in rw g refl

  module _ (u : t ≡ true) where
    short : length bytes ≤ 256
    unfolding well_formed
    short = leb-true (length bytes) 256 (and_left (leb (length bytes) 256) _ (sym e ∙ u))

    pub few : (length bytes / 16 ≤ 16) × (length bytes / 16 * 16 ≤ length bytes)
    few = let h : length bytes ≤ 256 = short in (omega arith, omega arith)

    -- a part that was filled, as it is lent
    pub part-within : (f : ℕ → ℕ) (l now : List ℕ) → length l ≡ 16 → now ≡ filled (length bytes / 16) f l → length bytes / 16 ≤ length now
    part-within f l now h q =
        let g : length now ≡ length l = ap length q ∙ filled-length (length bytes / 16) f l in
        let k : length bytes / 16 ≤ 16 = few.0 in
        omega arith

    pub part_length : (f : ℕ → ℕ) (l now : List ℕ) → length l ≡ 16 → now ≡ filled (length bytes / 16) f l
        → length bytes / 16 ≡ length (take (length bytes / 16) now)
    part_length f l now h q = sym (length-take-le (length bytes / 16) now (part-within f l now h q))

    part-each : (f : ℕ → ℕ) (l now : List ℕ) → length l ≡ 16 → now ≡ filled (length bytes / 16) f l
        → take (length bytes / 16) now ≡ each (length bytes / 16) f
    part-each f l now h q =
        let k : length bytes / 16 ≤ 16 = few.0 in
        ap (take (length bytes / 16)) q ∙ filled-each (length bytes / 16) f l (omega arith)

    pub queue-ran : (s : State) (o o₀ w w₀ x x₀ : List ℕ) (ran : Outcome Marked)
        → length o₀ ≡ 16 → length w₀ ≡ 16 → length x₀ ≡ 16
        → o ≡ filled (length bytes / 16) (opcode_at bytes) o₀ → w ≡ filled (length bytes / 16) (control_word_at bytes) w₀
        → x ≡ filled (length bytes / 16) (scalar_at bytes) x₀
        → ran ≡ queue_run (queue (take (length bytes / 16) o) (take (length bytes / 16) w) (take (length bytes / 16) x)) (marked s no_marks)
        → unmarked ran ≡ records_run bytes s
    unfolding records_run queue_in
    queue-ran s o o₀ w w₀ x x₀ ran ho hw hx eo ew ex r =
        let g = sym e ∙ u in
        rw (g, ← part-each (opcode_at bytes) o₀ o ho eo, ← part-each (control_word_at bytes) w₀ w hw ew, ← part-each (scalar_at bytes) x₀ x hx ex)
        (ap unmarked r)

-- ---- the file and the records after it
module _ (input : List ℕ) (size : ℕ) (e : size ≡ file_size (length input)) where
  -- taken or dropped, so many bytes are as good as 16,464
  same-cut : (f : ℕ → List ℕ → List ℕ) → (length input ≤ 16464 → f (length input) input ≡ f 16464 input) → f size input ≡ f 16464 input
  same-cut f short = either (ltb (length input) 16464) refl
    where
      is-size : (b : Bool) → ltb (length input) 16464 ≡ b → f size input ≡ f (pick b (length input) 16464) input
      is-size b t = ap (λ (n : ℕ). f n input) (e ∙ ap (λ (k : Bool). pick k (length input) 16464) t)

      either : (b : Bool) → ltb (length input) 16464 ≡ b → f size input ≡ f 16464 input
      either true t = is-size true t ∙ short (let h = ltb-true (length input) 16464 t in omega arith)
      either false t = is-size false t

  file-part : take size input ≡ file_in input
  file-part = same-cut take (λ h. take-length input ∙ sym (take_all 16464 input h))

  records-drop : drop size input ≡ records_in input
  records-drop = same-cut drop (λ h. drop-length input ∙ sym (drop_of_length-le input h))

  records-part : take (length input - size) (drop size input) ≡ records_in input
  records-part =
      let h : length (drop size input) ≡ length input - size = length-drop size input in
      take_all (length input - size) (drop size input) (omega arith) ∙ records-drop

  -- what loading the file gave and left
  module _ (old : State) (o : Outcome State) (l : o ≡ loading (take size input) old) where
    loaded : o ≡ loading (file_in input) old
    loaded = l ∙ ap (λ (f : List ℕ). loading f old) file-part

    pub input-ran : (ran : Outcome State) → length old.elements ≡ 1024 → is_done o.answer ≡ true
        → ran ≡ records_run (take (length input - size) (drop size input)) o.left → ran ≡ input_run input old
    unfolding input_run
    input-ran ran count u r =
        let d = done-accepted (file_in input) old o loaded u in
        rw (d.0, ← gives-state (file_in input) old.elements count, ← d.1, ← records-part) r

    pub input-refused : is_done o.answer ≡ false → o ≡ input_run input old
    unfolding input_run
    input-refused u =
        let d = refused-at (file_in input) old o loaded u in
        d.1 ∙ sym (pick-false (accepted (file_in input)) _ _ d.0)
