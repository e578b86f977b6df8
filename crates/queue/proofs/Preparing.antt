-- A call on a queue goes through its positions once, and tests and decodes each; a call with a list then binds each. Assumes nothing.
use Rattle.std.specs.Prelude.{Ok, Err}
use mathlib.Core.Path.{◌≡◌, refl, sym, ap, ◌∙◌, subst}
use mathlib.Core.Bool.{true, false, ◌&&◌}
use mathlib.Core.List.{List}
use Prim.Native.Nat.{ℕ, ◌+◌, ◌<◌, ◌≤◌}
use native.Mathlib.Omega.{arith}
use lib.Dec.{ltb}
use lib.ListN.{length, get_or, set, replicate}
use Rattle.numbers.specs.Bits.{bit}
use Rattle.state.specs.declared.Control.{Control}
use Rattle.state.specs.declared.answer.Refusal.{Refusal}
use Rattle.state.specs.declared.answer.Refusal.TheVariants.{OrderRefused}
use Rattle.state.specs.Outcome.{outcome, refused_marked}
use Rattle.state.specs.Marks.{marked}
use Rattle.state.specs.State.{state}
use Rattle.opcodes.specs.declared.Instruction.{Instruction}
use Rattle.opcodes.specs.Working.{Below}
use Rattle.opcodes.specs.Opcodes.{is_memory}
use Rattle.opcodes.proofs.Passed.{no-memory}
use Rattle.machine.specs.declared.Progress.{Progress}
use Rattle.machine.specs.Run.{ended, starting, under_way}
use Rattle.touch.specs.Parts.{placeholder, Queue, size, decoded_in, instruction_or, instruction_at}
use Rattle.queue.specs.Queue.{positions}
use Rattle.queue.specs.Run.{verdict_of, walked_run}
use Rattle.order.specs.Order.{Verdict, run as walk_of}
use Rattle.order.specs.Steps.{position}
use Rattle.touch.specs.BindsWorking.{binds}
use Rattle.touch.specs.TablesWorking.{readers_with, writers_with, bound_to}
use Rattle.queue.specs.CallsWorking.{Runs, blank, decoded_at, act_by, standing, Accepts}
use Rattle.order.specs.SetsWorking.{verdict_by}
use Rattle.queue.proofs.Accepting.{Lengths, position-passes, position-stops, position-last, by-standing, by-position}
use Rattle.order.proofs.Filling.{Filled, fill_none, fill_more}
use Rattle.touch.proofs.Steps.{at-below}
use Rattle.queue.proofs.Through.{at-runs}
use Rattle.order.proofs.Sets.{built-at}
use Rattle.touch.proofs.Noting.{Tabled, tabled-none, tabled-more, bound-is}
use Rattle.queue.proofs.Verdicts.{RightTables, bound-earlier, tables-verdict}
use Rattle.queue.proofs.Calls.{Bounded, reply-bounded, order-refused, order-stopped, entry-position, order-done}

-- ---- the positions are tested and decoded
module _ (q : Queue) where
  abbrev decodes : ℕ → Instruction → Type 0
  decodes j v = v ≡ instruction_at q j

  -- after k positions
  pub record DecodedSoFar (program : List Instruction) (k : ℕ) : Type 0 where
    pub lengths : Lengths q
    pub inside : k ≤ size q
    pub passed : positions q k ≡ Ok 0
    pub decoded : Filled blank decodes program k

  pub decoded-none : Lengths q → (program : List Instruction) → length program ≡ 16 → DecodedSoFar program 0
  unfolding positions
  decoded-none lengths program long = record {
    lengths = lengths;
    inside = omega arith;
    passed = refl;
    decoded = fill_none _ _ program long;
  }

  pub decoded-more : (program : List Instruction) (k : ℕ) → DecodedSoFar program k → k < size q → (ins : Instruction) → decoded_in q k ≡ Ok ins
      → DecodedSoFar (set program k ins) (k + 1)
  unfolding instruction_at
  decoded-more program k inv h ins e =
      let few = inv.lengths.few in record {
        lengths = inv.lengths;
        inside = omega arith;
        passed = position-passes q k ins inv.passed e;
        decoded = fill_more _ _ program k ins inv.decoded (omega arith) (sym (ap (instruction_or placeholder) e));
      }

  -- the call's answer
  module _ (c : Control) where
    pub accepts-not : (why : Refusal) → Err why ≡ standing c q → Accepts c q (Err why)
    accepts-not why stands = record { answered = by-standing q c (Err why) stands refl; decoded = tt }

    module _ (stands : Ok 0 ≡ standing c q) (program : List Instruction) (k : ℕ) (inv : DecodedSoFar program k) where
      pub accepts-stops : (why : Refusal) → k < size q → decoded_in q k ≡ Err why → Accepts c q (Err why)
      accepts-stops why h d = record { answered = position-stops q k why inv.passed h d ∙ by-position q c (Ok 0) stands refl; decoded = tt }

      pub accepts-all : size q ≤ k → Accepts c q (Ok program)
      accepts-all end = record {
        answered = position-last q k inv.passed inv.inside end ∙ by-position q c (Ok 0) stands refl;
        decoded = λ j h. inv.decoded.first j (omega arith);
      }

-- ---- and bound
module _ (q : Queue) where
  abbrev binding : ℕ → ℕ → Type 0
  binding j v = (i : ℕ) → bit v i ≡ (ltb i j && binds (instruction_at q i) (instruction_at q j))

  -- after k positions
  pub record Prepared (bound readers writers : List ℕ) (k : ℕ) : Type 0 where
    pub few : size q ≤ 16
    pub inside : k ≤ size q
    pub bounds : Filled 0 binding bound k
    pub tabled : Tabled (instruction_at q) k readers writers

  pub prepared-none : size q ≤ 16 → Prepared (replicate 16 0) (replicate 18 0) (replicate 18 0) 0
  prepared-none few = record {
    few = few;
    inside = omega arith;
    bounds = fill_none _ _ (replicate 16 0) refl;
    tabled = tabled-none (instruction_at q);
  }

  pub prepared-more : (bound readers writers : List ℕ) (k : ℕ) → Prepared bound readers writers k → k < size q
      → (ins : Instruction) → ins ≡ instruction_at q k
      → (v : ℕ) → v ≡ bound_to ins readers writers
      → (readers' writers' : List ℕ) → readers' ≡ readers_with ins k readers → writers' ≡ writers_with ins k writers
      → Prepared (set bound k v) readers' writers' (k + 1)
  prepared-more bound readers writers k inv h ins e v b readers' writers' x y =
      let small : Below ins = rw e (at-below q k) in let few = inv.few in record {
        few = few;
        inside = omega arith;
        bounds = fill_more _ _ bound k v inv.bounds (omega arith)
            (λ i. bound-is (instruction_at q) k readers writers inv.tabled ins e small i v b);
        tabled = tabled-more (instruction_at q) k readers writers inv.tabled ins e small readers' writers' x y;
      }

  -- after all of them
  module _ (bound readers writers : List ℕ) (k : ℕ) (inv : Prepared bound readers writers k) (end : size q ≤ k) where
    same : k ≡ size q
    same = let h = inv.inside in omega arith

    pub prepared-tables : RightTables q (get_or writers 17 0) bound
    prepared-tables = record {
      iota = built-at _ _ _ (subst (λ (n : ℕ). Tabled (instruction_at q) n readers writers) same inv.tabled).counted;
      bind = λ p i h. inv.bounds.first p (omega arith) i;
    }

-- ---- a call with a list, from what its parts give
module _ (q : Queue) (l m : List ℕ) (c : Control) where
  pub listed-refused : (why : Refusal) → Accepts c q (Err why) → (list : List ℕ) → refused_marked (Err why) (marked (state l c) m) ≡ walked_run q list
      (marked (state l c) m)
  listed-refused why accepts = order-refused q l m c (Err why) accepts.answered refl

  module _ (program : List Instruction) (accepts : Accepts c q (Ok program)) where
    bounds-kept : Bounded c q
    bounds-kept = reply-bounded q l m c (Ok 0) accepts.answered refl

    decoding : (j : ℕ) → j < size q → decoded_at program j ≡ instruction_at q j
    decoding = accepts.decoded

    pub listed-few : size q ≤ 16
    listed-few = bounds-kept.lengths.few

    -- what the code's value of the program says of itself
    pub program-few : length q.scalars ≤ 16
    program-few = rw bounds-kept.lengths.scalars bounds-kept.lengths.few

    pub program-runs : (j : ℕ) → j < length q.scalars → Runs (decoded_at program j)
    program-runs j h = rw (decoding j (rw bounds-kept.lengths.scalars at h)) (at-runs q j)

    pub begun-short : (p : Progress) → p ≡ starting c → p.control.vlr ≤ 64
    begun-short p e = rw (ap (λ (b : Progress). b.control.vlr) e) bounds-kept.short

    pub listed_below : (j : ℕ) → j < size q → Below (decoded_at program j)
    listed_below j h = rw (decoding j h) (at-below q j)

    pub listed-register : (j : ℕ) → j < size q → is_memory (decoded_at program j).work ≡ false
    listed-register j h = rw (decoding j h) (no-memory (instruction_at q j) (at-runs q j).work)

    module _ (bound readers writers : List ℕ) (k : ℕ) (inv : Prepared q bound readers writers k) (end : size q ≤ k) where
      pub check-meets : ((size q ≤ 16) × (c.vlr ≤ 64)) × ((p j : ℕ) → p < size q → bit (get_or bound p 0) j ≡ true → j < p)
      check-meets =
          ((bounds-kept.lengths.few, bounds-kept.short), bound-earlier q (get_or writers 17 0) bound (prepared-tables q bound readers writers k inv end))

      module _ (list : List ℕ) (v : Verdict) (checked : v ≡ verdict_by (size q) c.vlr (get_or writers 17 0) bound list) where
        right : v ≡ verdict_of q c.vlr list
        right = checked ∙ tables-verdict q c.vlr (get_or writers 17 0) bound (prepared-tables q bound readers writers k inv end) bounds-kept.short list

        pub listed-stopped : (place : ℕ) → v ≡ Err place
            → refused_marked (Err (OrderRefused place)) (marked (state l c) m) ≡ walked_run q list (marked (state l c) m)
        listed-stopped place e = order-stopped q l m c (Ok 0) accepts.answered refl list v place right e

        module _ (permitted : v ≡ Ok tt) where
          pub listed-inside : (i : ℕ) → i < length list → position (get_or list i 0) < length q.scalars
          listed-inside i h =
              rw bounds-kept.lengths.scalars (entry-position q l m c (Ok 0) accepts.answered refl list program decoding v right permitted i h)

          pub listed-done : (l' m' : List ℕ) (p p' : Progress) (c' : Control) → p ≡ starting c → c' ≡ ended p'.control p'.noted.vaer p'.noted.recorded
              → under_way l' m' p' ≡ walk_of (act_by program q.scalars) list (under_way l m p)
              → outcome (Ok 0) (marked (state l' c') m') ≡ walked_run q list (marked (state l c) m)
          listed-done = order-done q l m c (Ok 0) accepts.answered refl list program decoding v right permitted
