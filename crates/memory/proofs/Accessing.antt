-- A whole memory instruction, by what its parts promise. Assumes nothing.
use Rattle.std.specs.Prelude.{Ok}
use Rattle.std.proofs.Common.{◌≡◌, ℕ, ◌+◌, ◌%◌, ◌^◌, ◌≤◌, Bool, true, false, List, length, get_or, sym, refl, ap, ◌∙◌, ap₂}
use Rattle.numbers.specs.Bits.{bit}
use Rattle.state.specs.declared.Control.{Control}
use Rattle.state.specs.Outcome.{Outcome, outcome}
use Rattle.state.specs.Marks.{Marked, marked}
use Rattle.state.specs.State.{state}
use Rattle.opcodes.specs.declared.Instruction.{Instruction}
use Rattle.opcodes.specs.Masking.{operated}
use Rattle.opcodes.specs.Working.{OperatedSet}
use Rattle.opcodes.proofs.OperatedOn.{is-operated, none-past}
use Rattle.memory.specs.Works.{is_store, is_quadword, size_of}
use Rattle.memory.specs.Window.{allowed}
use Rattle.memory.specs.Address.{Test, Search, address_by, address_of, test_step, tested}
use Rattle.memory.specs.Working.{tests_at, AllWithin, Searched}
use Rattle.memory.specs.Move.{load_step, mark_step, store_step, moves_by, unless_bad, moved_by, moved_of}
use Rattle.numbers.proofs.Rising.{cut}
use Rattle.memory.proofs.Testing.{or-fine, within, all-fine}
use Rattle.memory.proofs.Moving.{moves-agree}
use Rattle.memory.proofs.Windows.{ends-within, origin-straight}
use Rattle.memory.proofs.Relative.{addresses-from, relative}

-- elements that are chosen alike, none of them from n on
module _ (n m : ℕ) (short : n ≤ m) (chosen chosen' : ℕ → Bool) (tests : ℕ → Test) (place : ℕ → ℕ)
    (choice : (i : ℕ) → chosen i ≡ chosen' i)
    (left : (i : ℕ) → n ≤ i → chosen' i ≡ false) where
  like-tests : tested chosen tests m ≡ tested chosen' tests n
  unfolding test_step
  like-tests = cut _ _ n m (Ok tt) short (λ i x h. let c = choice i in rw c) (λ i x h. let c = choice i ∙ left i h in rw c (or-fine x))

  like-moves : (store quadword : Bool) (vc : ℕ) (l k w : List ℕ)
      → moves_by store quadword vc chosen place m l k w ≡ moves_by store quadword vc chosen' place n l k w
  unfolding store_step load_step mark_step
  like-moves true quadword vc l k w =
      ap (λ (x : List ℕ). (l, k, x)) (cut _ _ n m w short (λ i x h. let c = choice i in rw c) (λ i x h. let c = choice i ∙ left i h in rw c))
  like-moves false quadword vc l k w =
      ap₂ (λ (x y : List ℕ). (x, y, w))
      (cut _ _ n m l short (λ i x h. let c = choice i in rw c) (λ i x h. let c = choice i ∙ left i h in rw c))
      (cut _ _ n m k short (λ i x h. let c = choice i in rw c) (λ i x h. let c = choice i ∙ left i h in rw c))

  like : (store quadword : Bool) (vc : ℕ) (b : Marked) (w : List ℕ)
      → moved_by store quadword vc chosen tests place m b w ≡ moved_by store quadword vc chosen' tests place n b w
  like store quadword vc b w =
      ap₂ (λ (a : Search) (x : List ℕ × List ℕ × List ℕ). unless_bad a b w x) like-tests (like-moves store quadword vc b.state.elements b.marks w)

-- a set is tested, none of it is bad, and it is moved by the addresses that were kept
module _ (quadword : Bool) (which : ℕ) (place : ℕ → ℕ) (w : List ℕ) (r : Search) (addresses : List ℕ) (bytes : ℕ) (long : length w ≡ bytes)
    (tested-so : Searched (size_of quadword) bytes which place r addresses) (fine : r ≡ Ok tt) where
  found : Searched (size_of quadword) (length w) which place r addresses
  found = rw long tested-so

  pub lie-within : AllWithin (size_of quadword) (length w) (bit which) (λ (k : ℕ). get_or addresses k 0) 64
  lie-within i h c =
      rw (found.kept fine i c)
      (within (size_of quadword) (length w) (place i)
      (all-fine (bit which) (tests_at (size_of quadword) (length w) place) 64 i (sym found.told ∙ fine) h c))

  pub every : (store : Bool) (vc : ℕ) (c : Control) (l m l' m' w' : List ℕ)
      → (l', m', w') ≡ moves_by store quadword vc (bit which) (λ (k : ℕ). get_or addresses k 0) 64 l m w
      → outcome (Ok 0) (marked (state l' c) m', w')
      ≡ moved_by store quadword vc (bit which) (tests_at (size_of quadword) (length w) place) place 64 (marked (state l c) m) w
  every store vc c l m l' m' w' f =
      let b : Marked = marked (state l c) m in
      ap (unless_bad (Ok tt) b w)
      (f ∙ moves-agree quadword vc (bit which) (λ (k : ℕ). get_or addresses k 0) place 64 l m w (λ i _ h. found.kept fine i h) store)
      ∙ ap (λ (x : Search). unless_bad x b w (moves_by store quadword vc (bit which) place 64 l m w)) (sym fine ∙ found.told)

-- the window is allowed
module _ (b : Marked) (ins : Instruction) (base stride : ℕ) (w : List ℕ) (origin : ℕ) (passed : allowed (length w) origin ≡ true) where
  -- the addresses are from a base that is taken from the origin, and `which` are the elements that are operated on
  pub done : (start : ℕ) → (start + origin % 2 ^ 32) % 2 ^ 32 ≡ base → b.state.control.vlr ≤ 64
      → (which : ℕ) → OperatedSet ins b.state.control.vlr b.state.control.vmr which
      → (store quadword : Bool) → store ≡ is_store ins.work → quadword ≡ is_quadword ins.work
      → (m : Outcome (Marked × List ℕ))
      → m ≡ moved_by store quadword ins.vc.0 (bit which)
      (tests_at (size_of quadword) (length w) (address_by ins.scalar start stride b.state.elements ins.vb.0))
      (address_by ins.scalar start stride b.state.elements ins.vb.0) 64 b w
      → m ≡ moved_of b ins base stride w origin
  unfolding moved_of operated
  done start begins short which chosen store quadword es eq m e =
      let here : (i : ℕ) → operated ins b.state.control i ≡ bit which i =
      λ i. is-operated ins b.state.control.vlr b.state.control.vmr which chosen i b.state.control refl refl in
      let place : ℕ → ℕ = address_by ins.scalar start stride b.state.elements ins.vb.0 in
      let k = like b.state.control.vlr 64 short (bit which) (operated ins b.state.control) _ place
      (λ i. sym (here i))
      (λ i h. here i ∙ none-past ins b.state.control.vlr b.state.control.vmr which chosen i h)
      store quadword ins.vc.0 b w in
      let r = relative store quadword origin ins.vc.0 (operated ins b.state.control) (address_of ins base stride b.state.elements) place
      b.state.control.vlr b w
      (origin-straight (length w) origin passed) (ends-within (length w) origin passed)
      (addresses-from origin base start begins ins.scalar stride b.state.elements ins.vb.0) in
      rw (passed, ← es, ← eq) (e ∙ k ∙ r)
