-- IOTA's step does what it is said to do: it changes Vc's elements below VLR and VCR alone, and makes them of the mask bits below VLR and of what they were.
-- Assumes nothing.
use mathlib.Core.Path.{◌≡◌, refl, sym, ap, ◌∙◌, subst}
use mathlib.Core.Logic.{inl, inr, ⊎_elim}
use mathlib.Core.Bool.{Bool, true, false}
use mathlib.Core.List.{List, [], ◌∷◌}
use Prim.Native.Nat.{ℕ, zero, suc, ◌*◌, ◌%◌, ◌^◌, ◌<◌, ◌≤◌}
use native.Mathlib.Omega.{arith}
use native.Mathlib.Decide.{ℕ_discrete}
use lib.Dec.{eqb}
use lib.ListN.{length, set}
use lib.Seq.{get_or-set_other}
use Rattle.numbers.specs.Choice.{pick}
use Rattle.numbers.specs.Bits.{bit}
use Rattle.numbers.specs.Halves.{low, with_low}
use Rattle.state.specs.Marks.{first_elements}
use Rattle.state.specs.State.{place_of}
use Rattle.opcodes.specs.declared.Instruction.{Instruction}
use Rattle.machine.specs.Run.{Added, Run, added, joined}
use Rattle.state.specs.Elements.{at, matches}
use Rattle.machine.specs.Iota.{matching, put, turned, walked, count_of, iota_step}
use Rattle.machine.proofs.IotaLaws.{matching-le}
use Rattle.machine.proofs.IotaTouches.{walked-length, walked-outside, matching-same, walked_same}
use Rattle.order.specs.Order.{Mem}
use Rattle.touch.specs.Touch.{element_place, mask_place, count_place, below, iota_reads, iota_writes}
use Rattle.touch.proofs.Places.{mem-append-l, mem-append-r, mem-append, →below, below→}
use Rattle.touch.proofs.Contents.{get, get-element, get-mask, get-count, by_place, set_same, Still}
use Rattle.touch.proofs.Commute.{HasVlr, Agree, Does}

-- two lists that have the same in the first n elements of vc still have after the walk
module _ (vmr : ℕ) (mtf : Bool) (stride vc n : ℕ) (small : vc < 16) (few : n ≤ 64) where
  pub walked-agree : (m : ℕ) (l l' : List ℕ) → length l ≡ length l'
      → ((k : ℕ) → k < n → at l vc k ≡ at l' vc k)
      → (k : ℕ) → k < n → at (walked vmr mtf stride vc m l) vc k ≡ at (walked vmr mtf stride vc m l') vc k
  unfolding walked turned
  walked-agree zero l l' h same = same
  walked-agree (suc m) l l' h same =
      go (matches vmr mtf m) (walked vmr mtf stride vc m l) (walked vmr mtf stride vc m l')
      (walked-length vmr mtf stride vc m l ∙ h ∙ sym (walked-length vmr mtf stride vc m l')) (walked-agree m l l' h same)
    where
      go : (t : Bool) (x x' : List ℕ) → length x ≡ length x' → ((k : ℕ) → k < n → at x vc k ≡ at x' vc k)
          → (k : ℕ) → k < n
          → at (pick t (put vc (matching vmr mtf m) (m * stride % 2 ^ 32) x) x) vc k
          ≡ at (pick t (put vc (matching vmr mtf m) (m * stride % 2 ^ 32) x') x') vc k
      go true x x' e f k b = here (ℕ_discrete k (matching vmr mtf m))
        where
          here : Dec (k ≡ matching vmr mtf m)
              → at (put vc (matching vmr mtf m) (m * stride % 2 ^ 32) x) vc k
              ≡ at (put vc (matching vmr mtf m) (m * stride % 2 ^ 32) x') vc k
          here (yes z) =
              rw (← z)
              (ap (λ (y : ℕ). at (set x (place_of vc k) (with_low y (m * stride % 2 ^ 32))) vc k) (f k b)
              ∙ set_same x x' (place_of vc k) _ e)
          here (no z) =
              get_or-set_other x (place_of vc (matching vmr mtf m)) (place_of vc k) _ 0 (λ y. z (omega arith))
              ∙ f k b
              ∙ sym (get_or-set_other x' (place_of vc (matching vmr mtf m)) (place_of vc k) _ 0 (λ y. z (omega arith)))
      go false x x' e f k b = f k b

module _ (n : ℕ) (few : n ≤ 64) (ins : Instruction) (scalar : ℕ) (small : ins.vc.0 < 16) where
  step-still : (r : Run) → HasVlr n r → Still r (iota_step ins scalar r)
  unfolding iota_step
  step-still r h = record {
    long = walked-length r.control.vmr ins.mtf (low scalar) ins.vc.0 r.control.vlr r.elements;
    past = λ p z.
        walked-outside r.control.vmr ins.mtf (low scalar) ins.vc.0 r.control.vlr p
        (λ e b w. let le = matching-le r.control.vmr ins.mtf r.control.vlr in omega arith) r.elements;
    vlr = refl;
    vaer = refl;
    vpsr = refl;
    high = λ k z. refl;
  }

  step_keeps : (r : Run) → HasVlr n r → (p : ℕ) → p ≤ count_place → (Mem p (iota_writes ins n) → ⊥) → get p (iota_step ins scalar r) ≡ get p r
  unfolding iota_step
  step_keeps r h =
      by_place (λ (p : ℕ). (Mem p (iota_writes ins n) → ⊥) → get p (iota_step ins scalar r) ≡ get p r)
      (λ p k out.
      get-element p (iota_step ins scalar r) k
      ∙ walked-outside r.control.vmr ins.mtf (low scalar) ins.vc.0 r.control.vlr p (outside p out) r.elements
      ∙ sym (get-element p r k))
      (λ j k out. get-mask j (iota_step ins scalar r) k ∙ sym (get-mask j r k))
      (λ out. absurd (out (mem-append-r count_place (below n (element_place ins.vc.0)) (count_place ∷ []) (inl refl))))
    where
      outside : (p : ℕ) → (Mem p (iota_writes ins n) → ⊥) → (e : ℕ) → e < matching r.control.vmr ins.mtf r.control.vlr
          → p ≡ place_of ins.vc.0 e → ⊥
      outside p out e b z =
          let le = matching-le r.control.vmr ins.mtf r.control.vlr in
          let m : Mem (element_place ins.vc.0 e) (iota_writes ins n) =
          mem-append-l (element_place ins.vc.0 e) (below n (element_place ins.vc.0)) (count_place ∷ [])
          (→below (element_place ins.vc.0) e n (omega arith)) in
          out (subst (λ (x : ℕ). Mem x (iota_writes ins n)) (sym z) m)

  module _ (r r' : Run) (h : HasVlr n r) (h' : HasVlr n r') (agree : Agree (iota_reads n) (iota_writes ins n) r r') where
    same_bits : (j : ℕ) → j < r.control.vlr → bit r.control.vmr j ≡ bit r'.control.vmr j
    same_bits j b =
        let b64 : j < 64 = omega arith in
        ap (λ (d : ℕ). eqb d 1)
        (sym (get-mask j r b64) ∙ agree (mask_place j) (omega arith) (inl (→below mask_place j n (omega arith))) ∙ get-mask j r' b64)

    same-vlr : r.control.vlr ≡ r'.control.vlr
    same-vlr = h ∙ sym h'

    same_count : count_of ins r.control ≡ count_of ins r'.control
    same_count =
        matching-same r.control.vmr r'.control.vmr ins.mtf r.control.vlr same_bits
        ∙ ap (matching r'.control.vmr ins.mtf) same-vlr

    same-before : (k : ℕ) → k < n → at r.elements ins.vc.0 k ≡ at r'.elements ins.vc.0 k
    same-before k b =
        let s : element_place ins.vc.0 k < 1024 = omega arith in
        sym (get-element (element_place ins.vc.0 k) r s)
        ∙ agree (element_place ins.vc.0 k) (omega arith)
        (inr (mem-append-l (element_place ins.vc.0 k) (below n (element_place ins.vc.0)) (count_place ∷ []) (→below (element_place ins.vc.0) k n b)))
        ∙ get-element (element_place ins.vc.0 k) r' s

    module _ (long : length r.elements ≡ length r'.elements) where
      same-elements : (k : ℕ) → k < n → get (element_place ins.vc.0 k) (iota_step ins scalar r) ≡ get (element_place ins.vc.0 k) (iota_step ins scalar r')
      unfolding iota_step
      same-elements k b =
          let s : element_place ins.vc.0 k < 1024 = omega arith in
          get-element (element_place ins.vc.0 k) (iota_step ins scalar r) s
          ∙ ap (λ (l : List ℕ). at l ins.vc.0 k)
          (walked_same r.control.vmr r'.control.vmr ins.mtf (low scalar) ins.vc.0 r.control.vlr same_bits
          r.elements)
          ∙ walked-agree r'.control.vmr ins.mtf (low scalar) ins.vc.0 n small few r.control.vlr r.elements
          r'.elements long same-before k b
          ∙ ap (λ (m : ℕ). at (walked r'.control.vmr ins.mtf (low scalar) ins.vc.0 m r'.elements) ins.vc.0 k) same-vlr
          ∙ sym (get-element (element_place ins.vc.0 k) (iota_step ins scalar r') s)

      step-leaves : (p : ℕ) → p ≤ count_place → Mem p (iota_writes ins n) → get p (iota_step ins scalar r) ≡ get p (iota_step ins scalar r')
      unfolding iota_step
      step-leaves p k m =
          ⊎_elim
          (λ b.
          let w = below→ (element_place ins.vc.0) p n b in
          subst (λ (x : ℕ). get x (iota_step ins scalar r) ≡ get x (iota_step ins scalar r')) (sym w.2) (same-elements w.0 w.1))
          last (mem-append p (below n (element_place ins.vc.0)) (count_place ∷ []) m)
        where
          last : Mem p (count_place ∷ []) → get p (iota_step ins scalar r) ≡ get p (iota_step ins scalar r')
          last (inl e) =
              subst (λ (x : ℕ). get x (iota_step ins scalar r) ≡ get x (iota_step ins scalar r')) (sym e)
              (get-count (iota_step ins scalar r) ∙ same_count ∙ sym (get-count (iota_step ins scalar r')))
          last (inr e) = absurd e

  -- what it adds to what the run gathers
  adds : Run → Added
  adds r = added 0 ins.vc.0 (first_elements (count_of ins r.control))

  step-gathers : (r : Run) → (iota_step ins scalar r).gathered ≡ joined r.gathered (adds r)
  unfolding iota_step adds
  step-gathers r = refl

  same-adds : (r r' : Run) → HasVlr n r → HasVlr n r' → Agree (iota_reads n) (iota_writes ins n) r r' → adds r ≡ adds r'
  unfolding adds
  same-adds r r' h h' agree = ap (λ (k : ℕ). added 0 ins.vc.0 (first_elements k)) (same_count r r' h h' agree)

  pub iota-does : Does n (iota_step ins scalar) (iota_reads n) (iota_writes ins n)
  iota-does = record {
    adds = adds;
    still = step-still;
    keeps = step_keeps;
    leaves = λ r r' h h' long agree. step-leaves r r' h h' agree long;
    same-adds = same-adds;
    gathers = step-gathers;
  }
