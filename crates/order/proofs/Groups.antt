-- A position's group, which is itself and those that it is bound to: where nothing of the group is left, once the position is flipped in what is left,
-- its step may come. Assumes nothing.
use mathlib.Core.Path.{◌≡◌, refl, sym, ap, ap₂, ◌∙◌}
use mathlib.Core.Bool.{Bool, beq, true, false, not, ◌&&◌, ◌||◌, or-true}
use Prim.Native.Nat.{ℕ, ◌^◌, ◌<◌}
use native.Mathlib.Omega.{arith}
use borrow.Author.Tests.{eq-eqb, ne_eqb}
use lib.Dec.{eqb}
use lib.Bits.{bit_xor}
use Rattle.numbers.specs.Bits.{bit}
use Rattle.order.specs.SetsWorking.{joined, apart, due}
use Rattle.order.proofs.Sets.{bit-joined, bit-flipped, flipped-out, apart→, →apart}

module _ (bound left p : ℕ) (earlier : (k : ℕ) → bit bound k ≡ true → k < p) where
  abbrev flipped : ℕ
  flipped = bit_xor left (2 ^ p)

  pub alone→due : apart (joined bound p) flipped ≡ true → due bound left p ≡ true
  alone→due e = ap₂ (λ (s t : Bool). s && t) itself (→apart bound left others)
    where
      out : (b : Bool) → not (not (beq b true)) ≡ b
      out true = refl
      out false = refl

      itself : bit left p ≡ true
      itself =
          sym (out (bit left p))
          ∙ sym (ap not (bit-flipped left p p ∙ ap (λ (t : Bool). not (beq (bit left p) t)) (eq-eqb p p refl)))
          ∙ apart→ (joined bound p) flipped e p (bit-joined bound p p ∙ ap (λ (t : Bool). t || bit bound p) (eq-eqb p p refl))

      others : (k : ℕ) → bit bound k ≡ true → not (bit left k) ≡ true
      others k b =
          let h = earlier k b in
          sym (ap (λ (t : Bool). t || not (bit left k)) (ne_eqb k p (λ z. omega arith)))
          ∙ sym (flipped-out left p itself k)
          ∙ apart→ (joined bound p) flipped e k (bit-joined bound p k ∙ ap (λ (t : Bool). eqb k p || t) b ∙ or-true (eqb k p))
