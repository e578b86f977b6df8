-- What a record in range has, and what keeps it in range. Assumes nothing.
use mathlib.Core.Path.{◌≡◌, refl, ap, ap₂, ◌∙◌}
use mathlib.Core.Bool.{Bool, true, ◌&&◌}
use Prim.Native.Nat.{ℕ, zero, suc, ◌+◌, ◌*◌, ◌/◌, ◌%◌, ◌^◌, ◌<◌, ◌≤◌}
use native.Mathlib.Omega.{arith}
use native.Mathlib.Decide.{ℕ_discrete}
use borrow.Author.Tests.{leb-true, le-leb, ltb-true, lt-ltb, eqb-true, eq-eqb}
use lib.Dec.{ltb, eqb}
use lib.Bits.{bit_or, or_lt, or_shr, or_mod}
use Rattle.numbers.specs.Bits.{with_bit}
use Rattle.numbers.proofs.BitLaws.{with-bit}
use Rattle.numbers.proofs.Tests.{and_left, and_right, and_both, and-four}
use Rattle.state.specs.declared.Control.{Control}
use Rattle.state.specs.State.{length_in_range, vaer_in_range, vpsr_in_range, in_range}

pub record Ranged (c : Control) : Type 0 where
  pub vlr : c.vlr ≤ 64
  pub vcr : c.vcr ≤ 64
  pub vaer : vaer_in_range c.vaer ≡ true
  pub vpsr : vpsr_in_range c.vpsr ≡ true

pub ranged : (c : Control) → in_range c ≡ true → Ranged c
unfolding in_range
ranged c e =
    let p = and-four (length_in_range c.vlr) (length_in_range c.vcr) (vaer_in_range c.vaer) (vpsr_in_range c.vpsr) e in
    record { vlr = leb-true c.vlr 64 p.0; vcr = leb-true c.vcr 64 p.1; vaer = p.2; vpsr = p.3 }

pub in-range : (c : Control) → Ranged c → in_range c ≡ true
unfolding in_range
in-range c r =
    and_both (length_in_range c.vlr && length_in_range c.vcr && vaer_in_range c.vaer) (vpsr_in_range c.vpsr)
    (and_both (length_in_range c.vlr && length_in_range c.vcr) (vaer_in_range c.vaer)
    (and_both (length_in_range c.vlr) (length_in_range c.vcr) (le-leb c.vlr 64 r.vlr) (le-leb c.vcr 64 r.vcr))
    r.vaer)
    r.vpsr

pub vlr-at-most : (c : Control) → in_range c ≡ true → c.vlr ≤ 64
vlr-at-most c e = (ranged c e).vlr

-- ---- VAER gathers by or
module _ (a b : ℕ) (ra : vaer_in_range a ≡ true) (rb : vaer_in_range b ≡ true) where
  abbrev parts : ℕ → Type 0
  parts v = (ltb v (2 ^ 32) ≡ true) × (eqb (v / 2 ^ 4 % 2) 0 ≡ true) × (eqb (v / 2 ^ 6 % 2 ^ 10) 0 ≡ true)

  apart : (v : ℕ) → vaer_in_range v ≡ true → parts v
  apart v r =
      let u = and_left (ltb v (2 ^ 32) && eqb (v / 2 ^ 4 % 2) 0) (eqb (v / 2 ^ 6 % 2 ^ 10) 0) r in
      let w = and_right (ltb v (2 ^ 32) && eqb (v / 2 ^ 4 % 2) 0) (eqb (v / 2 ^ 6 % 2 ^ 10) 0) r in
      (and_left (ltb v (2 ^ 32)) (eqb (v / 2 ^ 4 % 2) 0) u, and_right (ltb v (2 ^ 32)) (eqb (v / 2 ^ 4 % 2) 0) u, w)

  -- bits that neither has
  neither : (k n : ℕ) → eqb (a / 2 ^ k % 2 ^ n) 0 ≡ true → eqb (b / 2 ^ k % 2 ^ n) 0 ≡ true → eqb (bit_or a b / 2 ^ k % 2 ^ n) 0 ≡ true
  neither k n e f =
      eq-eqb (bit_or a b / 2 ^ k % 2 ^ n) 0
      (ap (λ (v : ℕ). v % 2 ^ n) (or_shr a b k) ∙ or_mod (a / 2 ^ k) (b / 2 ^ k) n
      ∙ ap₂ bit_or (eqb-true (a / 2 ^ k % 2 ^ n) 0 e) (eqb-true (b / 2 ^ k % 2 ^ n) 0 f))

  pub vaer-or : vaer_in_range (bit_or a b) ≡ true
  vaer-or =
      let x = apart a ra in let y = apart b rb in
      and_both (ltb (bit_or a b) (2 ^ 32) && eqb (bit_or a b / 2 ^ 4 % 2) 0) (eqb (bit_or a b / 2 ^ 6 % 2 ^ 10) 0)
      (and_both (ltb (bit_or a b) (2 ^ 32)) (eqb (bit_or a b / 2 ^ 4 % 2) 0)
      (lt-ltb (bit_or a b) (2 ^ 32) (or_lt 32 a b (ltb-true a (2 ^ 32) x.0) (ltb-true b (2 ^ 32) y.0)))
      (neither 4 1 x.1 y.1))
      (neither 6 10 x.2 y.2)

-- the bit of a register
each-register : ℕ → Bool
each-register zero = true
each-register (suc n) = vaer_in_range (2 ^ (16 + n)) && each-register n

each_at : (n vc : ℕ) → each-register n ≡ true → vc < n → vaer_in_range (2 ^ (16 + vc)) ≡ true
unfolding each-register
each_at zero vc e l = absurd (none l)
  where
    none : vc < 0 → ⊥
    none k = omega arith
each_at (suc n) vc e l = go (ℕ_discrete vc n) (each_at n vc (and_right (vaer_in_range (2 ^ (16 + n))) (each-register n) e))
  where
    go : Dec (vc ≡ n) → (vc < n → vaer_in_range (2 ^ (16 + vc)) ≡ true) → vaer_in_range (2 ^ (16 + vc)) ≡ true
    go (yes z) on = ap (λ (k : ℕ). vaer_in_range (2 ^ (16 + k))) z ∙ and_left (vaer_in_range (2 ^ (16 + n))) (each-register n) e
    go (no z) on = on (omega arith)

pub vaer-register : (vc : ℕ) → vc < 16 → vaer_in_range (2 ^ (16 + vc)) ≡ true
unfolding each-register
vaer-register vc = each_at 16 vc refl

-- ---- VEN cleared and AEX set
pub stopped : (v : ℕ) → vpsr_in_range v ≡ true → with_bit (with_bit v 0 0) 7 1 ≡ 128
stopped v r = ap (λ (w : ℕ). with_bit w 7 1) cleared ∙ with-bit (v / 128 * 128) 7 1 ∙ set
  where
    small : v < 256
    small = ltb-true v (2 ^ 8) (and_left (ltb v (2 ^ 8)) (eqb (v / 2 % 2 ^ 6) 0) r)

    none : v / 2 % 64 ≡ 0
    none = eqb-true (v / 2 % 2 ^ 6) 0 (and_right (ltb v (2 ^ 8)) (eqb (v / 2 % 2 ^ 6) 0) r)

    cleared : with_bit v 0 0 ≡ v / 128 * 128
    cleared = with-bit v 0 0 ∙ at
      where
        at : (v / 2 ^ 0 / 2 * 2 + 0) * 2 ^ 0 + v % 2 ^ 0 ≡ v / 128 * 128
        at = omega (arith, none, small)

    set : (v / 128 * 128 / 2 ^ 7 / 2 * 2 + 1) * 2 ^ 7 + v / 128 * 128 % 2 ^ 7 ≡ 128
    set = omega (arith, small)
