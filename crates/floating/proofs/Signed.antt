-- A number of 32 bits and its bits, and a binary64 number and its bits. Assumes nothing.
use Rattle.std.proofs.Common.{◌≡◌, ℕ, suc, ◌-◌, ◌^◌, ◌<◌, ◌≤◌, Bool, true, false, not, T, ltb, ℤ, pos, negsuc, ◌-ℤ◌, sym, refl, ap, ◌∙◌, arith, nltb→le, w32, SFits, to_z, of_z}
use lib.Ieee.{Float, nan, inf, fin, binary64, is_nan, to_bits}
use mir.Val.{sel}
use mir.ValLaws.{to_z-of_z}
use Rattle.numbers.specs.Choice.{pick}
use Rattle.numbers.specs.Signed.{signed, low32}
use Rattle.numbers.proofs.Differences.{sub-neg}
use Rattle.floating.specs.declared.Reading.{Reading}
use Rattle.floating.specs.declared.Reading.TheVariants.{Longword}
use Rattle.floating.specs.Reading.{bits_of}

no : {A : Type 0} → true ≡ false → A
no p = let z : ◌≡◌ {A = ℕ} 0 1 = cc in absurd (omega arith)

-- ---- the language's numbers of 32 bits are longwords
pub signed_is : (l : ℕ) → l < 2 ^ 32 → to_z w32 l ≡ signed l
unfolding signed
signed_is l h = go (ltb l (2 ^ 31)) (nltb→le l (2 ^ 31))
  where
    go : (t : Bool) → (T (not t) → 2 ^ 31 ≤ l) → sel t (pos l) (negsuc (2 ^ 32 - suc l)) ≡ pick t (pos l) (pos l -ℤ pos (2 ^ 32))
    go true g = refl
    go false g = sym (sub-neg l (2 ^ 32) (2 ^ 32 - suc l) (omega arith))

low-is : (i : ℤ) → SFits w32 i → of_z w32 i ≡ low32 i
unfolding low32
low-is (pos n) f = let l : n < 2 ^ 31 = f.sfits in omega arith
low-is (negsuc n) f = let l : n < 2 ^ 31 = f.sfits in omega arith

-- ---- the bits of the one NaN
pub nan-bits : (x : Float) → is_nan x ≡ true → 9221120237041090560 ≡ to_bits binary64 x
unfolding is_nan to_bits
nan-bits nan h = refl
nan-bits (inf s) h = no (sym h)
nan-bits (fin s m e) h = no (sym h)

-- ---- the bits of a longword's reading
pub longword-bits : (r : Reading) (i : ℤ) (u v : ℕ) → v ≡ u → u ≡ of_z w32 (to_z w32 (of_z w32 i)) → SFits w32 i → r ≡ Longword i → v ≡ bits_of r
longword-bits r i u v hv hu f e = hv ∙ hu ∙ ap (of_z w32) (to_z-of_z w32 i f) ∙ low-is i f ∙ sym (ap bits_of e)
