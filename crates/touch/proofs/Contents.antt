-- What stands at a place of a run, and that runs are equal where all of it is.
-- Assumes nothing.
use mathlib.Core.Path.{◌≡◌, refl, sym, ap, ◌∙◌, subst}
use mathlib.Core.List.{List}
use Prim.Native.Nat.{ℕ, ◌-◌, ◌<◌, ◌≤◌}
use native.Mathlib.Omega.{arith}
use native.Mathlib.Decide.{dec_lt}
use lib.Dec.{ltb}
use lib.ListN.{length, get_or, set, length-set, get_or-eq_default}
use lib.Seq.{ext_get_or, get_or-set_same, get_or-set_other}
use borrow.Author.Tests.{lt-ltb, le-ltb}
use Rattle.numbers.specs.Choice.{pick}
use Rattle.numbers.specs.Bits.{with_bit}
use Rattle.numbers.proofs.BitLaws.{digit, same_digits, digit-replaced, digit-kept}
use Rattle.machine.specs.Run.{Gathered, Added, Run, run}
use Rattle.state.specs.State.{with_vmr}
use Rattle.machine.specs.Step.{adding}
use Rattle.touch.specs.Touch.{mask_place, count_place}

-- an entry of a list that is replaced goes by the new one, or there is none
pub set_same : (l l' : List ℕ) (p v : ℕ) → length l ≡ length l' → get_or (set l p v) p 0 ≡ get_or (set l' p v) p 0
set_same l l' p v e = go (dec_lt p (length l))
  where
    go : Dec (p < length l) → get_or (set l p v) p 0 ≡ get_or (set l' p v) p 0
    go (yes h) = get_or-set_same l p v 0 h ∙ sym (get_or-set_same l' p v 0 (omega arith))
    go (no h) =
        get_or-eq_default (set l p v) 0 (rw (length-set l p v) (omega arith))
        ∙ sym (get_or-eq_default (set l' p v) 0 (rw (length-set l' p v) (omega arith)))

-- an element, a mask bit as 0 or 1, or the count VCR
unfoldable pub get : ℕ → Run → ℕ
get p r =
    pick (ltb p 1024) (get_or r.elements p 0)
    (pick (ltb p count_place) (digit r.control.vmr (p - 1024)) r.control.vcr)

pub get-element : (p : ℕ) (r : Run) → p < 1024 → get p r ≡ get_or r.elements p 0
unfolding get
get-element p r h = rw (lt-ltb p 1024 h)

pub get-mask : (i : ℕ) (r : Run) → i < 64 → get (mask_place i) r ≡ digit r.control.vmr i
unfolding get
get-mask i r h =
    rw (le-ltb (mask_place i) 1024 (omega arith), lt-ltb (mask_place i) count_place (omega arith))
    (ap (digit r.control.vmr) (omega arith))

pub get-count : (r : Run) → get count_place r ≡ r.control.vcr
unfolding get
get-count r = refl

-- the places are the elements, the mask bits and VCR
pub by_place : (P : ℕ → Type 0) → ((p : ℕ) → p < 1024 → P p) → ((i : ℕ) → i < 64 → P (mask_place i)) → P count_place → (p : ℕ) → p ≤ count_place → P p
by_place P f g c p h = go (dec_lt p 1024) (dec_lt p count_place)
  where
    go : Dec (p < 1024) → Dec (p < count_place) → P p
    go (yes k) d = f p k
    go (no k) (yes l) = subst P (omega arith) (g (p - 1024) (omega arith))
    go (no k) (no l) = subst P (omega arith) c

-- what no place shows stays, but for what is gathered: VLR, VAER, VPSR, how many elements there are and any past the 1,024, and VMR past bit 63
pub record Still (r r' : Run) : Type 0 where
  pub long : length r'.elements ≡ length r.elements
  pub past : (p : ℕ) → 1024 ≤ p → get_or r'.elements p 0 ≡ get_or r.elements p 0
  pub vlr : r'.control.vlr ≡ r.control.vlr
  pub vaer : r'.control.vaer ≡ r.control.vaer
  pub vpsr : r'.control.vpsr ≡ r.control.vpsr
  pub high : (k : ℕ) → 64 ≤ k → digit r'.control.vmr k ≡ digit r.control.vmr k

-- the parts of a run
parts : (l l' : List ℕ) (vlr vlr' vmr vmr' vcr vcr' vaer vaer' vpsr vpsr' : ℕ) (t t' : Gathered)
    → l ≡ l' → vlr ≡ vlr' → vmr ≡ vmr' → vcr ≡ vcr' → vaer ≡ vaer' → vpsr ≡ vpsr' → t ≡ t'
    → run l (record { vlr = vlr; vmr = vmr; vcr = vcr; vaer = vaer; vpsr = vpsr }) t
    ≡ run l' (record { vlr = vlr'; vmr = vmr'; vcr = vcr'; vaer = vaer'; vpsr = vpsr' }) t'
parts l l' vlr vlr' vmr vmr' vcr vcr' vaer vaer' vpsr vpsr' t t' a b c d e f g = cc

-- RUNS ARE EQUAL where their places are, and what no place shows
pub equal-runs : (r r' : Run) → Still r r' → ((p : ℕ) → p ≤ count_place → get p r' ≡ get p r)
    → r'.gathered ≡ r.gathered → r' ≡ r
equal-runs r r' still places gathers =
    parts _ _ _ _ _ _ _ _ _ _ _ _ _ _
    (ext_get_or 0 r'.elements r.elements still.long elements)
    still.vlr
    (same_digits _ _ mask)
    (sym (get-count r') ∙ places count_place (omega arith) ∙ get-count r)
    still.vaer still.vpsr gathers
  where
    elements : (i : ℕ) → i < length r'.elements → get_or r'.elements i 0 ≡ get_or r.elements i 0
    elements i h = go (dec_lt i 1024)
      where
        go : Dec (i < 1024) → get_or r'.elements i 0 ≡ get_or r.elements i 0
        go (yes k) = sym (get-element i r' k) ∙ places i (omega arith) ∙ get-element i r k
        go (no k) = still.past i (omega arith)

    mask : (i : ℕ) → digit r'.control.vmr i ≡ digit r.control.vmr i
    mask i = go (dec_lt i 64)
      where
        go : Dec (i < 64) → digit r'.control.vmr i ≡ digit r.control.vmr i
        go (yes h) = sym (get-mask i r' h) ∙ places (mask_place i) (omega arith) ∙ get-mask i r h
        go (no h) = still.high i (omega arith)

-- ---- one place replaced

-- mask bit i
abbrev pub masked : ℕ → ℕ → Run → Run
masked i v r = run r.elements (with_vmr r.control (with_bit r.control.vmr i v)) r.gathered

-- the element at p
abbrev pub stored : ℕ → ℕ → Run → Run
stored p v r = run (set r.elements p v) r.control r.gathered

module _ (i v : ℕ) (r : Run) (small : i < 64) (one : v < 2) where
  pub masked-here : get (mask_place i) (masked i v r) ≡ v
  masked-here = get-mask i (masked i v r) small ∙ digit-replaced r.control.vmr i v one

  pub masked-keeps : (p : ℕ) → p ≤ count_place → (p ≡ mask_place i → ⊥) → get p (masked i v r) ≡ get p r
  masked-keeps =
      by_place (λ (p : ℕ). (p ≡ mask_place i → ⊥) → get p (masked i v r) ≡ get p r)
      (λ p h other. get-element p (masked i v r) h ∙ sym (get-element p r h))
      (λ j h other.
      get-mask j (masked i v r) h ∙ digit-kept r.control.vmr i v one j (λ e. other (ap mask_place e)) ∙ sym (get-mask j r h))
      (λ other. get-count (masked i v r) ∙ sym (get-count r))

  pub masked-still : Still r (masked i v r)
  masked-still =
      record {
        long = refl;
        past = λ p h. refl;
        vlr = refl;
        vaer = refl;
        vpsr = refl;
        high = λ k h. digit-kept r.control.vmr i v one k (λ e. omega arith);
      }

module _ (x v : ℕ) (r : Run) (small : x < 1024) where
  pub stored-keeps : (p : ℕ) → p ≤ count_place → (p ≡ x → ⊥) → get p (stored x v r) ≡ get p r
  stored-keeps =
      by_place (λ (p : ℕ). (p ≡ x → ⊥) → get p (stored x v r) ≡ get p r)
      (λ p h other. get-element p (stored x v r) h ∙ get_or-set_other r.elements x p v 0 other ∙ sym (get-element p r h))
      (λ j h other. get-mask j (stored x v r) h ∙ sym (get-mask j r h))
      (λ other. get-count (stored x v r) ∙ sym (get-count r))

  pub stored-still : Still r (stored x v r)
  stored-still =
      record {
        long = length-set r.elements x v;
        past = λ p h. get_or-set_other r.elements x p v 0 (λ e. omega arith);
        vlr = refl;
        vaer = refl;
        vpsr = refl;
        high = λ k h. refl;
      }

-- an element replaced goes by its new value alone
pub stored_same : (x v : ℕ) (r r' : Run) → x < 1024 → length r.elements ≡ length r'.elements → get x (stored x v r) ≡ get x (stored x v r')
stored_same x v r r' small long =
    get-element x (stored x v r) small ∙ set_same r.elements r'.elements x v long ∙ sym (get-element x (stored x v r') small)

-- what is gathered stands at no place
pub adding-keeps : (a : Added) (p : ℕ) (r : Run) → get p (adding a r) ≡ get p r
unfolding get
adding-keeps a p r = refl

pub adding-still : (a : Added) (r s : Run) → Still r s → Still r (adding a s)
adding-still a r s k = record { long = k.long; past = k.past; vlr = k.vlr; vaer = k.vaer; vpsr = k.vpsr; high = k.high }
