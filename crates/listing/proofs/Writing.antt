-- Writing bytes one after another. Assumes nothing.
use mathlib.Core.Path.{◌≡◌, refl, sym, ap, ◌∙◌}
use mathlib.Core.List.{List, [], ◌∷◌, ◌++◌, append_assoc}
use Prim.Native.Nat.{ℕ, zero, suc, ◌+◌, ◌-◌, ◌/◌, ◌%◌, ◌≤◌, ◌<◌}
use native.Mathlib.Nat.{add-zero, le-add_right}
use native.Mathlib.Omega.{arith}
use lib.ListN.{length, take, drop, set, length-append, take-append-drop}
use lib.Seq.{take-set-le, drop-set-add, drop-cons}
use Rattle.numbers.specs.Over.{over}
use Rattle.numbers.proofs.Over.{over-over, length_over}
use Rattle.state.specs.declared.Control.{Control}
use Rattle.listing.specs.Text.{digit_of, digits, width_of, line, element_line, control_lines}
use Rattle.listing.specs.declared.write.Writer.{Writer}
use Rattle.listing.specs.Working.{Wrote, Writes}
use Rattle.listing.proofs.Width.{width_two}

-- two writings, the second where the first ended, are one
pub wrote-both : {t₀ t₁ t₂ x y : List ℕ} {a b c : ℕ} → Wrote t₀ t₁ a b x → Wrote t₁ t₂ b c y → a + length x ≤ length t₀
    → Wrote t₀ t₂ a c (x ++ y)
wrote-both {t₀} {t₁} {t₂} {x} {y} {a} p q h = record {
  bytes = q.bytes ∙ (λ i. over (p.bytes i) (p.place i) y) ∙ over-over t₀ a x y h;
  place = simp length-append (omega arith);
}

-- a writing that has room keeps the length
pub wrote-length : {t₀ t₁ x : List ℕ} {a b : ℕ} → Wrote t₀ t₁ a b x → a + length x ≤ length t₀ → length t₁ ≡ length t₀
wrote-length {t₀} {t₁} {x} {a} p h = ap length p.bytes ∙ length_over t₀ a x h

-- ---- a writer

-- nothing is written
pub writes-none : (w : Writer) → Writes w w []
writes-none w = record {
  wrote = record { bytes = rw (add-zero w.at) (sym (take-append-drop w.at w.text.now)); place = sym (add-zero w.at) };
  kept = refl;
  lent = refl;
}

-- so are two of a writer, one after the other
pub writes-both : {w₀ w₁ w₂ : Writer} {x y : List ℕ} → Writes w₀ w₁ x → w₀.at + length x ≤ length w₀.text.now → Writes w₁ w₂ y
    → Writes w₀ w₂ (x ++ y)
writes-both p room q = record {
  wrote = wrote-both p.wrote q.wrote room;
  kept = q.kept ∙ p.kept;
  lent = q.lent ∙ p.lent;
}

-- ---- the loop that writes digits from the lowest up

pub digits-length : (base n x : ℕ) → length (digits base n x) ≡ n
unfolding digits
digits-length base zero x = refl
digits-length base (suc n) x =
    let e : length (digits base n (x / base)) ≡ n = digits-length base n (x / base) in
    length-append (digits base n (x / base)) (digit_of (x % base) ∷ []) ∙ omega arith

-- a store just past where ds is to stand writes ds with one more
store-over : (text : List ℕ) (at m d : ℕ) (ds : List ℕ) → length ds ≡ m → at + m < length text
    → over (set text (at + m) d) at ds ≡ over text at (ds ++ (d ∷ []))
store-over text at m d ds e h =
    let n : at + length (ds ++ (d ∷ [])) ≡ suc (at + m) = ap (λ (k : ℕ). at + k) (length-append ds (d ∷ [])) ∙ omega arith in
    let tail : drop (at + length ds) (set text (at + m) d) ≡ d ∷ drop (at + length (ds ++ (d ∷ []))) text =
    ap (λ (k : ℕ). drop (at + k) (set text (at + m) d)) e
    ∙ ap (λ (k : ℕ). drop (at + m) (set text k d)) (sym (add-zero (at + m)))
    ∙ drop-set-add (at + m) text 0 d
    ∙ ap (λ (l : List ℕ). set l 0 d) (drop-cons text (at + m) 0 h)
    ∙ ap (λ (k : ℕ). d ∷ drop k text) (sym n) in
    ap (λ (l : List ℕ). l ++ (ds ++ drop (at + length ds) (set text (at + m) d))) (take-set-le at text (at + m) d (le-add_right at m))
    ∙ ap (λ (l : List ℕ). take at text ++ (ds ++ l)) tail
    ∙ ap (λ (l : List ℕ). take at text ++ l) (sym (append_assoc ds (d ∷ []) (drop (at + length (ds ++ (d ∷ []))) text)))

pub number-turns : (text₀ text : List ℕ) (at₀ at base n x left rest d place : ℕ)
    → over text at (digits base left rest) ≡ over text₀ at₀ (digits base n x)
    → 0 < left → at + left ≤ length text → d ≡ digit_of (rest % base) → place ≡ at + (left - 1)
    → over (set text place d) at (digits base (left - 1) (rest / base)) ≡ over text₀ at₀ (digits base n x)
unfolding digits
number-turns text₀ text at₀ at base n x left rest d place e h room ed ep =
    let p : suc (left - 1) ≡ left = omega arith in
    ap (λ (k : ℕ). over (set text k d) at (digits base (left - 1) (rest / base))) ep
    ∙ store-over text at (left - 1) d (digits base (left - 1) (rest / base)) (digits-length base (left - 1) _) (omega arith)
    ∙ rw ed (ap (λ (k : ℕ). over text at (digits base k rest)) p)
    ∙ e

-- what `number` leaves
abbrev pub WritesDigits : Writer → Writer → ℕ → ℕ → ℕ → Type 0
WritesDigits before after base n x = Writes before after (digits base n x) × (after.at ≡ before.at + n)

pub number-ends : (w₀ w₁ w₂ : Writer) (base n x left rest : ℕ)
    → over w₁.text.now w₁.at (digits base left rest) ≡ over w₀.text.now w₀.at (digits base n x) → left ≤ 0 → w₁.at ≡ w₀.at
    → length w₁.text.now ≡ length w₀.text.now → w₁.text.ghost_name ≡ w₀.text.ghost_name → w₂.text ≡ w₁.text → w₂.at ≡ w₁.at + n → WritesDigits w₀ w₂ base n x
unfolding digits
number-ends w₀ w₁ w₂ base n x left rest e h ea el en et er =
    let z : left ≡ 0 = omega arith in
    let none : over w₁.text.now w₁.at [] ≡ w₁.text.now = rw (add-zero w₁.at) (take-append-drop w₁.at w₁.text.now) in (
      record {
        wrote = record { bytes = ap (λ t. t.now) et ∙ sym none ∙ rw z at e; place = omega (arith, digits-length base n x) };
        kept = ap (λ t. length t.now) et ∙ el;
        lent = ap (λ t. t.ghost_name) et ∙ en;
      },
      omega arith,
    )

-- ---- lines

-- what `line` leaves: the line, and where it ends
abbrev pub WritesLine : Writer → Writer → List ℕ → ℕ → ℕ → ℕ → Type 0
WritesLine before after start base n x = Writes before after (line start base n x) × (after.at ≡ before.at + length start + n + 1)

pub line_wrote : {w₀ w₁ w₂ w₃ : Writer} {start : List ℕ} (base n x : ℕ) → w₀.at + length start + n < length w₀.text.now
    → Writes w₀ w₁ start → WritesDigits w₁ w₂ base n x → Writes w₂ w₃ (10 ∷ []) → WritesLine w₀ w₃ start base n x
unfolding line
line_wrote base n x room p q e =
    let d = digits-length base n x in
    (writes-both p (omega arith) (writes-both q.0 (omega (arith, p.wrote.place)) e), omega (arith, p.wrote.place, q.1, e.wrote.place))

pub line-length : (start : List ℕ) (base n x : ℕ) → length (line start base n x) ≡ length start + n + 1
unfolding line
line-length start base n x =
    let d : length (digits base n x) ≡ n = digits-length base n x in
    let e : length (digits base n x ++ (10 ∷ [])) ≡ length (digits base n x) + 1 = length-append (digits base n x) (10 ∷ []) in
    length-append start (digits base n x ++ (10 ∷ [])) ∙ omega arith

module _ {w₀ w₁ w₂ w₃ w₄ w₅ : Writer} where
  pub element-wrote : (register element v : ℕ) → w₀.at + 25 ≤ length w₀.text.now
      → Writes w₀ w₁ (86 ∷ []) → WritesDigits w₁ w₂ 10 2 register → Writes w₂ w₃ (91 ∷ [])
      → WritesDigits w₃ w₄ 10 2 element → WritesLine w₄ w₅ (93 ∷ 32 ∷ []) 16 16 v
      → Writes w₀ w₅ (element_line register element v)
  unfolding element_line
  element-wrote register element v room p q s u w =
      let d₁ = digits-length 10 2 register in let d₂ = digits-length 10 2 element in
      let pa : w₁.at ≡ w₀.at + 1 = p.wrote.place in let pc : w₃.at ≡ w₂.at + 1 = s.wrote.place in
      writes-both p (omega arith) (writes-both q.0 (omega arith) (writes-both s (omega arith) (writes-both u.0 (omega arith) w.0)))

  pub control-wrote : (n₀ n₁ : ℕ) (k : Control) → k.vlr ≤ 64 → k.vcr ≤ 64 → w₀.at + 63 ≤ length w₀.text.now
      → n₀ ≡ width_of k.vlr → n₁ ≡ width_of k.vcr
      → WritesLine w₀ w₁ (86 ∷ 76 ∷ 82 ∷ 32 ∷ []) 10 n₀ k.vlr
      → WritesLine w₁ w₂ (86 ∷ 77 ∷ 82 ∷ 32 ∷ []) 16 16 k.vmr
      → WritesLine w₂ w₃ (86 ∷ 67 ∷ 82 ∷ 32 ∷ []) 10 n₁ k.vcr
      → WritesLine w₃ w₄ (86 ∷ 65 ∷ 69 ∷ 82 ∷ 32 ∷ []) 16 8 k.vaer
      → WritesLine w₄ w₅ (86 ∷ 80 ∷ 83 ∷ 82 ∷ 32 ∷ []) 16 8 k.vpsr → Writes w₀ w₅ (control_lines k)
  unfolding control_lines
  control-wrote n₀ n₁ k h₀ h₁ room e₀ e₁ p₀ p₁ p₂ p₃ p₄ =
      let f₀ = width_two k.vlr n₀ h₀ e₀ in let f₁ = width_two k.vcr n₁ h₁ e₁ in
      let m₀ = line-length (86 ∷ 76 ∷ 82 ∷ 32 ∷ []) 10 n₀ k.vlr in
      let m₁ = line-length (86 ∷ 77 ∷ 82 ∷ 32 ∷ []) 16 16 k.vmr in
      let m₂ = line-length (86 ∷ 67 ∷ 82 ∷ 32 ∷ []) 10 n₁ k.vcr in
      let m₃ = line-length (86 ∷ 65 ∷ 69 ∷ 82 ∷ 32 ∷ []) 16 8 k.vaer in
      rw (← e₀, ← e₁)
      (writes-both p₀.0 (omega arith) (writes-both p₁.0 (omega arith) (writes-both p₂.0 (omega arith) (writes-both p₃.0 (omega arith) p₄.0))))

pub element-length : (register element v : ℕ) → length (element_line register element v) ≡ 25
unfolding element_line
element-length register element v =
    let d₁ : length (digits 10 2 register) ≡ 2 = digits-length 10 2 register in
    let d₂ : length (digits 10 2 element) ≡ 2 = digits-length 10 2 element in
    let l : length (line (93 ∷ 32 ∷ []) 16 16 v) ≡ 2 + 16 + 1 = line-length (93 ∷ 32 ∷ []) 16 16 v in
    simp length-append (omega arith)
