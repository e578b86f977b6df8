-- What each position of a queue is bound to, as the code works it out from tables of the positions that read, or write, each place. Assumes nothing.
use mathlib.Core.Path.{◌≡◌, refl, sym, ap, ap₂, subst, ◌∙◌}
use mathlib.Core.Bool.{Bool, true, false, ◌&&◌, ◌||◌, and_comm, and-true, and-false, or_comm, or_assoc}
use mathlib.Core.List.{List}
use Prim.Native.Nat.{ℕ, ◌+◌, ◌<◌}
use native.Mathlib.Omega.{arith}
use native.Mathlib.Decide.{ℕ_discrete}
use borrow.Author.Tests.{eq-eqb, ne_eqb}
use lib.Dec.{eqb, ltb}
use lib.Bits.{bit_or}
use lib.ListN.{length, get_or, set, replicate, length-set}
use lib.Seq.{get_or-set_same, get_or-set_other}
use Rattle.numbers.specs.Bits.{bit}
use Rattle.numbers.proofs.Sets.{bit-or, bit-none}
use Rattle.opcodes.specs.declared.Instruction.{Instruction}
use Rattle.opcodes.specs.Opcodes.{in_one_step, reads_va, reads_vb, reads_mask}
use Rattle.opcodes.specs.Working.{Below}
use Rattle.order.specs.SetsWorking.{joined}
use Rattle.order.proofs.Filling.{zeros}
use Rattle.order.proofs.Sets.{bit-joined, Built, built-none, built-at, built-grown}
use Rattle.touch.specs.BindsWorking.{target, reads_place, binds}
use Rattle.touch.specs.TablesWorking.{set_if, joined_at, readers_with, writers_with, bound_to}
use Rattle.touch.proofs.Binding.{eqb_comm, target-le}

-- ---- a table after a position has joined the set of a place
table-join : (t : Bool) (table : List ℕ) (s p r k : ℕ) → s < length table
    → bit (get_or (joined_at t table s p) r 0) k ≡ ((t && eqb r s) && eqb k p || bit (get_or table r 0) k)
table-join false table s p r k h = refl
table-join true table s p r k h = go (ℕ_discrete r s)
  where
    go : Dec (r ≡ s) → bit (get_or (set table s (joined (get_or table s 0) p)) r 0) k ≡ (eqb r s && eqb k p || bit (get_or table r 0) k)
    go (yes e) =
        ap (λ (i : ℕ). bit (get_or (set table s (joined (get_or table s 0) p)) i 0) k) e
        ∙ ap (λ (v : ℕ). bit v k) (get_or-set_same table s (joined (get_or table s 0) p) 0 h)
        ∙ bit-joined (get_or table s 0) p k
        ∙ ap₂ (λ (b : Bool) (i : ℕ). b && eqb k p || bit (get_or table i 0) k) (sym (eq-eqb r s e)) (sym e)
    go (no e) =
        ap (λ (v : ℕ). bit v k) (get_or-set_other table s r (joined (get_or table s 0) p) 0 e)
        ∙ ap (λ (b : Bool). b && eqb k p || bit (get_or table r 0) k) (sym (ne_eqb r s e))

joined-long : (t : Bool) (table : List ℕ) (s p : ℕ) → length (joined_at t table s p) ≡ length table
joined-long true table s p = simp length-set
joined-long false table s p = refl

-- a position that joins by either of two tests
either : (x y e r : Bool) → (x && e || (y && e || r)) ≡ ((x || y) && e || r)
either false y e r = refl
either true y true r = refl
either true true false r = refl
either true false false r = refl

-- ---- the tables after the first p positions
module _ (f : ℕ → Instruction) where
  pub record Tabled (p : ℕ) (readers writers : List ℕ) : Type 0 where
    pub readers-long : length readers ≡ 18
    pub writers-long : length writers ≡ 18
    pub read : (s : ℕ) → Built (λ (k : ℕ). reads_place (f k) s) (get_or readers s 0) p
    pub written : (s : ℕ) → s < 17 → Built (λ (k : ℕ). eqb (target (f k)) s) (get_or writers s 0) p
    pub counted : Built (λ (k : ℕ). in_one_step (f k)) (get_or writers 17 0) p

  pub tabled-none : Tabled 0 (replicate 18 0) (replicate 18 0)
  tabled-none = record {
    readers-long = refl;
    writers-long = refl;
    read = λ s. subst (λ (v : ℕ). Built (λ (k : ℕ). reads_place (f k) s) v 0) (sym (zeros 18 s)) (built-none _);
    written = λ s h. subst (λ (v : ℕ). Built (λ (k : ℕ). eqb (target (f k)) s) v 0) (sym (zeros 18 s)) (built-none _);
    counted = built-none _;
  }

  module _ (p : ℕ) (readers writers : List ℕ) (inv : Tabled p readers writers) (ins : Instruction) (at : ins ≡ f p) (small : Below ins) where
    first : List ℕ
    first = joined_at (reads_vb ins) readers ins.vb.0 p

    second : List ℕ
    second = joined_at (reads_va ins) first ins.va.0 p

    first-long : length first ≡ 18
    unfolding first
    first-long = joined-long (reads_vb ins) readers ins.vb.0 p ∙ inv.readers-long

    second-long : length second ≡ 18
    unfolding second
    second-long = joined-long (reads_va ins) first ins.va.0 p ∙ first-long

    readers-bits : (s k : ℕ) → bit (get_or (readers_with ins p readers) s 0) k ≡ (reads_place ins s && eqb k p || bit (get_or readers s 0) k)
    unfolding readers_with first second
    readers-bits s k =
        let l = inv.readers-long in let m = first-long in let n = second-long in let va = small.va in let vb = small.vb in
        table-join (reads_mask ins) second 16 p s k (omega arith)
        ∙ ap (λ (t : Bool). in-mask && eqb k p || t)
        (table-join (reads_va ins) first ins.va.0 p s k (omega arith)
        ∙ ap (λ (t : Bool). in-va && eqb k p || t) (table-join (reads_vb ins) readers ins.vb.0 p s k (omega arith)))
        ∙ either in-mask in-va (eqb k p) _
        ∙ either (in-mask || in-va) in-vb (eqb k p) _
        ∙ ap (λ (t : Bool). t && eqb k p || bit (get_or readers s 0) k)
        (or_comm (in-mask || in-va) in-vb ∙ ap (λ (t : Bool). in-vb || t) (or_comm in-mask in-va) ∙ sym (or_assoc in-vb in-va in-mask))
      where
        in-vb : Bool
        in-vb = reads_vb ins && eqb s ins.vb.0

        in-va : Bool
        in-va = reads_va ins && eqb s ins.va.0

        in-mask : Bool
        in-mask = reads_mask ins && eqb s 16

    wrote : List ℕ
    wrote = joined_at true writers (target ins) p

    wrote-long : length wrote ≡ 18
    unfolding wrote
    wrote-long = joined-long true writers (target ins) p ∙ inv.writers-long

    wrote-bits : (s k : ℕ) → bit (get_or wrote s 0) k ≡ (eqb (target ins) s && eqb k p || bit (get_or writers s 0) k)
    unfolding wrote
    wrote-bits s k =
        let l = inv.writers-long in let g = target-le ins small in
        table-join true writers (target ins) p s k (omega arith)
        ∙ ap (λ (t : Bool). t && eqb k p || bit (get_or writers s 0) k) (eqb_comm s (target ins))

    writers-bits : (s k : ℕ) → bit (get_or (writers_with ins p writers) s 0) k ≡ ((in_one_step ins && eqb s 17) && eqb k p || bit (get_or wrote s 0) k)
    unfolding writers_with wrote
    writers-bits s k = let l = wrote-long in table-join (in_one_step ins) wrote 17 p s k (omega arith)

    written-bits : (s k : ℕ) → s < 17 → bit (get_or (writers_with ins p writers) s 0) k ≡ (eqb (target ins) s && eqb k p || bit (get_or writers s 0) k)
    written-bits s k h =
        writers-bits s k
        ∙ ap (λ (t : Bool). (in_one_step ins && t) && eqb k p || bit (get_or wrote s 0) k) (ne_eqb s 17 (λ e. omega arith))
        ∙ ap (λ (t : Bool). t && eqb k p || bit (get_or wrote s 0) k) (and-false (in_one_step ins))
        ∙ wrote-bits s k

    counted-bits : (k : ℕ) → bit (get_or (writers_with ins p writers) 17 0) k ≡ (in_one_step ins && eqb k p || bit (get_or writers 17 0) k)
    counted-bits k =
        let g = target-le ins small in
        writers-bits 17 k
        ∙ ap₂ (λ (t u : Bool). t && eqb k p || u) (and-true (in_one_step ins))
        (wrote-bits 17 k ∙ ap (λ (t : Bool). t && eqb k p || bit (get_or writers 17 0) k) (ne_eqb (target ins) 17 (λ e. omega arith)))

    readers-stay : length (readers_with ins p readers) ≡ 18
    unfolding readers_with first second
    readers-stay = joined-long (reads_mask ins) second 16 p ∙ second-long

    writers-stay : length (writers_with ins p writers) ≡ 18
    unfolding writers_with wrote
    writers-stay = joined-long (in_one_step ins) wrote 17 p ∙ wrote-long

    pub tabled-more : (readers' writers' : List ℕ) → readers' ≡ readers_with ins p readers → writers' ≡ writers_with ins p writers
        → Tabled (p + 1) readers' writers'
    tabled-more readers' writers' r w = record {
      readers-long = ap length r ∙ readers-stay;
      writers-long = ap length w ∙ writers-stay;
      read = λ s. built-grown _ (get_or readers s 0) (get_or readers' s 0) p (reads_place ins s) (inv.read s) (ap (λ (i : Instruction). reads_place i s) at)
          (λ k. ap (λ (l : List ℕ). bit (get_or l s 0) k) r ∙ readers-bits s k);
      written = λ s h. built-grown _ (get_or writers s 0) (get_or writers' s 0) p (eqb (target ins) s) (inv.written s h)
          (ap (λ (i : Instruction). eqb (target i) s) at) (λ k. ap (λ (l : List ℕ). bit (get_or l s 0) k) w ∙ written-bits s k h);
      counted = built-grown _ (get_or writers 17 0) (get_or writers' 17 0) p (in_one_step ins) inv.counted (ap (λ (i : Instruction). in_one_step i) at)
          (λ k. ap (λ (l : List ℕ). bit (get_or l 17 0) k) w ∙ counted-bits k);
    }

    -- ---- p is bound to the earlier positions whose instructions bind its own
    module _ (k : ℕ) where
      bit-if : (t : Bool) (s : ℕ) {v : Bool} → bit (get_or writers s 0) k ≡ v → bit (set_if t writers s) k ≡ (t && v)
      bit-if true s e = e
      bit-if false s e = bit-none k

      writes_at : (s : ℕ) → s < 17 → bit (get_or writers s 0) k ≡ (ltb k p && eqb (target (f k)) s)
      writes_at s h = built-at _ _ _ (inv.written s h) k

      or-both : (x y : ℕ) {u v : Bool} → bit x k ≡ u → bit y k ≡ v → bit (bit_or x y) k ≡ (u || v)
      or-both x y e g = bit-or x y k ∙ ap₂ (λ (s t : Bool). s || t) e g

      out : (l w x b y a z m r u c : Bool)
          → (l && w || (x && (l && b) || y && (l && a) || z && (l && m)) || l && r || u && (l && c))
          ≡ (l && (w || (x && b || y && a || z && m) || r || c && u))
      out true w x b y a z m r u c = ap (λ (t : Bool). w || (x && b || y && a || z && m) || r || t) (and_comm u c)
      out false w x b y a z m r u c = rw (and-false x, and-false y, and-false z, and-false u)

      pub bound-is : (r : ℕ) → r ≡ bound_to ins readers writers → bit r k ≡ (ltb k p && binds (f k) (f p))
      unfolding bound_to binds
      bound-is r e =
          let va = small.va in let vb = small.vb in
          ap (λ (v : ℕ). bit v k) e
          ∙ or-both _ _
          (or-both _ _
          (or-both _ _ (writes_at (target ins) (target-le ins small))
          (or-both _ _
          (or-both _ _ (bit-if (reads_vb ins) ins.vb.0 (writes_at ins.vb.0 (omega arith)))
          (bit-if (reads_va ins) ins.va.0 (writes_at ins.va.0 (omega arith))))
          (bit-if (reads_mask ins) 16 (writes_at 16 (omega arith)))))
          (built-at _ _ _ (inv.read (target ins)) k))
          (bit-if (in_one_step ins) 17 (built-at _ _ _ inv.counted k))
          ∙ out (ltb k p) _ (reads_vb ins) _ (reads_va ins) _ (reads_mask ins) _ _ (in_one_step ins) _
          ∙ ap (λ (i : Instruction). ltb k p && binds (f k) i) at
