-- A run that is filled place by place while the places that are still to be filled hold something else: what stands there does not count, and what is
-- filled in the end is as if nothing else had ever stood there.
-- Assumes nothing.
use mathlib.Core.Path.{◌≡◌, refl, sym, ap, ◌∙◌}
use Prim.Native.Nat.{ℕ, zero, suc, ◌+◌, ◌≤◌, ◌<◌}
use native.Mathlib.Omega.{arith}
use native.Mathlib.Decide.{dec_lt}
use mathlib.Core.List.{List}
use lib.ListN.{length, get_or, set}
use lib.Seq.{set_comm, set-set, set-get_or, get_or-set_same, get_or-set_other}
use Rattle.lists.specs.Fill.{fill}
use Rattle.lists.proofs.Filled.{length_fill, fill_before}

module _ {X : Type 0} (b : ℕ) (f : ℕ → X) where
  fill_past : (w : List X) (p : ℕ) (v : X) (m : ℕ) → b + m ≤ p → fill b m f (set w p v) ≡ set (fill b m f w) p v
  unfolding fill
  fill_past w p v zero h = refl
  fill_past w p v (suc m) h =
      rw (fill_past w p v m (omega arith)) (set_comm (fill b m f w) p (b + m) v (f m) (λ (e : p ≡ b + m). omega arith))

  -- a place that is filled anyway
  fill_over : (w : List X) (p : ℕ) (v : X) (m : ℕ) → b ≤ p → p < b + m → fill b m f (set w p v) ≡ fill b m f w
  unfolding fill
  fill_over w p v zero h k = absurd (omega arith)
  fill_over w p v (suc m) h k =
      elim (dec_lt p (b + m)) [
        | yes q ↦ rw (fill_over w p v m h q) refl
        | no q ↦
            let e : p ≡ b + m = omega arith in
            rw (e, fill_past w (b + m) v m (omega arith)) (set-set (fill b m f w) (b + m) v (f m))
      ]

  -- what stands there already
  pub fill_same : (w : List X) (d : X) (m : ℕ) → ((i : ℕ) → i < m → get_or w (b + i) d ≡ f i) → fill b m f w ≡ w
  unfolding fill
  fill_same w d zero h = refl
  fill_same w d (suc m) h = rw (fill_same w d m (λ i p. h i (omega arith)), ← h m (omega arith)) (set-get_or w (b + m) d)

module _ {X : Type 0} (b n : ℕ) (f : ℕ → X) where
  fill_twice : (w : List X) (c m : ℕ) (g : ℕ → X) → b ≤ c → c + m ≤ b + n → fill b n f (fill c m g w) ≡ fill b n f w
  unfolding fill
  fill_twice w c zero g h k = refl
  fill_twice w c (suc m) g h k = fill_over b f (fill c m g w) (c + m) (g m) n (omega arith) (omega arith) ∙ fill_twice w c m g h (omega arith)

  -- the first i of the n places are filled; w was u
  pub record Reused (d : X) (u w : List X) (i : ℕ) : Type 0 where
    pub elsewhere_same : fill b n f w ≡ fill b n f u
    pub filled : (j : ℕ) → j < i → get_or w (b + j) d ≡ f j

  module _ {d : X} {u w : List X} where
    pub reused_length : {i : ℕ} → Reused d u w i → length w ≡ length u
    reused_length R = sym (length_fill b n f w) ∙ ap length R.elsewhere_same ∙ length_fill b n f u

    pub reused_before : {i : ℕ} → Reused d u w i → (m : ℕ) → m < b → get_or w m d ≡ get_or u m d
    reused_before R m h = sym (fill_before b n f w m d refl h) ∙ ap (λ (l : List X). get_or l m d) R.elsewhere_same ∙ fill_before b n f u m d refl h

    -- places that are still to be filled may be written
    pub reused_else : {l : List X} (i c m : ℕ) (g : ℕ → X) → Reused d u w i → b + i ≤ c → c + m ≤ b + n → l ≡ fill c m g w → Reused d u l i
    reused_else i c m g R h k e = record {
      elsewhere_same = rw e (fill_twice w c m g (omega arith) k ∙ R.elsewhere_same);
      filled = λ j p. fill_before c m g w (b + j) d e (omega arith) ∙ R.filled j p;
    }

    pub reused_next : {v : X} (i : ℕ) → Reused d u w i → i < n → b + n ≤ length w → v ≡ f i → Reused d u (set w (b + i) v) (i + 1)
    reused_next {v} i R h k e = record {
      elsewhere_same = fill_over b f w (b + i) v n (omega arith) (omega arith) ∙ R.elsewhere_same;
      filled = λ j p. elim (dec_lt j i) [
        | yes q ↦ get_or-set_other w (b + i) (b + j) v d (λ (x : b + j ≡ b + i). omega arith) ∙ R.filled j q
        | no q ↦ let x : j ≡ i = omega arith in rw x (get_or-set_same w (b + i) v d (omega arith) ∙ e)
      ];
    }

    pub reused_all : {i : ℕ} → Reused d u w i → n ≤ i → w ≡ fill b n f u
    reused_all R h = sym (fill_same b f w d n (λ i p. R.filled i (omega arith))) ∙ R.elsewhere_same

pub reused_none : {X : Type 0} (b n : ℕ) (f : ℕ → X) (d : X) (u : List X) → Reused b n f d u u 0
reused_none b n f d u = record { elsewhere_same = refl; filled = λ j p. absurd (omega arith) }
