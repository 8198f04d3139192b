-- The cells in which the places up to cut hold their extrema: filled from the last place down, or holding them already.
-- Assumes nothing.
use mathlib.Core.Path.{◌≡◌, sym, ap, ◌∙◌}
use mathlib.Core.List.{List}
use Prim.Native.Nat.{ℕ, ◌+◌, ◌-◌, ◌≤◌, ◌<◌, min}
use native.Mathlib.Omega.{arith}
use native.Mathlib.Decide.{dec_le}
use lib.IntN.{ℤ, pos}
use lib.ListN.{length, get_or}
use Rattle.lists.proofs.Filled.{fill_none, fill_in}
use Rattle.lists.proofs.Reused.{fill_same}
use Rattle.logic.specs.declared.Extremum.{Extremum}
use Rattle.logic.specs.Reading.{margin_extreme}
use Rattle.sliding.specs.Run.{over, suffixed}
use Rattle.sliding.proofs.Over.{over_front}

-- one place more in front: x and out are what is read back of a cell and of a result
pub suffix_next : (e : Extremum) (f : ℕ → ℤ) (j high : ℕ) {old x res out : ℤ} → 0 < j → j ≤ high → old ≡ over e f j high → x ≡ f (j - 1) → res ≡ margin_extreme e old x → out ≡ res → out ≡ over e f (j - 1) high
suffix_next e f j high h k p q r o =
    let y : j - 1 + 1 ≡ j = omega arith in
    o ∙ r ∙ rw (p, q) (sym (rw y at (over_front e f (j - 1) high (omega arith))))

-- the place in front has come to the run's low end, or there is no place to fill
module _ (e : Extremum) (f : ℕ → ℤ) (low high j : ℕ) (h : min low high ≤ j) (k : j ≤ high) (r : j ≤ low) where
  pub suffixes_done : (b : ℕ) (w : List ℤ) {l : List ℤ} → l ≡ suffixed e f b j high w → l ≡ suffixed e f b low high w
  suffixes_done b w g =
      elim (dec_le low high) [
        | yes q ↦ let p : j ≡ low = omega arith in rw p at g
        | no q ↦
            let x : high - j ≡ 0 = omega arith in
            let y : high - low ≡ 0 = omega arith in
            (rw x at g) ∙ sym (fill_none _ _ w) ∙ (rw y (fill_none _ _ w))
      ]

module _ (e : Extremum) (f : ℕ → ℤ) (b low cut : ℕ) (w : List ℤ) where
  -- places that hold their extrema already
  pub suffixed_same : ((j : ℕ) → low ≤ j → j < cut → get_or w (b + j) (pos 0) ≡ over e f j cut) → w ≡ suffixed e f b low cut w
  suffixed_same h =
      sym (fill_same (b + low) (λ m. over e f (low + m) cut) w (pos 0) (cut - low) (λ i p.
      let q : b + low + i ≡ b + (low + i) = omega arith in
      rw q (h (low + i) (omega arith) (omega arith))))

  -- what a place holds
  pub suffixed_at : {l : List ℤ} → l ≡ suffixed e f b low cut w → b + cut ≤ length w → (j : ℕ) → low ≤ j → j < cut → get_or l (b + j) (pos 0) ≡ over e f j cut
  suffixed_at g k j p q =
      let x : b + j ≡ b + low + (j - low) = omega arith in
      let y : low + (j - low) ≡ j = omega arith in
      rw (g, x) (fill_in (b + low) (cut - low) (λ m. over e f (low + m) cut) w (j - low) (pos 0) (omega arith) (omega arith) ∙ ap (λ (m : ℕ). over e f m cut) y)
