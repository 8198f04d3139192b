-- Strengthening only lowers a margin. Whatever bound the strengthened margin exceeds, the margin exceeds too, because a contracted window shows no place that
-- the window does not, and an expanded one leaves none out; so the strengthened margin cannot be the larger.
-- Assumes nothing.
use mathlib.Core.Path.{◌≡◌, refl, sym, subst}
use mathlib.Core.Bool.{Bool, true, false}
use Prim.Native.Nat.{ℕ, ◌+◌, ◌≤◌, ◌<◌}
use native.Mathlib.Omega.{arith}
use native.Mathlib.Decide.{dec_le}
use lib.Dec.{T}
use lib.IntN.{ℤ, neg_ℤ}
use lib.Signed.{◌≤ℤ◌}
use Rattle.numbers.specs.Order.{Within}
use Rattle.numbers.proofs.Parts.{plus, minus, lt_parts, parts_lt, parts_le, abs_parts, parts_apart, within_neg}
use Rattle.logic.specs.Formula.{Formula, atom}
use Rattle.logic.specs.Reading.{read, margins}
use Rattle.logic.specs.Negation.{push}
use Rattle.logic.specs.Strengthening.{strengthened}
use Rattle.logic.proofs.Duality.{signed, pushed}
use Rattle.logic.proofs.Margins.{above, above_tests, margins_dual}
use Rattle.logic.proofs.Carry.{carried}
use Rattle.logic.proofs.Crossing.{same_row}
use Rattle.recordings.specs.Card.{Card, samples}
use Rattle.recordings.specs.Margin.{distance_at, robustness}
use Rattle.recordings.proofs.Margins.{Bounded, robustness_bounded}

module _ (top : ℕ) (c : Card) (step : ℕ) where
  -- above e from -top on, below top
  exceeds : (e : ℤ) → minus e ≤ top → plus e < top → (b : Bool) (φ : Formula ℕ) (i : ℕ) → T (above e (robustness top c (strengthened step b φ) i)) → T (above e (signed (margins top) b (robustness top c φ i)))
  unfolding robustness
  exceeds e low high b φ i m =
      subst (λ (z : ℤ). T (above e z)) (sym (pushed (margins_dual top) (samples c) (distance_at top c) b φ i))
      (carried (margins_dual top) (above e) (above_tests top e low high) (above e) (above_tests top e low high) step (samples c) (samples c) (distance_at top c) (distance_at top c) (λ i t. i ≡ t) (same_row step (samples c)) same b φ i i refl m)
    where
      same : (b : Bool) (p i t : ℕ) → i ≡ t → T (above e (read (margins top) (samples c) (distance_at top c) (strengthened step b (atom p)) i)) → T (above e (read (margins top) (samples c) (distance_at top c) (push b (atom p)) t))
      same true p i t q = subst (λ (u : ℕ). T (above e (distance_at top c p u))) q
      same false p i t q = subst (λ (u : ℕ). T (above e (neg_ℤ (distance_at top c p u)))) q

  -- ρ(S(φ), i) ≤ ρ(φ, i) at true, ρ(N(φ), i) ≤ −ρ(φ, i) at false
  pub strengthening_lowers : Bounded top c → (b : Bool) (φ : Formula ℕ) (i : ℕ) → robustness top c (strengthened step b φ) i ≤ℤ signed (margins top) b (robustness top c φ i)
  strengthening_lowers h b φ i =
      lowers (robustness top c (strengthened step b φ) i) (signed (margins top) b (robustness top c φ i)) (robustness_bounded top c h (strengthened step b φ) i) (within_signed b (robustness_bounded top c h φ i))
      (λ low high. exceeds (signed (margins top) b (robustness top c φ i)) low high b φ i)
    where
      within_signed : (b : Bool) {z : ℤ} → Within top z → Within top (signed (margins top) b z)
      within_signed true w = w
      within_signed false w = within_neg w

      lowers : (s z : ℤ) → Within top s → Within top z → (minus z ≤ top → plus z < top → T (above z s) → T (above z z)) → s ≤ℤ z
      lowers s z ws wz f = go (dec_le (plus s + minus z) (plus z + minus s))
        where
          go : Dec (plus s + minus z ≤ plus z + minus s) → s ≤ℤ z
          go (yes a) = record { le = parts_le s z a }
          go (no a) = absurd (omega (arith, lt_parts z z (f (omega (arith, abs_parts z, wz.size)) (omega (arith, abs_parts s, abs_parts z, parts_apart z, ws.size, wz.size)) (parts_lt z s (omega arith)))))
