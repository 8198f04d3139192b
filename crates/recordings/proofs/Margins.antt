-- The margin's sign is the truth over the samples, no margin is zero or beyond the top, and pushing "not" down changes neither margin nor truth. Each is one
-- relation that the reading's operations keep.
-- Assumes nothing.
use mathlib.Core.Path.{◌≡◌}
use mathlib.Core.Bool.{Bool}
use mathlib.Core.Logic.{◌⊎◌, inl, inr}
use Prim.Native.Nat.{ℕ, ◌+◌, ◌*◌, ◌<◌}
use native.Mathlib.Omega.{arith}
use native.Mathlib.Decide.{dec_lt}
use lib.Dec.{lit<, lit≤}
use lib.ListN.{length, get_or, get_or-eq_default}
use lib.IntN.{ℤ, pos}
use lib.Signed.{lt_z}
use Rattle.numbers.specs.Order.{Within}
use Rattle.numbers.proofs.Parts.{within_neg, within_more}
use Rattle.logic.specs.Formula.{Formula}
use Rattle.logic.specs.Reading.{booleans, margins}
use Rattle.logic.specs.Negation.{push}
use Rattle.logic.proofs.Steps.{read_step}
use Rattle.logic.proofs.Duality.{signed, pushed, booleans_dual}
use Rattle.logic.proofs.Margins.{Sign, sign_step, sign_negated, sign_not_zero, bounded_step, margins_dual}
use Rattle.logic.specs.declared.Extremum.TheVariants.{Smallest}
use Rattle.recordings.specs.declared.Range.TheVariants.{Unset}
use Rattle.recordings.specs.Card.{Card, scale, value, predicate, samples, span}
use Rattle.recordings.specs.Distance.{TOP}
use Rattle.recordings.specs.Margin.{distance_at, true_at, robustness, margin, true_of}
use Rattle.recordings.specs.History.{true_when, true_over}
use Rattle.recordings.specs.Accepted.{ScaleInRange, InRange, Measured, Recorded}
use Rattle.recordings.proofs.Distances.{Open, scaled_sign, scaled_small, scaled_open}

pub top_positive : 0 < TOP
top_positive = lit< tt

-- ---- sign and truth
-- a distance times 0 would say nothing, so every set predicate's channel has a scale above 0; refusals 4, 13 and 5 see to it
pub record Positive (c : Card) : Type 0 where
  pub positive : (p : ℕ) → ((predicate c p).range ≡ Unset) ⊎ (0 < scale c (predicate c p).channel)

pub robustness_sign : (top : ℕ) → 0 < top → {c : Card} → Positive c → (φ : Formula ℕ) (i : ℕ) → Sign (robustness top c φ i) (true_of c φ i)
unfolding robustness true_of
robustness_sign top h {c} s φ i = read_step (sign_step top h) (samples c) sign_negated atom_sign φ i
  where
    atom_sign : (p j : ℕ) → Sign (distance_at top c p j) (true_at c p j)
    atom_sign p j = elim (s.positive p) [ inl u ↦ rw u ((sign_step top h).nothing Smallest) | inr k ↦ scaled_sign top _ h k (predicate c p).range (value c (predicate c p).channel j) ]

-- a requirement is true of the samples exactly when its margin is above zero
pub margin_truth : {c : Card} → Positive c → (φ : Formula ℕ) (i : ℕ) → lt_z (pos 0) (margin c φ i) ≡ true_of c φ i
margin_truth k φ i = (robustness_sign TOP top_positive k φ i).when_true

-- margins are never zero
pub margin_not_zero : {c : Card} → Positive c → (φ : Formula ℕ) (i : ℕ) → margin c φ i ≡ pos 0 → ⊥
margin_not_zero k φ i = sign_not_zero (robustness_sign TOP top_positive k φ i)

-- ---- bounds
-- every predicate's distance lies within the top at every sample
pub record Bounded (top : ℕ) (c : Card) : Type 0 where
  pub bound : (p i : ℕ) → Within top (distance_at top c p i)

pub robustness_bounded : (top : ℕ) (c : Card) → Bounded top c → (φ : Formula ℕ) (i : ℕ) → Within top (robustness top c φ i)
unfolding robustness
robustness_bounded top c h φ i = read_step (bounded_step top) (samples c) {at' = true_at c} (λ a b. within_neg) h.bound φ i

pub measured : {c : Card} → Recorded c → Measured c
measured ok = record { channels = ok.channels; scaled = ok.scaled; all_scales = ok.lengths.all_scales; values = ok.values }

module _ {c : Card} (ok : Measured c) where
  -- what stands past the values reads as 0
  pub in_range_at : (m : ℕ) → InRange (get_or c.values m (pos 0))
  in_range_at m = go (dec_lt m (length c.values))
    where
      go : Dec (m < length c.values) → InRange (get_or c.values m (pos 0))
      go (yes h) = ok.values.each m h
      go (no h) = rw (get_or-eq_default c.values (pos 0) {n = m} (omega arith)) (record { size = lit≤ tt })

  -- each channel has a scale, one of those that were judged
  pub channel_scaled : (ch : ℕ) → ch < c.setup.channels → ScaleInRange (scale c ch)
  channel_scaled ch h = ok.scaled.each ch (omega (arith, ok.all_scales)) (omega (arith, ok.channels.few_channels))

  scale_judged : (p : ℕ) → ((predicate c p).range ≡ Unset) ⊎ ScaleInRange (scale c (predicate c p).channel)
  scale_judged p = elim (ok.channels.proper p).known [ inl u ↦ inl u | inr h ↦ inr (channel_scaled _ h) ]

  pub measured_positive : Positive c
  measured_positive = record { positive = λ p. elim (scale_judged p) [ inl u ↦ inl u | inr k ↦ inr k.some ] }

  -- a distance that is not free is smaller than TOP
  pub distance_below : (p i : ℕ) → Open (predicate c p).range ⊎ Within 2_000_000_001_000 (distance_at TOP c p i)
  distance_below p i = elim (scale_judged p) [
    | inl u ↦ inl (rw u tt)
    | inr k ↦ scaled_small TOP _ k.most (predicate c p).range _ (ok.channels.proper p).ends (in_range_at (i * c.setup.channels + (predicate c p).channel))
  ]

  pub measured_bounded : Bounded TOP c
  measured_bounded = record { bound = λ p i. go p i (distance_below p i) }
    where
      go : (p i : ℕ) → Open (predicate c p).range ⊎ Within 2_000_000_001_000 (distance_at TOP c p i) → Within TOP (distance_at TOP c p i)
      go p i (inl o) = rw (scaled_open TOP (scale c (predicate c p).channel) (predicate c p).range (value c (predicate c p).channel i) o) (record { size = lit≤ tt })
      go p i (inr w) = within_more (lit≤ tt) w

  -- no margin is further from zero than TOP
  pub margin_bounded : (φ : Formula ℕ) (i : ℕ) → Within TOP (margin c φ i)
  margin_bounded = robustness_bounded TOP c measured_bounded

-- ---- "not" pushed down: at true nothing changes, at false the margin and the truth are negated
pub push_margin : (c : Card) (b : Bool) (φ : Formula ℕ) (i : ℕ) → signed (margins TOP) b (margin c φ i) ≡ margin c (push b φ) i
unfolding robustness
push_margin c b φ i = pushed (margins_dual TOP) (samples c) (distance_at TOP c) b φ i

pub push_truth : (c : Card) (b : Bool) (φ : Formula ℕ) (i : ℕ) → signed booleans b (true_of c φ i) ≡ true_of c (push b φ) i
unfolding true_of
push_truth c b φ i = pushed booleans_dual (samples c) (true_at c) b φ i

pub push_history : (c : Card) (h : ℕ → ℕ → ℤ) (b : Bool) (φ : Formula ℕ) (t : ℕ) → signed booleans b (true_over c h φ t) ≡ true_over c h (push b φ) t
unfolding true_over
push_history c h b φ t = pushed booleans_dual (span c) (true_when c h) b φ t
