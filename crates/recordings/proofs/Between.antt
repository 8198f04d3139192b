-- From the samples to a history. Samples and seconds are two rows of places without a gap above the step, and at a second near a sample no channel has moved
-- by more than the drift; so a strengthened margin above the drift makes the requirement true there.
-- Assumes nothing.
use mathlib.Core.Path.{◌≡◌, refl, sym, ap, subst}
use mathlib.Core.Bool.{Bool, true, false}
use mathlib.Core.Logic.{◌⊎◌, inl, inr}
use Prim.Native.Nat.{ℕ, suc, ◌+◌, ◌-◌, ◌≤◌, ◌<◌}
use native.Mathlib.Omega.{arith}
use lib.Dec.{T}
use lib.IntN.{ℤ, pos}
use Rattle.logic.specs.declared.Extremum.TheVariants.{Smallest}
use Rattle.logic.specs.Formula.{Formula, atom}
use Rattle.logic.specs.Reading.{read, booleans, margins}
use Rattle.logic.specs.Negation.{push}
use Rattle.logic.specs.Strengthening.{strengthened}
use Rattle.logic.proofs.Duality.{signed, pushed, booleans_dual}
use Rattle.logic.proofs.Margins.{above, above_tests, margins_dual, Decides, decides_step}
use Rattle.logic.proofs.Carry.{carried, itself}
use Rattle.logic.proofs.Line.{climbs}
use Rattle.logic.proofs.Crossing.{Dense, Close, bridge}
use Rattle.recordings.specs.declared.Range.TheVariants.{Unset}
use Rattle.recordings.specs.Card.{Card, rows, time, scale, predicate, first_time, last_time, samples, span}
use Rattle.recordings.specs.Margin.{distance_at, robustness}
use Rattle.recordings.specs.History.{Second, OneStep, History, true_when, true_over}
use Rattle.recordings.proofs.Distances.{scaled_decides}

-- all that the argument asks of a recording: a sample, rising times, no gap above the step, and known channels
pub record Sampled (c : Card) (step : ℕ) : Type 0 where
  pub some_row : 1 ≤ rows c
  pub rising : (i : ℕ) → suc i < rows c → time c i < time c (suc i)
  pub no_gap : (i : ℕ) → suc i < rows c → time c (suc i) ≤ time c i + step
  pub some_step : 1 ≤ step
  pub known : (p : ℕ) → ((predicate c p).range ≡ Unset) ⊎ ((predicate c p).channel < c.setup.channels)

module _ {c : Card} {step : ℕ} (ok : Sampled c step) where
  samples_dense : Dense step (first_time c) (last_time c) (samples c)
  samples_dense = record {
    full = ok.some_row;
    rises = λ i h k. ok.rising i k;
    close = λ i h k. ok.no_gap i k;
    begins = refl;
    ends = λ i h. ap (time c) (omega arith);
  }

  first_last : first_time c ≤ last_time c
  first_last = climbs (time c) 0 (rows c - 1) (λ m h k. ok.rising m (omega arith)) 0 (rows c - 1) (omega arith) (omega (arith, ok.some_row)) (omega arith)

  span_dense : Dense step (first_time c) (last_time c) (span c)
  span_dense = record {
    full = omega (arith, first_last);
    rises = λ i h k. omega arith;
    close = λ i h k. omega (arith, ok.some_step);
    begins = refl;
    ends = λ i h. omega arith;
  }

  module _ (top drift : ℕ) (small : drift < top) (h : ℕ → ℕ → ℤ) (history : History c step drift h) where
    -- a predicate at a second near a sample
    atom_decides : (p i t : ℕ) → Close step (samples c) (span c) i t → Decides drift (distance_at top c p i) (true_when c h p t)
    atom_decides p i t n = elim (ok.known p) [
      | inl u ↦ rw u ((decides_step drift top).nothing Smallest)
      | inr u ↦ scaled_decides drift top (scale c (predicate c p).channel) (predicate c p).range _ _ (history.follows (predicate c p).channel i t u n.here.high (record { from_first = n.there.low; to_last = omega (arith, n.there.high) }) (record { after = n.near.down; before = n.near.up }))
    ]

    literal : (b : Bool) (p i t : ℕ) → Close step (samples c) (span c) i t → T (above (pos drift) (read (margins top) (samples c) (distance_at top c) (strengthened step b (atom p)) i)) → T (read booleans (span c) (true_when c h) (push b (atom p)) t)
    literal true p i t n = (atom_decides p i t n).when_true
    literal false p i t n = (atom_decides p i t n).when_false

    close_to : (i t : ℕ) → i < rows c → Second c t → OneStep c step i t → Close step (samples c) (span c) i t
    close_to i t k s o = record {
      here = record { low = omega arith; high = k };
      there = record { low = s.from_first; high = omega (arith, s.to_last) };
      near = record { down = o.after; up = o.before };
    }

    -- the strengthened margin of φ at sample i above the drift: φ is true at every second of the span at most a step from i; that of its negation: φ is false there
    pub carries : (b : Bool) (φ : Formula ℕ) (i t : ℕ) → i < rows c → Second c t → OneStep c step i t → T (above (pos drift) (robustness top c (strengthened step b φ) i)) → T (signed booleans b (true_over c h φ t))
    unfolding robustness true_over
    carries b φ i t k s o m =
        subst T (sym (pushed booleans_dual (span c) (true_when c h) b φ t))
        (carried (margins_dual top) (above (pos drift)) (above_tests top (pos drift) (omega arith) small) (λ v. v) itself step (samples c) (span c) (distance_at top c) (true_when c h) (Close step (samples c) (span c)) (bridge samples_dense span_dense) literal b φ i t (close_to i t k s o) m)
