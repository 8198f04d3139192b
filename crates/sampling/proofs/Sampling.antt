-- Each test of refusals 9 to 11 holds exactly where its sentence does. A test is taken apart into its parts and put together from them.
-- Assumes nothing.
use mathlib.Core.Path.{◌≡◌}
use mathlib.Core.Bool.{Bool, ◌&&◌}
use Prim.Native.Nat.{ℕ, zero, suc, ◌-◌, ◌*◌, ◌≤◌, ◌<◌}
use native.Mathlib.Omega.{arith}
use lib.Dec.{T, leb, leb→le, le→leb}
use lib.IntN.{◌-ℤ◌, nat_abs}
use mir.Facts.{and_yes, yes_and}
use Rattle.lists.specs.Fold.{all_below}
use Rattle.lists.proofs.Below.{all_at, at_all}
use Rattle.recordings.specs.Card.{Card, rows, time, scale, value}
use Rattle.recordings.specs.Accepted.{LONGEST_STEP, LARGEST_DRIFT, Step, Gapless, Steady, Recorded, Accepted}
use Rattle.refusals.specs.First.{first, AllExact, check_at}
use Rattle.refusals.proofs.First.{passed, none_fails}
use Rattle.sampling.specs.Sampling.{step_obeys, times_close, near, channel_near, values_near, checks}

-- ---- 9
pub step_is : (step drift : ℕ) → T (step_obeys step drift) → Step step drift
unfolding step_obeys
step_is step drift t =
    let a = and_yes (leb 1 step) (leb step LONGEST_STEP && leb drift LARGEST_DRIFT) t in
    let b = and_yes (leb step LONGEST_STEP) (leb drift LARGEST_DRIFT) a.1 in
    record { some_step = leb→le 1 step a.0; short_step = leb→le step LONGEST_STEP b.0; small_drift = leb→le drift LARGEST_DRIFT b.1 }

pub step_passes : (step drift : ℕ) → Step step drift → T (step_obeys step drift)
unfolding step_obeys
step_passes step drift r =
    yes_and (leb 1 step) (leb step LONGEST_STEP && leb drift LARGEST_DRIFT) (le→leb 1 step r.some_step)
    (yes_and (leb step LONGEST_STEP) (leb drift LARGEST_DRIFT) (le→leb step LONGEST_STEP r.short_step) (le→leb drift LARGEST_DRIFT r.small_drift))

-- ---- 10
pub gapless : (c : Card) (step : ℕ) → T (times_close c.times step) → Gapless c step
unfolding times_close
gapless c step t = record {
  no_gap = λ i h. omega (arith, leb→le (time c (suc i) - time c i) step (all_at (λ j. leb (time c (suc j) - time c j) step) (rows c - 1) t i (omega arith)));
}

pub gapless_passes : (c : Card) (step : ℕ) → Gapless c step → T (times_close c.times step)
unfolding times_close
gapless_passes c step r =
    at_all (λ j. leb (time c (suc j) - time c j) step) (rows c - 1) (λ i h. le→leb (time c (suc i) - time c i) step (omega (arith, r.no_gap i (omega arith))))

-- ---- 11
-- of a number for each channel and sample, none above a bound
module _ (f : ℕ → ℕ → ℕ) (bound channels samples : ℕ) where
  abbrev within : Bool
  within = all_below (λ ch. all_below (λ i. leb (f ch i) bound) samples) channels

  pub bounded_at : T within → (ch i : ℕ) → ch < channels → i < samples → f ch i ≤ bound
  bounded_at t ch i h k = leb→le (f ch i) bound (all_at (λ j. leb (f ch j) bound) samples (all_at (λ m. all_below (λ j. leb (f m j) bound) samples) channels t ch h) i k)

  pub at_bounded : ((ch i : ℕ) → ch < channels → i < samples → f ch i ≤ bound) → T within
  at_bounded r = at_all (λ m. all_below (λ j. leb (f m j) bound) samples) channels (λ ch h. at_all (λ j. leb (f ch j) bound) samples (λ i k. le→leb (f ch i) bound (r ch i h k)))

module _ (c : Card) (drift : ℕ) where
  abbrev apart : ℕ → ℕ → ℕ
  apart ch i = scale c ch * nat_abs (value c ch (suc i) -ℤ value c ch i)

  pub steady : T (values_near c drift) → Steady c drift
  unfolding values_near channel_near near
  steady t = record { no_jump = λ i ch h k. bounded_at apart (2 * drift) c.setup.channels (rows c - 1) t ch i k (omega arith) }

  pub steady_passes : Steady c drift → T (values_near c drift)
  unfolding values_near channel_near near
  steady_passes r = at_bounded apart (2 * drift) c.setup.channels (rows c - 1) (λ ch i k h. r.no_jump i ch (omega arith) k)

-- ---- all of them
pub exact : (c : Card) (step drift : ℕ) → AllExact (checks c step drift)
exact c step drift = (record { sound = step_is step drift; complete = step_passes step drift }, λ _. (record { sound = gapless c step; complete = gapless_passes c step }, λ _. (record { sound = steady c drift; complete = steady_passes c drift }, λ _. tt)))

-- behind refusals 3, 4, 13 and 5 to 7, number 0 is acceptance, and acceptance is number 0
pub accepted : (c : Card) (step drift : ℕ) → Recorded c → first (checks c step drift) ≡ 0 → Accepted c step drift
accepted c step drift r e =
    let p = passed (checks c step drift) tt (exact c step drift) e in
    record { recorded = r; stepped = p.each 0 (omega arith); gapless = p.each 1 (omega arith); steady = p.each 2 (omega arith) }

pub accepted_passes : (c : Card) (step drift : ℕ) → Accepted c step drift → first (checks c step drift) ≡ 0
accepted_passes c step drift a = none_fails (checks c step drift) (exact c step drift) (record { each = each })
  where
    each : (j : ℕ) → j < 3 → (check_at (checks c step drift) j).sentence
    each zero h = a.stepped
    each (suc zero) h = a.gapless
    each (suc (suc zero)) h = a.steady
    each (suc (suc (suc j))) h = absurd (omega arith)
