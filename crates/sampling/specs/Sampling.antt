-- The tests of refusals 9 to 11, which the verdict alone has. `proofs/Sampling` shows each equal to its sentence in `recordings/specs/Accepted`.
-- Assumes nothing.
use Rattle.std.specs.Prelude.{Bool, ◌&&◌, List, [], ◌∷◌, ℕ, suc, ◌-◌, ◌*◌, ◌≤◌, leb, length, get_or, ℤ, ◌-ℤ◌, nat_abs}
use Rattle.lists.specs.Fold.{all_below}
use Rattle.recordings.specs.Card.{Card, rows, scale, value}
use Rattle.recordings.specs.Accepted.{MOST_SCALE, LONGEST_STEP, LARGEST_DRIFT, InRange, Step, Gapless, Steady, Recorded}
use Rattle.refusals.specs.First.{Check}

-- ---- 9: step or drift out of range
unfoldable pub step_obeys : ℕ → ℕ → Bool
step_obeys step drift = leb 1 step && (leb step LONGEST_STEP && leb drift LARGEST_DRIFT)

-- ---- 10: two neighbouring times differ by more than the step
unfoldable pub times_close : List ℕ → ℕ → Bool
times_close ts step = all_below (λ i. leb (get_or ts (suc i) 0 - get_or ts i 0) step) (length ts - 1)

-- ---- 11: neighbouring values of a channel differ, in the scaled unit, by more than 2 × drift
unfoldable pub near : ℕ → ℤ → ℤ → ℕ → Bool
near scale from to drift = leb (scale * nat_abs (to -ℤ from)) (2 * drift)

unfoldable pub channel_near : Card → ℕ → ℕ → Bool
channel_near c ch drift = all_below (λ i. near (scale c ch) (value c ch i) (value c ch (suc i)) drift) (rows c - 1)

unfoldable pub values_near : Card → ℕ → Bool
values_near c drift = all_below (λ ch. channel_near c ch drift) c.setup.channels

-- ---- in the order in which they count; in a verdict they stand behind refusals 3 to 8
abbrev pub checks : Card → ℕ → ℕ → List Check
checks c step drift =
    record { number = 9; sentence = Step step drift; passes = step_obeys step drift }
    ∷ record { number = 10; sentence = Gapless c step; passes = times_close c.times step }
    ∷ record { number = 11; sentence = Steady c drift; passes = values_near c drift }
    ∷ []

-- what the test of two neighbours may rely on
pub record Comparable (scale : ℕ) (from to : ℤ) (drift : ℕ) : Type 0 where
  pub small_scale : scale ≤ MOST_SCALE
  pub from_in_range : InRange from
  pub to_in_range : InRange to
  pub small_drift : drift ≤ LARGEST_DRIFT

-- and those of a recording: refusals 4, 13, 5 to 7 and 9 do not apply
pub record Comparables (c : Card) (drift : ℕ) : Type 0 where
  pub recorded : Recorded c
  pub small_drift : drift ≤ LARGEST_DRIFT
