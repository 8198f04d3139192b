-- The distance's answer: a value's distance from a predicate in its channel's unit, or the number of the first refusal that applies.
-- Assumes nothing.
use Rattle.std.specs.Prelude.{List, [], ◌∷◌, ℕ, ℤ, pos, Result, Ok, Err}
use Rattle.recordings.specs.declared.Predicate.{Predicate}
use Rattle.recordings.specs.Distance.{TOP, scaled_distance}
use Rattle.recordings.specs.Accepted.{MOST_CHANNELS, ScaleInRange, InRange, Proper}
use Rattle.refusals.specs.declared.Refusal.{Refusal}
use Rattle.refusals.specs.First.{Check, first, unless_refused}
use Rattle.refusals.specs.Number.{number}
use Rattle.predicates.specs.Predicates.{predicate_obeys, value_obeys}
use Rattle.scales.specs.Scales.{scale_obeys}

-- a number, 0 for no refusal, and a distance, 0 under a refusal
pub record DistanceOutcome : Type 0 where
  pub number : ℕ
  pub distance : ℤ

abbrev pub distance_outcome : Result ℤ Refusal → DistanceOutcome
distance_outcome (Ok d) = record { number = 0; distance = d }
distance_outcome (Err r) = record { number = number r; distance = pos 0 }

-- 4: the predicate is proper on no card, that is, not on one with all channels; then 13: the scale is out of range; then 7: the value is
abbrev pub distance_checks : Predicate → ℕ → ℤ → List Check
distance_checks p k v =
    record { number = 4; sentence = Proper p MOST_CHANNELS; passes = predicate_obeys p MOST_CHANNELS }
    ∷ record { number = 13; sentence = ScaleInRange k; passes = scale_obeys k }
    ∷ record { number = 7; sentence = InRange v; passes = value_obeys v }
    ∷ []

abbrev pub distance_refusal : Predicate → ℕ → ℤ → ℕ
distance_refusal p k v = first (distance_checks p k v)

unfoldable pub distance_judged : Predicate → ℕ → ℤ → DistanceOutcome
distance_judged p k v = record { number = distance_refusal p k v; distance = unless_refused (distance_refusal p k v) (scaled_distance TOP k p.range v) (pos 0) }
