-- What the distance's contract promises, sentence by sentence: which number is answered, and what is handed back with it.
-- Assumes nothing.
use mathlib.Core.Path.{◌≡◌, sym, ◌∙◌}
use mathlib.Core.Logic.{⊎_elim}
use Prim.Native.Nat.{ℕ, zero, suc, ◌<◌}
use native.Mathlib.Omega.{arith}
use lib.IntN.{ℤ, pos, ◌*ℤ◌}
use Rattle.numbers.specs.Order.{Within}
use Rattle.logic.proofs.Margins.{sign_not_zero}
use Rattle.recordings.specs.declared.Predicate.{Predicate}
use Rattle.recordings.specs.Distance.{TOP, distance, scaled_distance, Measures}
use Rattle.recordings.specs.Accepted.{MOST_CHANNELS, ScaleInRange, InRange, Proper}
use Rattle.recordings.proofs.Nearest.{distance_measures}
use Rattle.recordings.proofs.Distances.{Open, scaled_open, scaled_times, scaled_small, scaled_sign}
use Rattle.recordings.proofs.Margins.{top_positive}
use Rattle.refusals.specs.First.{AllExact, Refused, check_at}
use Rattle.refusals.proofs.First.{refused, first_is, passed, none_fails, unless_none, unless_some}
use Rattle.predicates.proofs.Predicates.{proper, proper_passes, value_in_range, in_range_passes}
use Rattle.scales.proofs.Scales.{scale_is, scale_passes}
use Rattle.distances.specs.Answers.{distance_checks, distance_judged}

module _ (p : Predicate) (k : ℕ) (v : ℤ) where
  -- each test of the list holds exactly where its sentence does
  exact_checks : AllExact (distance_checks p k v)
  exact_checks = (record { sound = proper p MOST_CHANNELS; complete = proper_passes p MOST_CHANNELS }, λ _. (record { sound = scale_is k; complete = scale_passes k }, λ _. (record { sound = value_in_range v; complete = in_range_passes v }, λ _. tt)))

  -- a number m is answered exactly when its condition applies and no earlier one does
  pub number_refused : ((distance_judged p k v).number ≡ 0 → ⊥) → Refused (distance_checks p k v) (distance_judged p k v).number
  unfolding distance_judged
  number_refused h = refused (distance_checks p k v) exact_checks h

  pub refused_number : (m : ℕ) → Refused (distance_checks p k v) m → (distance_judged p k v).number ≡ m
  unfolding distance_judged
  refused_number m h = first_is (distance_checks p k v) exact_checks h

  -- 0 is answered exactly when none applies
  pub number_none : (distance_judged p k v).number ≡ 0 → Proper p MOST_CHANNELS × ScaleInRange k × InRange v
  unfolding distance_judged
  number_none e =
      let r = passed (distance_checks p k v) tt exact_checks e in
      (r.each 0 (omega arith), r.each 1 (omega arith), r.each 2 (omega arith))

  pub none_number : Proper p MOST_CHANNELS → ScaleInRange k → InRange v → (distance_judged p k v).number ≡ 0
  unfolding distance_judged
  none_number a b d = none_fails (distance_checks p k v) exact_checks (record { each = each })
    where
      each : (j : ℕ) → j < 3 → (check_at (distance_checks p k v) j).sentence
      each zero h = a
      each (suc zero) h = b
      each (suc (suc zero)) h = d
      each (suc (suc (suc j))) h = absurd (omega arith)

  -- under a refusal the distance is 0, else it is the definition's
  pub refused_distance : ((distance_judged p k v).number ≡ 0 → ⊥) → (distance_judged p k v).distance ≡ pos 0
  unfolding distance_judged
  refused_distance h = unless_some _ _ _ h

  pub distance_is : (distance_judged p k v).number ≡ 0 → (distance_judged p k v).distance ≡ scaled_distance TOP k p.range v
  unfolding distance_judged
  distance_is e = unless_none _ _ e

  -- the scale times a distance: inside, how far the nearest outside number is; outside, minus how far the nearest inside number is
  pub measured : (distance_judged p k v).number ≡ 0 → (Open p.range → ⊥) → ((distance_judged p k v).distance ≡ pos k *ℤ distance TOP p.range v) × Measures p.range v (distance TOP p.range v)
  measured e o = (distance_is e ∙ scaled_times TOP k p.range v o, distance_measures TOP p.range v (number_none e).0.ends o)

  -- which is below TOP, either sign
  pub below_top : (distance_judged p k v).number ≡ 0 → (Open p.range → ⊥) → Within 2_000_000_001_000 (distance_judged p k v).distance
  below_top e o = rw (distance_is e) (⊎_elim (λ q. absurd (o q)) (λ w. w) (scaled_small TOP k (number_none e).1.most p.range v (number_none e).0.ends (number_none e).2))

  -- free and unset give TOP
  pub free_is_top : (distance_judged p k v).number ≡ 0 → Open p.range → (distance_judged p k v).distance ≡ pos TOP
  free_is_top e o = distance_is e ∙ scaled_open TOP k p.range v o

  -- never zero
  pub distance_not_zero : (distance_judged p k v).number ≡ 0 → (distance_judged p k v).distance ≡ pos 0 → ⊥
  distance_not_zero e z = sign_not_zero (scaled_sign TOP k top_positive (number_none e).1.some p.range v) (sym (distance_is e) ∙ z)
