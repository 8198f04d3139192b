-- Where the three tests pass, their sentences are what the distance asks for.
-- Assumes nothing.
use Rattle.std.proofs.Common.{sym}
use Rattle.numbers.proofs.Parts.{holds}
use Rattle.predicates.proofs.Predicates.{proper, value_in_range}
use Rattle.scales.proofs.Scales.{scale_is}
use Rattle.distances.proofs.distance.Goals as goal

pub scaled_distance-requires : goal.scaled_distance-requires
scaled_distance-requires c = (
  value_in_range _ (holds (sym c.if-not-value_obeys.ensures)),
  (proper _ _ (holds (sym c.if-not-predicate_obeys.ensures))).ends,
  (scale_is _ (holds (sym c.if-not-scale_obeys.ensures))).most,
)
