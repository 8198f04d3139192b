-- The loop's invariant is the contract for the first i places.
-- Assumes nothing.
use mathlib.Core.Path.{◌≡◌}
use Prim.Native.Nat.{◌+◌, ◌*◌}
use lib.ListN.{get_or}
use lib.IntN.{pos}
use Rattle.lists.specs.Fill.{fill}
use Rattle.recordings.specs.Distance.{TOP, scaled_distance}
use Rattle.points.specs.Point.{signed}
use Rattle.rows.proofs.fill_distances.Given as goal

abbrev pub invariant-loop-i : goal.invariant-loop-i
invariant-loop-i l = l.part ≡ fill 0 l.i (λ j. signed l.affirmed (scaled_distance TOP l.scale l.range (get_or l.values (j * l.channels + l.channel) (pos 0)))) l.initial.part
