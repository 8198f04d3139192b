-- The first p places are the predicates that the numbers give; the others are unset.
-- Assumes nothing.
use mathlib.Core.Path.{◌≡◌}
use Prim.Native.Nat.{◌≤◌}
use Rattle.lists.specs.Fill.{fill}
use Rattle.predicate_lines.specs.Form.{unset}
use Rattle.flat.specs.Predicates.{predicate_from}
use Rattle.flat.proofs.predicates_from.Given as goal

abbrev pub invariant-loop-p : goal.invariant-loop-p
invariant-loop-p l = (l.p ≤ 16) × (l.predicates ≡ fill 0 l.p (predicate_from l.ranges l.ends) unset)
