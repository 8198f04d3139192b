-- The loop's invariant: no place from i up to j is as far from i.
-- Assumes nothing.
use Prim.Native.Nat.{◌≤◌}
use Rattle.logic.specs.declared.Stop.TheVariants.{Before}
use Rattle.temporal.specs.Edges.{Reached}
use Rattle.temporal.proofs.first_apart.Given as goal

abbrev pub invariant-loop-j : goal.invariant-loop-j
invariant-loop-j l = (l.i ≤ l.j) × Reached l.times (Before l.apart) l.i l.j
