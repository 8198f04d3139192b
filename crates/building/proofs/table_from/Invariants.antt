-- `building::table_from` meets its contract: after k turns the nodes are `nodes_from` at k.
-- Assumes nothing.
use Prim.Native.Nat.{◌≤◌}
use mathlib.Core.Path.{◌≡◌}
use Rattle.building.specs.Storing.{nodes_from}
use Rattle.building.proofs.table_from.Given as goal

abbrev pub invariant-loop-k : goal.invariant-loop-k
invariant-loop-k l = (l.k ≤ l.count) × (l.table.nodes ≡ nodes_from l.cells l.k)
