-- `building::table_from` meets its contract: after k turns the nodes are `nodes_from` at k.
-- Assumes nothing.
use mathlib.Core.Path.{ap}
use Rattle.tables.specs.declared.Table.{Table}
use native.Mathlib.Numerals.{add-one}
use native.Mathlib.Omega.{arith}
use borrow.Author.Rules.{rules}
use Rattle.building.specs.Storing.{nodes_from}
use Rattle.building.proofs.table_from.Goals as goal

pub loop-k-init : goal.loop-k-init
unfolding nodes_from
loop-k-init c = (omega arith, ap (λ (t : Table). t.nodes) c.empty_table-table.ensures)

pub loop-k-preserved : goal.loop-k-preserved
unfolding nodes_from
loop-k-preserved c = (search rules, rw (add-one, c.loop-k.invariant.1, c.read_node.ensures))
