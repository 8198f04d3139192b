-- The loop's invariant is the contract for the first k nodes, in the first places of the slices.
-- Assumes nothing.
use mathlib.Core.Path.{◌≡◌}
use lib.ListN.{length}
use Rattle.recordings.specs.Card.{Card}
use Rattle.tables.specs.declared.Table.{Table}
use Rattle.arrivals.specs.Arrivals.{Row}
use Rattle.watch_cells.specs.State.{CELLS}
use Rattle.watch_cells.specs.Taking.{SameBeyond, Arriving, Taking}
use Rattle.watch_cells.proofs.take_nodes.Given as goal

abbrev pub invariant-loop-k : goal.invariant-loop-k
invariant-loop-k l =
    SameBeyond l.initial.cells l.cells
    × (length l.cells ≡ CELLS)
    × ((t : Table) (c : Card) (r : Row) → Arriving l.values l.opening l.since t c r → l.count ≡ t.count → Taking l.numbers l.initial.cells t c r 0 → Taking l.numbers l.cells t c r l.k)
