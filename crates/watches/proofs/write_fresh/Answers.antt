-- The nodes, the setup and the numbers in front, one run after the other; then the nodes' cells.
-- Assumes nothing.
use mathlib.Core.Path.{◌≡◌, ap, ◌∙◌}
use mathlib.Core.List.{map}
use native.Mathlib.Omega.{arith}
use lib.ListN.{length, length-map}
use Rattle.tables.specs.Tree.{NODES}
use Rattle.building.specs.Storing.{CELLS, cells_of}
use Rattle.building.proofs.Cells.{length_cells}
use Rattle.watch_cells.specs.State.{kept_node}
use borrow.Author.Rules.{rules}
use Rattle.watches.proofs.write_fresh.Goals as goal

pub returns : goal.returns
returns c =
    let p = c.put_numbers in
    let w = c.write_setup in
    let q = c.put_numbers-2 in
    let o = c.cells_of-places in
    let k = c.kept_nodes in
    let l : length o.result ≡ CELLS = search rules in
    let n : length c.args.table.nodes ≡ NODES = omega (arith, l, ap length (o.ensures ∙ ap cells_of k.ensures), length_cells (map kept_node c.args.table.nodes), length-map c.args.table.nodes kept_node) in
    record { numbers = rw (w.ensures.numbers, p.ensures, o.ensures, k.ensures) at q.ensures; cells = rw w.ensures.cells at c.clear_nodes.ensures; arrays = (n, search rules) }
