-- The loop's invariant is the contract for the first k nodes: their rows hold their margins, so the next node's row can be filled from them.
-- Assumes nothing.
use mathlib.Core.Path.{◌≡◌}
use Rattle.lists.specs.Fill.{fill_rows}
use Rattle.recordings.specs.Card.{card_of, rows}
use Rattle.recordings.specs.Margin.{margin}
use Rattle.tables.specs.Tree.{tree}
use Rattle.margins.proofs.fill_margins.Given as goal

abbrev pub invariant-loop-k : goal.invariant-loop-k
invariant-loop-k l =
    l.work ≡ fill_rows (rows (card_of l.recording)) (λ q. margin (card_of l.recording) (tree l.fn.table.nodes q)) l.k l.initial.work
