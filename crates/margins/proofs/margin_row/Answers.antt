-- "Not" negates its child's row; every other kind is the node's own row, whose values are the margins of the node over its children's.
-- Assumes nothing.
use Rattle.std.proofs.Common.{ap, rules}
use Rattle.recordings.specs.Card.{card_of}
use Rattle.tables.specs.Kind.{operator}
use Rattle.tables.proofs.EveryKind.{no_not}
use Rattle.margins.proofs.Nodes.{value_filled, negation_filled}
use Rattle.margins.proofs.margin_row.Goals as goal

pub returns-then-node-eq-NOT : goal.returns-then-node-eq-NOT
returns-then-node-eq-NOT c = λ φ H. negation_filled (card_of c.args.recording.now) c.args.work.now c.args.k φ H c.args.node (ap operator c.if-node-eq-NOT.true) (search rules) c.signed_row.ensures

pub returns-else-node-eq-NOT : goal.returns-else-node-eq-NOT
returns-else-node-eq-NOT c =
    λ φ H.
    value_filled (card_of c.args.recording.now) c.args.work.now c.args.k φ H c.args.node c.requires.ruled (no_not c.args.node.kind c.if-node-eq-NOT.false) (rw c.plain-window.ensures at c.node_row.ensures)
