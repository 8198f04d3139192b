-- The loop's invariant is the contract for the first k nodes: their rows hold their margins, so the next node's row can be filled from them.
-- Assumes nothing.
use Rattle.std.proofs.Common.{arith}
use Rattle.lists.proofs.Filled.{earlier_row}
use Rattle.recordings.specs.Card.{card_of, rows}
use Rattle.tables.specs.Tree.{tree}
use Rattle.margins.specs.Nodes.{Holds}
use Rattle.margins.proofs.Filled.{filled_none, filled_holds, holds_bounded, filled_next}
use Rattle.margins.proofs.fill_margins.Goals as goal
use Rattle.margins.proofs.fill_margins.Goals.{In-loop-k}

-- the rows before k hold the margins of their nodes
hold : (c : In-loop-k) → Holds (card_of c.args.recording.now) c.loop-k.work c.loop-k.k (tree c.args.table.nodes)
hold c =
    filled_holds (card_of c.args.recording.now) (tree c.args.table.nodes) c.loop-k.k c.args.work.now
    (omega (arith, c.requires.room, earlier_row c.loop-k.k c.args.table.count (rows (card_of c.args.recording.now)) c.loop-k-test.true)) c.loop-k.invariant

pub loop-k-init : goal.loop-k-init
loop-k-init c = filled_none (card_of c.args.recording.now) (tree c.args.table.nodes) c.args.work.now

pub margin_row-requires : goal.margin_row-requires
margin_row-requires c =
    let t = c.loop-k-test.true in
    record {
      ruled = c.requires.sound.ruled.each c.loop-k.k t;
      named = c.requires.sound.named.set c.loop-k.k t;
      recorded = c.requires.sound.recorded;
      room = omega (arith, c.requires.room, c.loop-k.auto.work, earlier_row c.loop-k.k c.args.table.count (rows (card_of c.args.recording.now)) t);
      bounded = holds_bounded (card_of c.args.recording.now) (tree c.args.table.nodes) c.loop-k.k c.requires.sound.recorded (hold (goal.at.margin_row-requires c).In-loop-k);
    }

pub loop-k-preserved : goal.loop-k-preserved
loop-k-preserved c =
    let k = c.loop-k.k in
    filled_next (card_of c.args.recording.now) c.args.table.nodes k c.args.work.now (c.requires.sound.ruled.each k c.loop-k-test.true) c.loop-k.invariant
    (c.margin_row.ensures (tree c.args.table.nodes) (hold (goal.at.loop-k-preserved c).In-loop-k))
