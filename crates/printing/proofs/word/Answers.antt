-- One byte more of the word.
-- Assumes nothing.
use Rattle.std.proofs.Common.{◌∙◌, rules}
use Rattle.printing.proofs.Printed.{printed_next}
use Rattle.printing.proofs.word.Goals as goal

pub loop-b-preserved : goal.loop-b-preserved
loop-b-preserved c = c.byte-next.ensures ∙ printed_next c.args.word.now _ _ (search rules) c.loop-b.invariant
