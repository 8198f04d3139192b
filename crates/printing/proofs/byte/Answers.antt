-- The two laws of one byte, by the branch's test.
-- Assumes nothing.
use Rattle.std.proofs.Common.{rules}
use Rattle.printing.proofs.Printed.{printed_room, printed_full}
use Rattle.printing.proofs.byte.Goals as goal

pub returns-then-out-at : goal.returns-then-out-at
returns-then-out-at c = printed_full _ _ c.if-out-at.true

pub returns : goal.returns
returns c = printed_room _ _ (search rules)
