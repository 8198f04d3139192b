-- The table is read from the numbers.
-- Assumes nothing.
use Rattle.refusals.proofs.Number.{handed_on}
use Rattle.requirements.proofs.Wholes.{numbers_refused, numbers_read}
use Rattle.requirements.proofs.read_requirement.Goals as goal

pub returns : goal.returns
returns c = rw c.table_from.ensures (numbers_read _ _ c.in_ok-count.ensures)

pub returns-in_err-count : goal.returns-in_err-count
returns-in_err-count c = rw (handed_on _ c.from_residual.ensures.1) (numbers_refused _ _ c.in_err-count.ensures)
