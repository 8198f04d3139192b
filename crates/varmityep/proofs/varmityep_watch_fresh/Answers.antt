-- The table and the setup are those of the numbers.
-- Assumes nothing.
use Rattle.std.proofs.Common.{◌∙◌}
use Rattle.varmityep.proofs.varmityep_watch_fresh.Goals as goal

pub returns-clause-number : goal.returns-clause-number
returns-clause-number c = c.number_of.ensures ∙ rw (c.table_from.ensures, c.predicates_from.ensures, c.scales_from.ensures) at c.make-made.ensures.number
