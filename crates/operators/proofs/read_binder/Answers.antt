-- `operators::read_binder` meets its contract: both kinds are tried in turn.
-- Assumes nothing.
use mathlib.Core.Path.{◌∙◌}
use Rattle.operators.proofs.Pieces.{two_kinds}
use Rattle.operators.proofs.read_binder.Goals as goal

pub returns : goal.returns
returns c = (rw (c.read_timed.ensures, c.read_timed-2.ensures) at c.or.ensures) ∙ two_kinds _ _ _ _
