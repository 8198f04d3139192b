-- `operators::read_prefix` meets its contract: behind "not" both kinds are tried in turn.
-- Assumes nothing.
use mathlib.Core.Path.{sym, ◌∙◌}
use Rattle.operators.proofs.Pieces.{two_kinds}
use Rattle.operators.proofs.read_prefix.Goals as goal

pub returns : goal.returns
returns c = rw (sym c.read_letter.ensures ∙ c.in_default.is) ((rw (c.read_timed.ensures, c.read_timed-2.ensures) at c.or.ensures) ∙ two_kinds _ _ _ _)
