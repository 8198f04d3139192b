-- `operators::read_window` meets its contract: what is read before the high end is as small as that asks.
-- Assumes nothing.
use mathlib.Core.Path.{sym, ◌∙◌}
use Rattle.text.proofs.Numerals.{number_is}
use Rattle.grammar.proofs.Windows.{bracket_small}
use Rattle.operators.proofs.read_window.Goals as goal

pub read_high_end-requires : goal.read_high_end-requires
read_high_end-requires c = ((number_is _ _ _ _ _ (sym c.read_number.ensures ∙ c.in-Number-read_number.is)).bound, bracket_small _ _ _ _ (sym c.read_bracket.ensures ∙ c.in-Number.is))
