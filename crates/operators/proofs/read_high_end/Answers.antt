-- `operators::read_high_end` meets its contract: what is added is bounded before.
-- Assumes nothing.
use mathlib.Core.Path.{sym, ◌∙◌}
use native.Mathlib.Omega.{arith}
use Rattle.grammar.proofs.Windows.{bracket_small}
use Rattle.operators.proofs.read_high_end.Goals as goal

pub overflow_add-lo-2 : goal.overflow_add-lo-2
overflow_add-lo-2 c = omega (arith, c.requires.0, c.requires.1, bracket_small _ _ _ _ (sym c.read_bracket.ensures ∙ c.in-Number-read_bracket.is))
