-- How far a table's windows reach, so that a step can be added to their ends.
-- Assumes nothing.
use Rattle.std.specs.Prelude.{suc, ◌≤◌}
use Rattle.logic.specs.declared.Stop.{Stop}
use Rattle.logic.specs.declared.Stop.TheVariants.{Endless, Before}
use Rattle.logic.specs.declared.Window.{Window}
use Rattle.tables.specs.Tree.{NO_END}

abbrev pub ShortStop : Stop → Type 0
ShortStop Endless = Unit
ShortStop (Before e) = e ≤ suc NO_END

pub record Short (w : Window) : Type 0 where
  pub from : w.from ≤ NO_END
  pub stop : ShortStop w.stop
