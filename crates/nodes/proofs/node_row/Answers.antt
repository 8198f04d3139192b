-- What is read along a window is read in the one direction that there is.
-- Assumes nothing.
use Rattle.std.proofs.Common.{◌≡◌, sym, refl, ◌∙◌}
use Rattle.logic.specs.declared.Direction.{Direction}
use Rattle.logic.specs.declared.Direction.TheVariants.{Future}
use Rattle.nodes.specs.Values.{node_value}
use Rattle.nodes.proofs.node_row.Goals as goal

forward : (d : Direction) → d ≡ Future
forward Future = refl

pub returns-in-Unary : goal.returns-in-Unary
unfolding node_value
returns-in-Unary c = rw (sym c.from.ensures ∙ c.in-Unary.is, forward c.in-Unary.field-0) (rw c.turn-e-in-Unary.ensures at c.temporal_row-in-Unary.ensures)
