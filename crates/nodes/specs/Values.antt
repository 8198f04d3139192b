-- What a node's row holds, from the values of its children: the requirement table's column "Margin at sample i", read one node at a time.
-- Assumes nothing.
use Rattle.std.specs.Prelude.{Bool, ℕ, ℤ}
use Rattle.logic.specs.declared.Window.{Window}
use Rattle.logic.specs.declared.Extremum.TheVariants.{Smallest}
use Rattle.logic.specs.Formula.{dual}
use Rattle.logic.specs.Reading.{margin_extreme, margin_nothing}
use Rattle.logic.specs.Negation.{turn}
use Rattle.recordings.specs.Card.{Card, samples}
use Rattle.recordings.specs.Distance.{TOP}
use Rattle.recordings.specs.Margin.{distance_at}
use Rattle.points.specs.Point.{signed}
use Rattle.temporal.specs.Reading.{temporal_at}
use Rattle.tables.specs.declared.Node.{Node}
use Rattle.tables.specs.declared.Operator.{Operator}
use Rattle.tables.specs.declared.Operator.TheVariants.{Constant, Named, Negated, Unknown, Joined, Binary, Unary}

-- of the node at true, of its negation at false, "not" pushed down: a leaf is negated, an operator changes places with its dual. The window is given as it is to be
-- read, and "not" has its child's values given for the other sign.
unfoldable pub node_value : Card → Bool → Window → Operator → Node → (ℕ → ℤ) → (ℕ → ℤ) → ℕ → ℤ
node_value c b w Constant n l r i = signed b (margin_nothing TOP Smallest)
node_value c b w Named n l r i = signed b (distance_at TOP c n.left i)
node_value c b w Negated n l r i = l i
node_value c b w Unknown n l r i = signed b (margin_nothing TOP Smallest)
node_value c b w (Joined e) n l r i = margin_extreme (turn b e) (l i) (r i)
node_value c b w (Binary d e) n l r i = temporal_at d (turn b e) w (samples c) l r i
node_value c b w (Unary d e) n l r i = temporal_at d (turn b e) w (samples c) (λ m. margin_nothing TOP (dual (turn b e))) l i
