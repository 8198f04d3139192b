-- A node's values depend on its operands' values at the samples alone.
-- Assumes nothing.
use mathlib.Core.Path.{◌≡◌, refl, ap₂}
use mathlib.Core.Bool.{Bool}
use Prim.Native.Nat.{ℕ, ◌+◌, ◌-◌, ◌<◌}
use native.Mathlib.Omega.{arith}
use lib.IntN.{ℤ}
use Rattle.logic.specs.declared.Window.{Window}
use Rattle.logic.specs.declared.Extremum.{Extremum}
use Rattle.logic.specs.Formula.{dual}
use Rattle.logic.specs.declared.Direction.{Direction}
use Rattle.logic.specs.declared.Direction.TheVariants.{Future}
use Rattle.logic.specs.Reading.{margins, margin_extreme, margin_nothing, offset}
use Rattle.logic.specs.Negation.{turn}
use Rattle.logic.proofs.Steps.{along_cong}
use Rattle.recordings.specs.Card.{Card, rows, samples}
use Rattle.recordings.specs.Distance.{TOP}
use Rattle.temporal.specs.Reading.{temporal_at}
use Rattle.tables.specs.declared.Node.{Node}
use Rattle.tables.specs.declared.Operator.{Operator}
use Rattle.tables.specs.declared.Operator.TheVariants.{Constant, Named, Negated, Unknown, Joined, Binary, Unary}
use Rattle.tables.specs.Rules.{left_use, right_use}
use Rattle.nodes.specs.Values.{node_value}
use Rattle.nodes.specs.Asks.{Agree}

-- an operator looks at samples alone
temporal_same : (d : Direction) (e : Extremum) (w : Window) (c : Card) (l l' r r' : ℕ → ℤ) → ((i : ℕ) → i < rows c → l i ≡ l' i) → ((i : ℕ) → i < rows c → r i ≡ r' i) → (i : ℕ) → temporal_at d e w (samples c) l r i ≡ temporal_at d e w (samples c) l' r' i
temporal_same Future e w c l l' r r' hl hr i =
    along_cong (margins TOP) e w w (offset Future (samples c) i) (offset Future (samples c) i) (λ m. l (i + m)) (λ m. l' (i + m)) (λ m. r (i + m)) (λ m. r' (i + m)) (rows c - i)
    (λ m h. refl)
    (λ m h. hl (i + m) (omega arith))
    (λ m h. hr (i + m) (omega arith))

pub value_same : (c : Card) (b : Bool) (w : Window) (o : Operator) (n : Node) (l l' r r' : ℕ → ℤ) → Agree (left_use o) (rows c) l l' → Agree (right_use o) (rows c) r r' → (i : ℕ) → i < rows c → node_value c b w o n l r i ≡ node_value c b w o n l' r' i
unfolding node_value
value_same c b w Constant n l l' r r' hl hr i h = refl
value_same c b w Named n l l' r r' hl hr i h = refl
value_same c b w Negated n l l' r r' hl hr i h = hl i h
value_same c b w Unknown n l l' r r' hl hr i h = refl
value_same c b w (Joined e) n l l' r r' hl hr i h = ap₂ (margin_extreme (turn b e)) (hl i h) (hr i h)
value_same c b w (Binary d e) n l l' r r' hl hr i h = temporal_same d (turn b e) w c l l' r r' hl hr i
value_same c b w (Unary d e) n l l' r r' hl hr i h = temporal_same d (turn b e) w c nothing nothing l l' (λ j k. refl) hl i
  where
    nothing : ℕ → ℤ
    nothing m = margin_nothing TOP (dual (turn b e))
