-- The requirement that a tree says, in the logic's own terms: what each kind stands for is read from the one table of kinds.
-- Assumes nothing.
use Rattle.std.specs.Prelude.{ℕ, zero, suc}
use Rattle.logic.specs.Formula.{Formula, truth as certain, atom}
use Rattle.tables.specs.Kind.{operator}
use Rattle.tables.specs.Tree.{formula}
use Rattle.grammar.specs.Tree.{Tree, truth, predicate, one, two}
use Rattle.building.specs.Nodes.{node}

-- the left operand is number 0, the right one number 1
abbrev pub operands : Formula ℕ → Formula ℕ → ℕ → Formula ℕ
operands left right zero = left
operands left right (suc n) = right

unfoldable pub says : Tree → Formula ℕ
says truth = certain
says (predicate p) = atom p
says (one k w a) = formula (operator k) (node k 0 0 w) (λ _. says a)
says (two k w a b) = formula (operator k) (node k 0 1 w) (operands (says a) (says b))
