-- What the test of refusal 16 notes of a node's operands, from what it noted of earlier nodes.
-- Assumes nothing.
use Rattle.std.specs.Prelude.{Bool, ◌&&◌, ◌||◌}
use Rattle.tables.specs.declared.Operator.{Operator}
use Rattle.tables.specs.Rules.{is_child, left_use, right_use}

-- whether it is so of one operand; `left` and `right` say it of the nodes that the two numbers name, and a number that is no child counts for nothing
abbrev pub in_operands : Operator → Bool → Bool → Bool
in_operands o left right = is_child (left_use o) && left || is_child (right_use o) && right
