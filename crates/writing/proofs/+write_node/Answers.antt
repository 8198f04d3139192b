-- The node's pieces one after the other; a child's number is smaller, and that is the measure.
-- Assumes nothing.
use Rattle.std.proofs.Common.{sym, ◌∙◌, arith}
use Rattle.tables.specs.Kind.{operator}
use Rattle.building.specs.Storing.{node_from}
use Rattle.writing.proofs.Nodes.{two_uses, one_uses, left_before, right_before, two_printed, one_printed, leaf_printed}
use Rattle.writing.proofs.+write_node.Goals as goal

pub write_node-requires : goal.write_node-requires
write_node-requires t c =
    let n = c.node_at-node in
    let u = two_uses (operator n.result.kind) (sym c.has_right.ensures ∙ c.if-has_right.true) in
    let z = left_before (node_from c.args.cells.now) c.args.k n.result n.ensures c.requires u.0 in
    (omega (arith, z.0), z.1)

pub write_node-requires-then-has_right : goal.write_node-requires-then-has_right
write_node-requires-then-has_right t c =
    let n = c.node_at-node in
    let u = two_uses (operator n.result.kind) (sym c.has_right.ensures ∙ c.if-has_right.true) in
    let z = right_before (node_from c.args.cells.now) c.args.k n.result n.ensures c.requires u.1 in
    (omega (arith, z.0), z.1)

pub write_node-requires-then-has_left : goal.write_node-requires-then-has_left
write_node-requires-then-has_left t c =
    let n = c.node_at-node in
    let u = one_uses (operator n.result.kind) (sym c.has_right.ensures ∙ c.if-has_right.false) (sym c.has_left.ensures ∙ c.if-has_left.true) in
    let z = left_before (node_from c.args.cells.now) c.args.k n.result n.ensures c.requires u.0 in
    (omega (arith, z.0), z.1)

pub returns-then-has_right : goal.returns-then-has_right
returns-then-has_right t c =
    let n = c.node_at-node in
    two_printed (node_from c.args.cells.now) c.args.k n.result n.ensures c.requires c.args.due _ _ _
    (sym c.has_right.ensures ∙ c.if-has_right.true) c.part_of-own.ensures c.left_part.ensures c.right_part.ensures _
    c.write_parenthesis.ensures c.write_node.ensures c.write_sign.ensures c.write_node-then-has_right.ensures c.write_parenthesis-then-has_right.ensures

pub returns-then-has_left : goal.returns-then-has_left
returns-then-has_left t c =
    let n = c.node_at-node in
    one_printed (node_from c.args.cells.now) c.args.k n.result n.ensures c.requires c.args.due
    (sym c.has_right.ensures ∙ c.if-has_right.false) (sym c.has_left.ensures ∙ c.if-has_left.true) _
    c.write_sign-then-has_left.ensures c.write_node-then-has_left.ensures

pub returns : goal.returns
returns t c =
    let n = c.node_at-node in
    leaf_printed (node_from c.args.cells.now) c.args.k n.result n.ensures c.requires c.args.due
    (sym c.has_left.ensures ∙ c.if-has_left.false) _ c.write_leaf.ensures
