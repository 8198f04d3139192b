-- The node's kind says which operator it is; a table's nodes have no unknown one.
-- Assumes nothing.
use mathlib.Core.Path.{◌≡◌, refl, sym, ap, ◌∙◌}
use Rattle.std.proofs.Common.{rules}
use Rattle.numbers.proofs.Bits.{back_ok}
use Rattle.logic.specs.declared.Direction.TheVariants.{Future}
use Rattle.logic.specs.declared.Extremum.TheVariants.{Smallest}
use Rattle.tables.specs.Kind.{operator}
use Rattle.tables.specs.declared.Node.{Node}
use Rattle.tables.specs.declared.Operator.TheVariants.{Joined, Binary, Unary, Unknown}
use Rattle.watch_cells.specs.State.{node_in}
use Rattle.watch_cells.proofs.Points.{constant_kind, named_kind, no_unknown, binary_ahead, unary_ahead, true_leaf, named_leaf}
use Rattle.watch_cells.proofs.Taken.{known}
use Rattle.watch_cells.proofs.take_node.Goals as goal
use Rattle.watch_cells.proofs.take_node.Goals.{After-from, in-Unary+in-Smallest-1, in-Unknown-1}

-- what was matched is the operator of the node's kind
asked : (c : After-from) → operator (node_in c.args.numbers.now c.args.k).kind ≡ c.from.result
asked c = ap operator (sym c.kind_of.ensures) ∙ sym c.from.ensures

pub returns-in-Constant : goal.returns-in-Constant
returns-in-Constant c =
    let s = c.args in
    let kind = constant_kind _ (asked (goal.at.returns-in-Constant c).After-from ∙ c.in-Constant.is) in
    record { taken = c.take_leaf.ensures.taken s.numbers.now s.values.now s.since _ refl (true_leaf kind); beyond = c.take_leaf.ensures.beyond }

pub returns-in-Named : goal.returns-in-Named
returns-in-Named c =
    let s = c.args in
    let v = c.distance_of-leaf in
    let n = c.node_of.ensures in
    let kind = ap (λ (m : Node). m.kind) n ∙ named_kind _ (asked (goal.at.returns-in-Named c).After-from ∙ c.in-Named.is) in
    record { taken = c.take_leaf-in-Named.ensures.taken s.numbers.now s.values.now s.since _ n (named_leaf kind (rw (back_ok v.result v.type_inv) v.ensures)); beyond = c.take_leaf-in-Named.ensures.beyond }

pub returns-in-Negated : goal.returns-in-Negated
returns-in-Negated c =
    let s = c.args in
    record { taken = c.take_point.ensures.taken s.values.now s.opening s.since (rw (asked (goal.at.returns-in-Negated c).After-from ∙ c.in-Negated.is) refl); beyond = c.take_point.ensures.beyond }

pub returns-in-Joined-Smallest : goal.returns-in-Joined-Smallest
returns-in-Joined-Smallest c =
    let s = c.args in
    let arm = c.in-Joined-Smallest in
    let operator-is = asked (goal.at.returns-in-Joined-Smallest c).After-from ∙ arm.is ∙ ap Joined arm.field-0-is in
    record { taken = c.take_point-in-Joined-Smallest.ensures.taken s.values.now s.opening s.since (rw operator-is refl); beyond = c.take_point-in-Joined-Smallest.ensures.beyond }

pub returns-in-Joined-Largest : goal.returns-in-Joined-Largest
returns-in-Joined-Largest c =
    let s = c.args in
    let arm = c.in-Joined-Largest in
    let operator-is = asked (goal.at.returns-in-Joined-Largest c).After-from ∙ arm.is ∙ ap Joined arm.field-0-is in
    record { taken = c.take_point-in-Joined-Largest.ensures.taken s.values.now s.opening s.since (rw operator-is refl); beyond = c.take_point-in-Joined-Largest.ensures.beyond }

pub returns-in-Binary-default-Largest : goal.returns-in-Binary-default-Largest
returns-in-Binary-default-Largest c =
    let arm = c.in-Binary-default-Largest in
    let operator-is = asked (goal.at.returns-in-Binary-default-Largest c).After-from ∙ arm.is ∙ binary_ahead _ _ ∙ ap (Binary Future) arm.field-1-is in
    record { taken = c.take_binary.ensures.taken c.args.values.now operator-is; beyond = c.take_binary.ensures.beyond }

pub returns-in-Binary-default-Smallest : goal.returns-in-Binary-default-Smallest
returns-in-Binary-default-Smallest c =
    let arm = c.in-Binary-default-Smallest in
    let operator-is = asked (goal.at.returns-in-Binary-default-Smallest c).After-from ∙ arm.is ∙ binary_ahead _ _ ∙ ap (Binary Future) arm.field-1-is in
    record { taken = c.take_binary-in-Binary-default-Smallest.ensures.taken c.args.values.now operator-is; beyond = c.take_binary-in-Binary-default-Smallest.ensures.beyond }

pub returns-in-Unary-default-Largest : goal.returns-in-Unary-default-Largest
returns-in-Unary-default-Largest c =
    let arm = c.in-Unary-default-Largest in
    let operator-is = asked (goal.at.returns-in-Unary-default-Largest c).After-from ∙ arm.is ∙ unary_ahead _ _ ∙ ap (Unary Future) arm.field-1-is in
    record { taken = c.take_unary.ensures.taken c.args.values.now operator-is; beyond = c.take_unary.ensures.beyond }

-- "always", or a kind that no table has; the check's names of the two ways' tests may change, so each way's fact is searched for
pub returns-in-Unary-default-Smallest : goal.returns-in-Unary-default-Smallest
returns-in-Unary-default-Smallest c =
    let call = c.take_unary-in-Unary-default-Smallest.ensures in
    let is = asked (goal.at.returns-in-Unary-default-Smallest c).After-from in
    record {
      taken = λ t d r A small K. elim c.in-Unary-default-Smallest-1.branch [
        | in-Unary+in-Smallest-1 w ↦
            let always : c.from.result ≡ Unary Future Smallest = search rules in
            call.taken c.args.values.now (is ∙ always) t d r A small K
        | in-Unknown-1 w ↦
            let unknown : c.from.result ≡ Unknown = search rules in
            absurd (no_unknown _ (known A small (K.planned.nodes c.args.k c.requires.0) K) (is ∙ unknown))
      ];
      beyond = call.beyond;
    }
