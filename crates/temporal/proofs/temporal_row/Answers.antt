-- The loop's invariant is `SoFar`: the first i places are filled, and the edges and what slides along are those of the place before.
-- Assumes nothing.
use borrow.Author.Rules.{rules}
use mathlib.Core.Path.{◌∙◌}
use mir.Syntax.{w64}
use mir.Val.{SFits}
use Rattle.numbers.proofs.Bits.{back_ok, back_is}
use Rattle.temporal.proofs.Row.{all_so_far}
use Rattle.temporal.proofs.Turn.{Turn, advance_asks, right_bounded, slid_value, place_value, next_so_far}
use Rattle.temporal.proofs.temporal_row.Goals as goal
use Rattle.temporal.proofs.temporal_row.Goals.{After-if_left-high}

turn : (c : After-if_left-high) → Turn c.args.e c.args.window c.args.times.now c.args.left c.args.right c.args.row c.args.work.now c.loop-i.work c.loop-i.extremum c.loop-i.i c.edge-first.result c.edge-end.result c.unwrap_or-operand.result c.slid_extremum-by.result c.if_left-low.result c.if_left-high.result
turn c =
    record {
      first_before = c.loop-i.first;
      end_before = c.loop-i.end;
      so_far = c.loop-i.invariant;
      inside = c.loop-i-test.true;
      first_edge = c.edge-first.ensures;
      end_edge = c.edge-end.ensures;
      operand_is = c.unwrap_or-operand.ensures;
      by_is = c.slid_extremum-by.ensures;
      low_is = c.if_left-low.ensures;
      high_is = c.if_left-high.ensures;
    }

pub advanced-extremum-requires : goal.advanced-extremum-requires
advanced-extremum-requires c = advance_asks c.requires (turn (goal.at.advanced-extremum-requires c).After-if_left-high)

pub at_place-requires-clause-bounded : goal.at_place-requires-clause-bounded
at_place-requires-clause-bounded c =
    let t = turn (goal.at.at_place-requires-clause-bounded c).After-if_left-high in
    let e = c.advanced-extremum.ensures in
    let f : SFits w64 c.advanced-extremum.result.value = search rules in
    (right_bounded c.requires t e.value e.work_after, back_is f ∙ slid_value c.requires t e.value e.work_after)

pub loop-i-preserved : goal.loop-i-preserved
loop-i-preserved c =
    let t = turn (goal.at.loop-i-preserved c).After-if_left-high in
    let e = c.advanced-extremum.ensures in
    let v = c.at_place in
    next_so_far c.requires t e.value e.work_after (back_ok v.result v.type_inv ∙ v.ensures ∙ place_value c.requires t e.value e.work_after)

pub returns : goal.returns
returns c =
    all_so_far c.args.e _ c.args.times.now c.args.left c.args.right c.args.row c.args.work.now c.loop-i.invariant c.loop-i-test.false
