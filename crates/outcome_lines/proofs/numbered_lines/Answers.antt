-- Each turn of the loop prints the line that comes next in the order.
-- Assumes nothing.
use Rattle.std.proofs.Common.{◌<◌, length, get_or, ap, ◌∙◌, arith, rules}
use Rattle.outcomes.proofs.Arrangements.{length_arrangement}
use Rattle.outcome_lines.proofs.Several.{printing_none, next_place, printing_next, entry_at}
use Rattle.outcome_lines.proofs.numbered_lines.Goals as goal

pub loop-k-init : goal.loop-k-init
loop-k-init g c = printing_none _ _

pub bounds-entries-k : goal.bounds-entries-k
bounds-entries-k g c = next_place c.args.entries.now (c.as_slice-k-items.ensures.value ∙ c.arranged-order.ensures) c.loop-k-test.true

pub offset_bounds-entries-k : goal.offset_bounds-entries-k
offset_bounds-entries-k g c =
    let k = get_or c.as_slice-k-items.result.now c.loop-k.k-index 0 in
    let p = next_place c.args.entries.now (c.as_slice-k-items.ensures.value ∙ c.arranged-order.ensures) c.loop-k-test.true in
    let s : k < 16 = omega (arith, p, c.requires) in
    search rules

pub numbered_line-requires : goal.numbered_line-requires
numbered_line-requires g c =
    let k = get_or c.as_slice-k-items.result.now c.loop-k.k-index 0 in
    let p = next_place c.args.entries.now (c.as_slice-k-items.ensures.value ∙ c.arranged-order.ensures) c.loop-k-test.true in
    let s : k < 16 = omega (arith, p, c.requires) in
    search rules

pub loop-k-preserved : goal.loop-k-preserved
loop-k-preserved g c =
    let xs = c.args.entries.now in
    let k = get_or c.as_slice-k-items.result.now c.loop-k.k-index 0 in
    let e = c.as_slice-k-items.ensures.value ∙ c.arranged-order.ensures in
    let p = next_place xs e c.loop-k-test.true in
    let n : c.loop-k.k-index < length xs = omega (arith, c.loop-k-test.true, ap length e, length_arrangement xs) in
    printing_next xs c.loop-k.invariant n (ap (λ ys. get_or ys c.loop-k.k-index 0) e) (entry_at xs k _ p) c.numbered_line.ensures.result_value c.numbered_line.ensures.room
