-- A refusal changes no cell. Where none applies the rows are filled, and the root's two cells are hold and fail.
-- Assumes nothing.
use Rattle.std.proofs.Common.{true, false, sym, ap, ap₂, ◌∙◌, length, arith}
use Rattle.numbers.proofs.Bits.{back_ok}
use Rattle.recordings.specs.Accepted.{Accepted}
use Rattle.recordings.specs.Card.{card_of}
use Rattle.recordings.specs.Verdict.{decide}
use Rattle.refusals.proofs.Number.{handed_on}
use Rattle.verdicts.specs.Cells.{strong}
use Rattle.verdicts.specs.Rows.{Ready}
use Rattle.verdicts.specs.Answer.{verdict_outcome}
use Rattle.verdicts.proofs.Entry.{nothing_refused, refused_outcome, accepted_outcome, cells_kept, cells_filled, root_cell, root_inside}
use Rattle.verdicts.proofs.verdict.Goals as goal
use Rattle.verdicts.proofs.verdict.Goals.{In_ok-refusal_of}

-- nothing is refused
fine : (c : In_ok-refusal_of) → Ready (card_of c.args.recording.now) c.args.table c.args.step (length c.args.work.now) × Accepted (card_of c.args.recording.now) c.args.step c.args.drift
fine c = nothing_refused (card_of c.args.recording.now) c.args.table c.args.step c.args.drift (length c.args.work.now) (sym c.in_ok-refusal_of.ensures)

pub returns-in_err-refusal_of-clause-answer : goal.returns-in_err-refusal_of-clause-answer
returns-in_err-refusal_of-clause-answer c =
    ap verdict_outcome (handed_on c.from_residual.result c.from_residual.ensures.1)
    ∙ refused_outcome (card_of c.args.recording.now) c.args.table c.args.step c.args.drift (length c.args.work.now) _ c.in_err-refusal_of.ensures

pub returns-in_err-refusal_of-clause-cells : goal.returns-in_err-refusal_of-clause-cells
returns-in_err-refusal_of-clause-cells c = cells_kept (card_of c.args.recording.now) c.args.table c.args.step c.args.drift c.args.work.now _ c.in_err-refusal_of.ensures

pub strong_rows-requires : goal.strong_rows-requires
strong_rows-requires c = (fine (goal.at.strong_rows-requires c).In_ok-refusal_of).0

pub overflow_sub-root : goal.overflow_sub-root
overflow_sub-root c = (fine (goal.at.overflow_sub-root c).In_ok-refusal_of).0.sound.ruled.some_node

pub row_for-requires : goal.row_for-requires
row_for-requires c = omega (arith, (fine (goal.at.row_for-requires c).In_ok-refusal_of).0.sound.ruled.few_nodes)

pub cell_at-hold-requires : goal.cell_at-hold-requires
cell_at-hold-requires c = rw c.row_for.ensures (root_inside _ _ _ _ (fine (goal.at.cell_at-hold-requires c).In_ok-refusal_of).0 c.strong_rows.ensures true)

pub row_for-requires-2 : goal.row_for-requires-2
row_for-requires-2 c = omega (arith, (fine (goal.at.row_for-requires-2 c).In_ok-refusal_of).0.sound.ruled.few_nodes)

pub cell_at-fail-requires : goal.cell_at-fail-requires
cell_at-fail-requires c = rw c.row_for-2.ensures (root_inside _ _ _ _ (fine (goal.at.cell_at-fail-requires c).In_ok-refusal_of).0 c.strong_rows.ensures false)

pub decided-requires : goal.decided-requires
decided-requires c = (fine (goal.at.decided-requires c).In_ok-refusal_of).1.stepped.small_drift

pub returns-clause-answer : goal.returns-clause-answer
unfolding strong
returns-clause-answer c =
    let r = card_of c.args.recording.now in
    let ready = (fine (goal.at.returns-clause-answer c).In_ok-refusal_of).0 in
    let h = back_ok _ c.cell_at-hold.type_inv ∙ (rw c.row_for.ensures at c.cell_at-hold.ensures) ∙ root_cell r c.args.table c.args.step c.args.work.now ready c.strong_rows.ensures true in
    let f = back_ok _ c.cell_at-fail.type_inv ∙ (rw c.row_for-2.ensures at c.cell_at-fail.ensures) ∙ root_cell r c.args.table c.args.step c.args.work.now ready c.strong_rows.ensures false in
    accepted_outcome r c.args.table c.args.step c.args.drift (length c.args.work.now) (sym c.in_ok-refusal_of.ensures) (c.decided.ensures ∙ ap₂ (decide c.args.drift) h f) h f

pub returns-clause-cells : goal.returns-clause-cells
returns-clause-cells c = cells_filled (card_of c.args.recording.now) c.args.table c.args.step c.args.drift c.args.work.now (sym c.in_ok-refusal_of.ensures) c.strong_rows.ensures
