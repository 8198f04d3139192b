-- Refusals 3 to 7 come first, and where none of them applies the count of cells can be taken; past it refusals 9 to 11 count.
-- Assumes nothing.
use Rattle.std.proofs.Common.{sym, ap, ◌∙◌, arith}
use Rattle.recordings.specs.Card.{card_of, rows}
use Rattle.refusals.specs.Number.{number_of}
use Rattle.refusals.proofs.Number.{not_none, handed_on}
use Rattle.rules.specs.Refusals.{Sound}
use Rattle.rules.proofs.Refusals.{sound}
use Rattle.verdicts.proofs.Entry.{refused_early, refused_room, refused_late, few_cells}
use Rattle.verdicts.proofs.refusal_of.Goals as goal
use Rattle.verdicts.proofs.refusal_of.Goals.{In_ok-refusal}

sound_at : (c : In_ok-refusal) → Sound (card_of c.args.recording.now) c.args.table
sound_at c = sound (card_of c.args.recording.now) c.args.table (sym c.in_ok-refusal.ensures)

pub returns-in_err-refusal : goal.returns-in_err-refusal
returns-in_err-refusal c =
    let e = c.in_err-refusal.ensures in
    ap number_of (handed_on c.from_residual.result c.from_residual.ensures.1) ∙ e
    ∙ sym (refused_early (card_of c.args.recording.now) c.args.table c.args.step c.args.drift c.args.cells (λ z. not_none _ (e ∙ z)))

pub overflow_mul-table : goal.overflow_mul-table
overflow_mul-table c = omega (arith, (sound_at (goal.at.overflow_mul-table c).In_ok-refusal).ruled.few_nodes)

pub overflow_mul-table-2 : goal.overflow_mul-table-2
overflow_mul-table-2 c =
    let s = sound_at (goal.at.overflow_mul-table-2 c).In_ok-refusal in
    omega (arith, few_cells c.args.table.count (rows (card_of c.args.recording.now)) s.ruled.few_nodes s.recorded.lengths.few_rows)

pub returns-then-cells-table : goal.returns-then-cells-table
returns-then-cells-table c = sym (refused_room (card_of c.args.recording.now) c.args.table c.args.step c.args.drift c.args.cells (sym c.in_ok-refusal.ensures) c.if-cells-table.true)

pub refusal-requires-2 : goal.refusal-requires-2
refusal-requires-2 c = (sound_at (goal.at.refusal-requires-2 c).In_ok-refusal).recorded

pub returns : goal.returns
returns c = c.refusal-2.ensures ∙ sym (refused_late (card_of c.args.recording.now) c.args.table c.args.step c.args.drift c.args.cells (sym c.in_ok-refusal.ensures) c.if-cells-table.false)
