-- `sheet_rows::read_rows` meets its contract: its tests give the number, and it stores only after the last of them.
-- Assumes nothing.
use Rattle.std.proofs.Common.{◌≡◌, Some, None, true, length, sym, ◌∙◌, arith}
use Rattle.std.proofs.lemmas.Grind.{common_steps}
use lib.Dec.{leb}
use borrow.Author.Tests.{lt-leb, le-leb}
use Rattle.row_lines.specs.Reading.{limit, channels_in_range, rows_of, counts}
use Rattle.std.specs.Prelude.{Err}
use Rattle.refusals.specs.declared.Refusal.TheVariants.{Sheet}
use Rattle.sheet_rows.proofs.Numbers.{answer_long, answer_width, answer_broken, answer_many, answer_fits}
use Rattle.sheet_rows.proofs.read_rows.Goals as goal
use Rattle.sheet_rows.proofs.read_rows.Goals.{After-count_rows, In_ok-counts, In_err-counts}

-- the tests before the rows are counted, and the rows' counts
short : (c : After-count_rows) → leb (length c.args.s.now) limit ≡ true
short c = le-leb _ _ c.if-s-gt-LIMIT.false

narrow : (c : After-count_rows) → channels_in_range c.args.channels ≡ true
narrow c = sym c.channels_in_range.ensures ∙ c.if-not-channels_in_range.false

counted : (c : In_ok-counts) → counts (rows_of c.args.channels c.args.s.now) ≡ Some c.in_ok-counts.counts
counted c = grind (arith, common_steps)

uncounted : (c : In_err-counts) → counts (rows_of c.args.channels c.args.s.now) ≡ None
uncounted c = grind (arith, common_steps)

pub returns-then-s-gt-LIMIT-clause-answer : goal.returns-then-s-gt-LIMIT-clause-answer
returns-then-s-gt-LIMIT-clause-answer c = answer_long _ _ _ _ (lt-leb _ _ c.if-s-gt-LIMIT.true)

pub returns-then-not-channels_in_range-clause-answer : goal.returns-then-not-channels_in_range-clause-answer
returns-then-not-channels_in_range-clause-answer c = answer_width _ _ _ _ (le-leb _ _ c.if-s-gt-LIMIT.false) (sym c.channels_in_range.ensures ∙ c.if-not-channels_in_range.true)

pub returns-in_err-counts-clause-answer : goal.returns-in_err-counts-clause-answer
returns-in_err-counts-clause-answer c =
    let d = (goal.at.returns-in_err-counts-clause-answer c).After-count_rows in
    let f : c.from_residual.result ≡ Err Sheet = grind (arith, common_steps) in
    rw f (answer_broken _ _ (length c.args.times.now) (length c.args.values.now) (short d) (narrow d) (uncounted (goal.at.returns-in_err-counts-clause-answer c).In_err-counts))

pub returns-then-not-has_room-clause-answer : goal.returns-then-not-has_room-clause-answer
returns-then-not-has_room-clause-answer c =
    let d = (goal.at.returns-then-not-has_room-clause-answer c).After-count_rows in
    answer_many _ _ _ _ (short d) (narrow d) _ (counted (goal.at.returns-then-not-has_room-clause-answer c).In_ok-counts) (sym c.has_room.ensures ∙ c.if-not-has_room.true)

pub returns-clause-answer : goal.returns-clause-answer
returns-clause-answer c =
    let d = (goal.at.returns-clause-answer c).After-count_rows in
    answer_fits _ _ _ _ (short d) (narrow d) _ (counted (goal.at.returns-clause-answer c).In_ok-counts) (sym c.has_room.ensures ∙ c.if-not-has_room.false)
