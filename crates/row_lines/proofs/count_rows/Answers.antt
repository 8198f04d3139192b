-- `row_lines::count_rows` meets its contract: what was counted and what is left are the counts of the whole text.
-- Assumes nothing.
use Rattle.std.proofs.Common.{◌≡◌, Some, ap, ◌∙◌, arith}
use Rattle.row_lines.specs.declared.RowLine.{RowLine}
use Rattle.row_lines.specs.declared.RowLine.TheVariants.{Measured, Filled}
use Rattle.row_lines.proofs.Counting.{count_start, count_over, count_bad, count_measured, count_filled}
use Rattle.row_lines.proofs.count_rows.Goals as goal
use Rattle.row_lines.proofs.count_rows.Goals.{In-Measured, In-Filled}

-- what a row's line says
is_measured : (c : In-Measured) → c.read_row.result ≡ Some (Measured c.in-Measured.row)
is_measured c = c.in_ok-row.was ∙ ap (λ (x : RowLine). Some x) c.in-Measured.is

is_filled : (c : In-Filled) → c.read_row.result ≡ Some (Filled c.in-Filled.next)
is_filled c = c.in_ok-row.was ∙ ap (λ (x : RowLine). Some x) c.in-Filled.is

pub loop-at-init : goal.loop-at-init
loop-at-init c = count_start _ _

pub returns-in_err-row : goal.returns-in_err-row
returns-in_err-row c = c.from_residual.ensures ∙ count_bad _ _ _ _ _ c.loop-at.invariant _ c.loop-at-test.true c.read_row.ensures c.in_err-row.was

pub loop-at-smaller-in-Measured : goal.loop-at-smaller-in-Measured
loop-at-smaller-in-Measured c =
    let m = is_measured (goal.at.loop-at-smaller-in-Measured c).In-Measured in
    omega (arith, c.loop-at-test.true, (count_measured _ _ _ _ _ c.loop-at.invariant _ c.loop-at-test.true c.read_row.ensures _ _ _ m).0)

pub loop-at-preserved-in-Measured : goal.loop-at-preserved-in-Measured
loop-at-preserved-in-Measured c =
    (count_measured _ _ _ _ _ c.loop-at.invariant _ c.loop-at-test.true c.read_row.ensures _ _ _ (is_measured (goal.at.loop-at-preserved-in-Measured c).In-Measured)).1

pub loop-at-smaller : goal.loop-at-smaller
loop-at-smaller c =
    let m = is_filled (goal.at.loop-at-smaller c).In-Filled in
    omega (arith, c.loop-at-test.true, (count_filled _ _ _ _ _ c.loop-at.invariant _ c.loop-at-test.true c.read_row.ensures _ m).0)

pub loop-at-preserved : goal.loop-at-preserved
loop-at-preserved c =
    (count_filled _ _ _ _ _ c.loop-at.invariant _ c.loop-at-test.true c.read_row.ensures _ (is_filled (goal.at.loop-at-preserved c).In-Filled)).1

pub returns : goal.returns
returns c = count_over _ _ _ _ _ c.loop-at.invariant c.loop-at-test.false
