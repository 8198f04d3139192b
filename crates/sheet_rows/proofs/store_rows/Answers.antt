-- `sheet_rows::store_rows` meets its contract: with the rows that are left behind it, each slice is what it will be at the end.
-- Assumes nothing.
use Rattle.std.proofs.Common.{◌≡◌, Some, ap, ◌∙◌, arith}
use Rattle.row_lines.specs.declared.RowLine.{RowLine}
use Rattle.row_lines.specs.declared.RowLine.TheVariants.{Measured, Filled}
use Rattle.sheet_rows.proofs.Storing.{fill_start, fill_over, fill_bad, fill_filled, fill_past, fill_row, fill_storable, fill_measured}
use Rattle.sheet_rows.proofs.store_rows.Goals as goal
use Rattle.sheet_rows.proofs.store_rows.Goals.{In-Measured, In-Filled}

-- what a row's line says
is_measured : (c : In-Measured) → c.read_row.result ≡ Some (Measured c.in-Measured.row)
is_measured c = c.in-Some.is ∙ ap (λ (x : RowLine). Some x) c.in-Measured.is

is_filled : (c : In-Filled) → c.read_row.result ≡ Some (Filled c.in-Filled.next)
is_filled c = c.in-Some.is ∙ ap (λ (x : RowLine). Some x) c.in-Filled.is

pub loop-at-init : goal.loop-at-init
loop-at-init c = fill_start _ _ _ _ c.requires

pub bounds-times-rows : goal.bounds-times-rows
bounds-times-rows c =
    fill_row _ _ _ _ _ _ _ _ c.loop-at.invariant _ c.loop-at-test.true c.read_row.ensures _ _ _ (is_measured (goal.at.bounds-times-rows c).In-Measured)

pub store_values-requires : goal.store_values-requires
store_values-requires c =
    fill_storable _ _ _ _ _ _ _ _ c.loop-at.invariant _ c.loop-at-test.true c.read_row.ensures _ _ _ (is_measured (goal.at.store_values-requires c).In-Measured)

pub loop-at-smaller-in-Measured : goal.loop-at-smaller-in-Measured
loop-at-smaller-in-Measured c =
    let m = is_measured (goal.at.loop-at-smaller-in-Measured c).In-Measured in
    omega (arith, c.loop-at-test.true, fill_past _ _ _ _ _ _ _ _ c.loop-at.invariant _ c.loop-at-test.true c.read_row.ensures _ _ _ m)

pub loop-at-preserved-in-Measured : goal.loop-at-preserved-in-Measured
loop-at-preserved-in-Measured c =
    let m = is_measured (goal.at.loop-at-preserved-in-Measured c).In-Measured in
    rw c.store_values.ensures (fill_measured _ _ _ _ _ _ _ _ c.loop-at.invariant _ c.loop-at-test.true c.read_row.ensures _ _ _ m)

pub loop-at-smaller : goal.loop-at-smaller
loop-at-smaller c =
    let m = is_filled (goal.at.loop-at-smaller c).In-Filled in
    omega (arith, c.loop-at-test.true, (fill_filled _ _ _ _ _ _ _ _ c.loop-at.invariant _ c.loop-at-test.true c.read_row.ensures _ m).0)

pub loop-at-preserved : goal.loop-at-preserved
loop-at-preserved c =
    (fill_filled _ _ _ _ _ _ _ _ c.loop-at.invariant _ c.loop-at-test.true c.read_row.ensures _ (is_filled (goal.at.loop-at-preserved c).In-Filled)).1

pub returns-in_default-clause-times : goal.returns-in_default-clause-times
returns-in_default-clause-times c =
    absurd (fill_bad _ _ _ _ _ _ _ _ c.loop-at.invariant _ c.loop-at-test.true c.read_row.ensures c.in_default.is)

pub returns-in_default-clause-values : goal.returns-in_default-clause-values
returns-in_default-clause-values c =
    absurd (fill_bad _ _ _ _ _ _ _ _ c.loop-at.invariant _ c.loop-at-test.true c.read_row.ensures c.in_default.is)

pub returns-clause-times : goal.returns-clause-times
returns-clause-times c = (fill_over _ _ _ _ _ _ _ _ c.loop-at.invariant c.loop-at-test.false).0

pub returns-clause-values : goal.returns-clause-values
returns-clause-values c = (fill_over _ _ _ _ _ _ _ _ c.loop-at.invariant c.loop-at-test.false).1
