-- The loop's invariant: `best` and `run` are what the places from i up to j give. Before the window there is nothing, after it nothing is added, and
-- where the carried value is beaten nothing later counts.
-- Assumes nothing.
use mathlib.Core.Path.{◌≡◌, sym, ap₂, ◌∙◌}
use Prim.Native.Nat.{◌+◌}
use native.Mathlib.Omega.{arith}
use Rattle.numbers.proofs.Bits.{back, back_ok, back_is}
use Rattle.recordings.specs.Distance.{TOP}
use Rattle.rows.specs.Cells.{cell}
use Rattle.logic.specs.Formula.{dual}
use Rattle.logic.specs.Reading.{margin_extreme, margin_nothing}
use Rattle.sliding.specs.Run.{over}
use Rattle.sliding.proofs.Over.{joined_next}
use Rattle.temporal.proofs.Along.{best, best_first, best_end, best_settled, turn_best}
use Rattle.temporal.proofs.bound_at.Goals as goal
use Rattle.temporal.proofs.bound_at.Goals.{After-extreme-run}

-- what a turn leaves
turned_best : (c : After-extreme-run) → back c.extreme-best.result ≡ best c.args.first c.args.end c.args.e (cell c.args.cells.now c.args.rows c.args.left) (cell c.args.cells.now c.args.rows c.args.right) c.args.i (c.loop-j.j + 1)
turned_best c =
    let h = c.loop-j.invariant in
    let x = c.cell_at-r in
    let u = c.extreme in
    let v = c.extreme-best in
    turn_best c.args.first c.args.end c.args.e (cell c.args.cells.now c.args.rows c.args.left) (cell c.args.cells.now c.args.rows c.args.right) c.args.i c.loop-j.j c.dual-other.ensures (omega (arith, c.requires.place_asks.0.from, c.loop-j.auto.j)) c.loop-j.auto.j c.loop-j-test.true h.0 h.1 (back_ok x.result x.type_inv ∙ x.ensures) u.ensures (back_ok u.result u.type_inv) v.ensures (back_ok v.result v.type_inv)

turned_run : (c : After-extreme-run) → back c.extreme-run.result ≡ (over (dual c.args.e) (cell c.args.cells.now c.args.rows c.args.left) c.args.i (c.loop-j.j + 1))
turned_run c =
    let h = c.loop-j.invariant in
    let x = c.cell_at-l in
    joined_next (dual c.args.e) (margin_nothing TOP (dual c.args.e)) (cell c.args.cells.now c.args.rows c.args.left) c.args.i c.loop-j.j (omega (arith, c.requires.place_asks.0.from, c.loop-j.auto.j)) h.1 (back_ok x.result x.type_inv ∙ x.ensures) (rw c.dual-other.ensures at c.extreme-run.ensures) (back_ok c.extreme-run.result c.extreme-run.type_inv)

pub loop-j-init : goal.loop-j-init
loop-j-init c =
    let n : best c.args.first c.args.end c.args.e (cell c.args.cells.now c.args.rows c.args.left) (cell c.args.cells.now c.args.rows c.args.right) c.args.i c.args.first ≡ margin_nothing TOP c.args.e = best_first c.args.first c.args.end c.args.e (cell c.args.cells.now c.args.rows c.args.left) (cell c.args.cells.now c.args.rows c.args.right) c.args.i c.args.first (omega arith) in
    (back_ok c.over_nothing-best.result c.over_nothing-best.type_inv ∙ c.over_nothing-best.ensures ∙ sym n, back_is c.ranges.carried ∙ c.requires.carried_value)

pub returns-then-settled : goal.returns-then-settled
returns-then-settled c =
    let p = turned_best (goal.at.returns-then-settled c).After-extreme-run in
    let q = turned_run (goal.at.returns-then-settled c).After-extreme-run in
    p
    ∙ sym (best_settled c.args.first c.args.end c.args.e (cell c.args.cells.now c.args.rows c.args.left) (cell c.args.cells.now c.args.rows c.args.right) c.args.i (c.loop-j.j + 1) c.args.rows (omega (arith, c.requires.place_asks.0.from, c.loop-j.auto.j)) (omega (arith, c.requires.place_asks.0.end_inside))
    (sym (ap₂ (margin_extreme c.args.e) p q) ∙ c.settled.ensures c.if-settled.true ∙ p))

pub loop-j-preserved : goal.loop-j-preserved
loop-j-preserved c = (turned_best (goal.at.loop-j-preserved c).After-extreme-run, turned_run (goal.at.loop-j-preserved c).After-extreme-run)

pub returns : goal.returns
returns c =
    c.loop-j.invariant.0
    ∙ sym (best_end c.args.first c.args.end c.args.e (cell c.args.cells.now c.args.rows c.args.left) (cell c.args.cells.now c.args.rows c.args.right) c.args.i c.loop-j.j c.args.rows (omega (arith, c.requires.place_asks.0.from, c.loop-j.auto.j)) c.loop-j-test.false c.requires.place_asks.0.end_inside)
