-- The loop's invariant: what was handed in is joined with the places from `from` up to j.
-- Assumes nothing.
use mathlib.Core.Path.{◌≡◌, ◌∙◌, refl}
use Prim.Native.Nat.{◌-◌}
use native.Mathlib.Omega.{arith}
use Rattle.numbers.proofs.Bits.{back_ok, back_is}
use Rattle.rows.specs.Cells.{cell}
use Rattle.sliding.proofs.Over.{joined_next}
use Rattle.sliding.proofs.joined_on.Goals as goal

pub loop-j-preserved : goal.loop-j-preserved
loop-j-preserved c =
    let x = c.cell_at in
    (omega arith, joined_next c.args.e _ (cell c.args.cells.now c.args.rows c.args.source) _ _ c.loop-j.auto.j c.loop-j.invariant.1 (back_ok x.result x.type_inv ∙ x.ensures) c.extreme-joined.ensures (back_ok c.extreme-joined.result c.extreme-joined.type_inv))

pub returns : goal.returns
returns c =
    let e : c.loop-j.j - c.args.from ≡ c.args.high - c.args.from = omega arith in
    (rw e at c.loop-j.invariant.1) ∙ (rw (back_is c.ranges.tail) refl)
