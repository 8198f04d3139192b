-- The value at the row and the margin at sample 0, each from its operands, are written.
-- Assumes nothing.
use mathlib.Core.Path.{◌∙◌}
use Prim.Native.Nat.{◌≤◌}
use native.Mathlib.Omega.{arith}
use Rattle.numbers.proofs.Bits.{back_ok}
use Rattle.tables.specs.Tree.{NODES}
use Rattle.watch_cells.proofs.Own.{two_only, two_first, two_second, two_third, beyond_kept}
use Rattle.watch_cells.proofs.Taken.{room, point_taken}
use Rattle.watch_cells.proofs.take_point.Goals as goal

pub returns : goal.returns
returns c =
    let l = c.args.cells.now in
    let k = c.args.k in
    let n = c.node_of-node.ensures in
    let p = c.point_at-newest in
    let q = c.point_at-margin in
    let x = p.result in
    let y = q.result in
    let few : k ≤ NODES = omega (arith, c.requires) in
    let O = two_only l k _ _ in record {
      taken = λ values opening since e t d r A small K.
          let at = n ∙ K.planned.nodes k c.requires in
          let m = room A small at K in
          point_taken A small at K _ _ (rw (back_ok x p.type_inv) (p.ensures k few (rw n e))) (rw (back_ok y q.type_inv) (q.ensures k few (rw n e)))
          O (two_first l k _ _ (m 0 (omega arith))) (two_second l k _ _ (m 1 (omega arith))) (two_third l k _ _);
      beyond = beyond_kept O c.requires;
    }
