-- Right at the new sample is joined with what left was before it; then left is taken in.
-- Assumes nothing.
use mathlib.Core.Path.{◌≡◌, ◌∙◌}
use native.Mathlib.Omega.{arith}
use Rattle.numbers.proofs.Bits.{back, back_ok, back_is}
use Rattle.logic.specs.Formula.{dual}
use Rattle.logic.specs.Reading.{margin_extreme}
use Rattle.watch_cells.specs.Taking.{margin_after, newest_of}
use Rattle.watch_cells.proofs.Own.{three_only, three_first, three_second, three_third, beyond_kept}
use Rattle.watch_cells.proofs.Taken.{room, timed_taken}
use Rattle.watch_cells.proofs.take_timed.Goals as goal

pub returns : goal.returns
returns c =
    let du = c.dual-other in
    let o = c.over_nothing in
    let m = c.so_far-margin in
    let p = c.over_nothing-2 in
    let x = c.so_far-carried in
    let w = c.in_window-here in
    let z = c.extreme-next in
    let y = c.margin_after-best in
    let v = c.newest_of-newest in
    let e = c.args.e in
    let k = c.args.k in
    let l = c.args.cells.now in
    let other : du.result ≡ dual e = du.ensures in
    let bx = back_ok x.result x.type_inv in
    let hv : back v.result ≡ newest_of c.args.node e c.args.right = back_ok v.result v.type_inv ∙ v.ensures ∙ rw (back_is c.ranges.right) in
    let hy : back y.result ≡ margin_after e m.result x.result c.args.right w.result = back_ok y.result y.type_inv ∙ y.ensures ∙ rw (back_ok m.result m.type_inv, bx, back_is c.ranges.right) in
    let hz : back z.result ≡ margin_extreme (dual e) x.result c.args.left = back_ok z.result z.type_inv ∙ z.ensures ∙ rw (bx, back_is c.ranges.left, other) in
    let O = three_only l k _ _ _ in record {
      taken = λ numbers values n-is a t d r A small K.
          let at = n-is ∙ K.planned.nodes k c.requires.0 in
          let i = room A small at K in
          timed_taken A small at K a m.result x.result w.result (m.ensures ∙ rw (back_ok o.result o.type_inv, o.ensures)) (x.ensures ∙ rw (back_ok p.result p.type_inv, p.ensures, other)) w.ensures
          O (three_first l k _ _ _ (i 0 (omega arith)) ∙ hv) (three_second l k _ _ _ (i 1 (omega arith)) ∙ hy) (three_third l k _ _ _ (i 2 (omega arith)) ∙ hz);
      beyond = beyond_kept O c.requires.0;
    }
