-- The value at the row, and at sample 0 what it was at the first.
-- Assumes nothing.
use mathlib.Core.Path.{◌≡◌, refl, ◌∙◌}
use Prim.Native.Nat.{ℕ}
use native.Mathlib.Omega.{arith}
use Rattle.numbers.proofs.Bits.{back_is}
use Rattle.watch_cells.proofs.Own.{only_one, set_same, set_other, two_only, two_first, two_second, two_third, beyond_kept}
use Rattle.watch_cells.proofs.Taken.{room, leaf_taken}
use Rattle.watch_cells.proofs.take_leaf.Goals as goal

pub returns-then-opening : goal.returns-then-opening
returns-then-opening c =
    let l = c.args.cells.now in
    let k = c.args.k in
    let f = c.args.leaf in
    let O = two_only l k f f in record {
      taken = λ numbers values since n n-is L t d r A small K.
          let m = room A small (n-is ∙ K.planned.nodes k c.requires) K in
          rw (back_is c.ranges.leaf)
          (leaf_taken A small (n-is ∙ K.planned.nodes k c.requires) K f L O (two_first l k f f (m 0 (omega arith))) (two_second l k f f (m 1 (omega arith)) ∙ rw c.if-opening.true refl) (two_third l k f f));
      beyond = rw (back_is c.ranges.leaf) (beyond_kept O c.requires);
    }

pub returns-else-opening : goal.returns-else-opening
returns-else-opening c =
    let l = c.args.cells.now in
    let k = c.args.k in
    let f = c.args.leaf in
    let O = only_one l k 0 f (omega arith) in record {
      taken = λ numbers values since n n-is L t d r A small K.
          let m = room A small (n-is ∙ K.planned.nodes k c.requires) K in
          rw (back_is c.ranges.leaf)
          (leaf_taken A small (n-is ∙ K.planned.nodes k c.requires) K f L O (set_same l k 0 f (m 0 (omega arith))) (set_other l k 0 f 1 (λ (z : ◌≡◌ {A = ℕ} 1 0). omega arith) ∙ rw c.if-opening.false refl) (set_other l k 0 f 2 (λ (z : ◌≡◌ {A = ℕ} 2 0). omega arith)));
      beyond = rw (back_is c.ranges.leaf) (beyond_kept O c.requires);
    }
