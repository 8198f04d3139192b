-- A child's row stands before the row that is filled, so while it is filled the child's values are as they were. A lent part is filled
-- from its own place 0 on.
-- Assumes nothing.
use mathlib.Core.Path.{◌≡◌}
use mathlib.Core.List.{List}
use Prim.Native.Nat.{ℕ, ◌+◌, ◌*◌, ◌<◌}
use native.Mathlib.Omega.{arith}
use lib.IntN.{ℤ, pos}
use native.Mathlib.Nat.{zero-add}
use lib.ListN.{set}
use Rattle.lists.specs.Fill.{fill}
use Rattle.lists.proofs.Filled.{fill_next, fill_before, earlier_row}
use Rattle.rows.specs.Cells.{cell, Above}

pub child_kept : {w l : List ℤ} (n child row m : ℕ) (f : ℕ → ℤ) → Above w n child row → l ≡ fill (row * n) m f w → (i : ℕ) → i < n → cell l n child i ≡ cell w n child i
child_kept {w} n child row m f a e i h = fill_before (row * n) m f w (child * n + i) (pos 0) e (omega (arith, earlier_row child row n a.earlier))

-- one more store in a part that is filled from place 0 on
pub fill_more : (n : ℕ) (f : ℕ → ℤ) (w : List ℤ) {l : List ℤ} {v : ℤ} → l ≡ fill 0 n f w → v ≡ f n → set l n v ≡ fill 0 (n + 1) f w
fill_more n f w e h = rw (zero-add n) at (fill_next 0 n f w e h)
