-- A node's number is below the count of nodes, so its remainder is itself.
-- Assumes nothing.
use mathlib.Core.Path.{◌≡◌, ap, ◌∙◌}
use Prim.Native.Nat.{ℕ, ◌+◌, ◌*◌, ◌%◌}
use native.Mathlib.Omega.{arith}
use lib.ListN.{get_or}
use lib.IntN.{pos}
use Rattle.numbers.proofs.Bits.{back_ok}
use Rattle.watch_cells.proofs.operand.Goals as goal

pub returns : goal.returns
returns c =
    λ h.
    let s = c.args in
    let e : s.child % 64 ≡ s.child = omega arith in
    back_ok _ c.result-1.given ∙ ap (λ (i : ℕ). get_or s.cells.now (32 + 64 * s.part + i) (pos 0)) e
