-- The root is the last node.
-- Assumes nothing.
use mathlib.Core.Path.{ap, ◌∙◌}
use native.Mathlib.Omega.{arith}
use Prim.Native.Nat.{ℕ}
use lib.ListN.{get_or}
use lib.IntN.{pos}
use Rattle.numbers.proofs.Bits.{back_ok}
use Rattle.watches.proofs.Answers.{root_held}
use Rattle.watches.proofs.root_margin.Goals as goal

pub returns : goal.returns
returns c =
    λ t k K R some.
    let n = K.planned.count in
    let f = R.few_nodes in
    let o = R.some_node in
    let at = c.root_cell.ensures.1 (omega arith) (omega arith) in
    back_ok _ c.result-1.given ∙ ap (λ (i : ℕ). get_or c.args.cells.now i (pos 0)) at ∙ root_held K R some
