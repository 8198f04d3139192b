-- Both operands are nodes.
-- Assumes nothing.
use mathlib.Core.Path.{◌∙◌}
use Rattle.numbers.proofs.Bits.{back_ok}
use Rattle.watch_cells.proofs.Points.{binary_asks}
use Rattle.watch_cells.proofs.take_binary.Goals as goal

pub returns : goal.returns
returns c =
    let n = c.node_of-node in
    let l = c.operand-left in
    let r = c.operand-right in record {
      taken = λ values e.
          c.take_timed.ensures.taken c.args.numbers.now values n.ensures
          (binary_asks (rw n.ensures e) (λ h. back_ok l.result l.type_inv ∙ l.ensures h) (λ h. back_ok r.result r.type_inv ∙ r.ensures h));
      beyond = c.take_timed.ensures.beyond;
    }
