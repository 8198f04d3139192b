-- The only operand is a node; on the left stands what an extremum over nothing is.
-- Assumes nothing.
use mathlib.Core.Path.{ap, ◌∙◌}
use Rattle.numbers.proofs.Bits.{back_ok}
use Rattle.logic.specs.Reading.{margin_nothing}
use Rattle.recordings.specs.Distance.{TOP}
use Rattle.watch_cells.proofs.Points.{unary_asks}
use Rattle.watch_cells.proofs.take_unary.Goals as goal

pub returns : goal.returns
returns c =
    let n = c.node_of-node in
    let u = c.dual in
    let l = c.over_nothing-left in
    let r = c.operand-right in record {
      taken = λ values e.
          c.take_timed.ensures.taken c.args.numbers.now values n.ensures
          (unary_asks (rw n.ensures e) (back_ok l.result l.type_inv ∙ l.ensures ∙ ap (margin_nothing TOP) u.ensures) (λ h. back_ok r.result r.type_inv ∙ r.ensures h));
      beyond = c.take_timed.ensures.beyond;
    }
