-- Its operands are earlier nodes.
-- Assumes nothing.
use mathlib.Core.Path.{refl, ap, ◌∙◌}
use native.Mathlib.Omega.{arith}
use lib.IntN.{neg_ℤ}
use Rattle.numbers.proofs.Bits.{back_ok}
use Rattle.watch_cells.specs.Taking.{untimed}
use Rattle.watch_cells.proofs.point_at.Goals as goal

pub returns-in-None : goal.returns-in-None
returns-in-None c =
    λ k few o. let e = o ∙ ap untimed c.in-None.is in record {
      untimed = rw e refl;
      value = λ leaf l r a.
          let x = a.left (rw e refl) in
          let v = back_ok c.operand-a.result c.operand-a.type_inv ∙ c.operand-a.ensures (omega (arith, x.earlier, few)) ∙ x.value in
          rw e (back_ok c.opposite.result c.opposite.type_inv ∙ c.opposite.ensures (rw v (a.bounded e)) ∙ ap neg_ℤ v);
    }

pub returns-in-Some : goal.returns-in-Some
returns-in-Some c =
    λ k few o. let e = o ∙ ap untimed c.in-Some.is in record {
      untimed = rw e refl;
      value = λ leaf l r a.
          let x = a.left (rw e refl) in
          let y = a.right (rw e refl) in
          let v = back_ok c.operand-a.result c.operand-a.type_inv ∙ c.operand-a.ensures (omega (arith, x.earlier, few)) ∙ x.value in
          let w = back_ok c.operand.result c.operand.type_inv ∙ c.operand.ensures (omega (arith, y.earlier, few)) ∙ y.value in
          rw e (back_ok c.extreme.result c.extreme.type_inv ∙ c.extreme.ensures ∙ rw (v, w));
    }
