-- `requirement_lines::read_requirements` meets its contract: what was read and what is left are together what all of the lines give.
-- Assumes nothing.
use Rattle.std.proofs.Common.{◌≡◌, true, Some, sym, ◌∙◌, arith}
use Rattle.std.proofs.lemmas.Grind.{common_steps}
use Rattle.text.specs.Bytes.{bytes}
use Rattle.text.specs.Mark.{key_at}
use Rattle.requirement_lines.specs.Reading.{requirement_at}
use Rattle.requirement_lines.proofs.Collecting.{collect_start, collect_over, collect_bad, collect_less, collect_more}
use Rattle.requirement_lines.proofs.read_requirements.Goals as goal
use Rattle.requirement_lines.proofs.read_requirements.Goals.{In_ok-line}

-- a line is due in a turn, and this one was read
due : (c : In_ok-line) → key_at (bytes "req=") c.args.s.now c.loop-next.next ≡ true
due c = sym c.key_at.ensures ∙ c.loop-next-test.true

read : (c : In_ok-line) → requirement_at c.args.s.now c.loop-next.next ≡ Some c.in_ok-line.line
read c = sym c.read_line.ensures ∙ c.in_ok-line.was

pub loop-next-init : goal.loop-next-init
loop-next-init c = rw c.nowhere-places.ensures (collect_start _ _)

pub returns-in_err-line : goal.returns-in_err-line
returns-in_err-line c =
    c.from_residual.ensures ∙ collect_bad _ _ _ _ _ c.loop-next.invariant (sym c.key_at.ensures ∙ c.loop-next-test.true) (sym c.read_line.ensures ∙ c.in_err-line.was)

pub loop-next-smaller : goal.loop-next-smaller
loop-next-smaller c = let d = (goal.at.loop-next-smaller c).In_ok-line in collect_less _ _ _ _ _ c.loop-next.invariant (due d) _ (read d)

pub loop-next-preserved : goal.loop-next-preserved
loop-next-preserved c =
    let d = (goal.at.loop-next-preserved c).In_ok-line in
    let m = collect_more _ _ _ _ _ c.loop-next.invariant (due d) _ (read d) in
    grind (arith, common_steps)

pub returns : goal.returns
returns c = collect_over _ _ _ _ _ c.loop-next.invariant (sym c.key_at.ensures ∙ c.loop-next-test.false)
