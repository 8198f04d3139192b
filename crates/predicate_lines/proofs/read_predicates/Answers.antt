-- `predicate_lines::read_predicates` meets its contract: the lines that are left give what all of them give.
-- Assumes nothing.
use Rattle.std.proofs.Common.{◌≡◌, true, Some, None, sym, ◌∙◌}
use Rattle.text.specs.Bytes.{bytes}
use Rattle.text.specs.Mark.{key_at}
use Rattle.predicate_lines.specs.Reading.{line_at}
use Rattle.predicate_lines.proofs.Rest.{rest_start, rest_over, rest_bad, rest_below, rest_less, rest_more}
use Rattle.predicate_lines.proofs.read_predicates.Goals as goal
use Rattle.predicate_lines.proofs.read_predicates.Goals.{In_ok-line}

-- a line is due in a turn, and this one was read
due : (c : In_ok-line) → key_at (bytes "p=") c.args.s.now c.loop-all.next ≡ true
due c = sym c.key_at.ensures ∙ c.loop-all-test.true

read : (c : In_ok-line) → line_at c.args.s.now c.loop-all.next ≡ Some c.in_ok-line.line
read c = sym c.read_line.ensures ∙ c.in_ok-line.was

pub loop-all-init : goal.loop-all-init
loop-all-init c = rw c.unset_predicates-all.ensures (rest_start _ _)

pub returns-in_err-line : goal.returns-in_err-line
returns-in_err-line c =
    let e : None ≡ _ = rest_bad _ _ _ _ c.loop-all.invariant (sym c.key_at.ensures ∙ c.loop-all-test.true) (sym c.read_line.ensures ∙ c.in_err-line.was) in
    c.from_residual.ensures ∙ e

pub returns-then-number-least : goal.returns-then-number-least
returns-then-number-least c = let d = (goal.at.returns-then-number-least c).In_ok-line in rest_below _ _ _ _ c.loop-all.invariant (due d) _ (read d) c.if-number-least.true

pub loop-all-smaller : goal.loop-all-smaller
loop-all-smaller c = let d = (goal.at.loop-all-smaller c).In_ok-line in rest_less _ _ _ _ c.loop-all.invariant (due d) _ (read d) c.if-number-least.false

pub loop-all-preserved : goal.loop-all-preserved
loop-all-preserved c = let d = (goal.at.loop-all-preserved c).In_ok-line in rest_more _ _ _ _ c.loop-all.invariant (due d) _ (read d) c.if-number-least.false

pub returns : goal.returns
returns c = rest_over _ _ _ _ c.loop-all.invariant (sym c.key_at.ensures ∙ c.loop-all-test.false)
