-- `text::read_number` meets its contract: the loop keeps `Run`, and the test of the digits that were seen decides, as that of all digits would.
-- Assumes nothing.
use Rattle.std.proofs.Common.{◌≡◌, ◌≤◌, true, false, length, get_or, drop, length-drop, take, sym, ◌∙◌, arith}
use Rattle.std.proofs.lemmas.List.{length-take}
use borrow.Author.Tests.{le-leb, lt-leb}
use Rattle.text.specs.Number.{digits, is_numeral}
use Rattle.text.proofs.Digits.{Run, digit_at, digits_few, numeral_seen, digits_seen, run_step, run_bad, run_done}
use Rattle.text.proofs.read_number.Goals as goal
use Rattle.text.proofs.read_number.Goals.{In-loop-b, After-loop-b}

-- a byte of the run is a digit
digit-here : (c : In-loop-b) → (48 ≤ get_or c.digits_at-digits.result.now c.loop-b.b-index 0) × (get_or c.digits_at-digits.result.now c.loop-b.b-index 0 ≤ 57)
digit-here c =
    let e = c.digits_at-digits.ensures in
    rw e (digit_at (take 64 (drop c.args.at c.args.s.now)) c.loop-b.b-index (rw e at c.loop-b-test.true))

-- the digits that were seen write a number
numeral : (c : After-loop-b) → is_numeral (get_or (digits (take 64 (drop c.args.at c.args.s.now))) 0 0) (length (digits (take 64 (drop c.args.at c.args.s.now)))) ≡ true
numeral c = rw c.digits_at-digits.ensures at (sym c.is_numeral.ensures ∙ c.if-not-is_numeral.false)

-- so they are all the digits
all_seen : (c : After-loop-b) → c.digits_at-digits.result.now ≡ digits (drop c.args.at c.args.s.now)
all_seen c = c.digits_at-digits.ensures ∙ digits_seen (drop c.args.at c.args.s.now) (numeral c)

-- behind the loop all of them are read
all_read : (c : After-loop-b) → Run (digits (drop c.args.at c.args.s.now)) (length (digits (drop c.args.at c.args.s.now))) c.loop-b.value
all_read c =
    let i : c.loop-b.b-index ≡ length c.digits_at-digits.result.now = omega (arith, c.loop-b-test.false, c.loop-b.auto.b-index-end) in
    rw (all_seen c) at (rw i at c.loop-b.invariant)

pub returns-then-not-is_numeral : goal.returns-then-not-is_numeral
returns-then-not-is_numeral c =
    run_bad _ _ _ (sym (numeral_seen (drop c.args.at c.args.s.now)) ∙ (rw c.digits_at-digits.ensures at (sym c.is_numeral.ensures ∙ c.if-not-is_numeral.true)))

pub overflow_sub-b : goal.overflow_sub-b
overflow_sub-b c = (digit-here (goal.at.overflow_sub-b c).In-loop-b).0

pub loop-b-preserved : goal.loop-b-preserved
loop-b-preserved c =
    rw c.from.ensures (run_step _ _ _ c.loop-b.invariant c.loop-b-test.true (digit-here (goal.at.loop-b-preserved c).In-loop-b))

pub overflow_add-result : goal.overflow_add-result
overflow_add-result c =
    let l = digits_few (take 64 (drop c.args.at c.args.s.now)) in
    rw c.digits_at-digits.ensures (omega (arith, length-take 64 (drop c.args.at c.args.s.now), length-drop c.args.at c.args.s.now))

pub returns-then-value-max : goal.returns-then-value-max
returns-then-value-max c =
    let d = (goal.at.returns-then-value-max c).After-loop-b in
    rw (all_seen d) (run_done _ _ _ (rw (numeral_seen (drop c.args.at c.args.s.now)) at (numeral d)) _ (all_read d) true (le-leb _ _ c.if-value-max.true))

pub returns-else-value-max : goal.returns-else-value-max
returns-else-value-max c =
    let d = (goal.at.returns-else-value-max c).After-loop-b in
    run_done _ _ _ (rw (numeral_seen (drop c.args.at c.args.s.now)) at (numeral d)) _ (all_read d) false (lt-leb _ _ c.if-value-max.false)
