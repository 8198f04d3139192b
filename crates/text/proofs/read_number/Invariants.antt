-- `text::read_number` meets its contract: the loop keeps `Run`, and the test of all digits decides.
-- Assumes nothing.
use Rattle.text.proofs.Digits.{Run}
use Rattle.text.proofs.read_number.Given as goal

abbrev pub invariant-loop-b : goal.invariant-loop-b
invariant-loop-b l = Run l.digits l.b-index l.value
