-- `predicate_lines::read_predicates` meets its contract: the lines that are left give what all of them give.
-- Assumes nothing.
use Prim.Native.Nat.{◌-◌}
use Rattle.predicate_lines.proofs.Rest.{Rest}
use Rattle.predicate_lines.proofs.read_predicates.Given as goal

abbrev pub invariant-loop-all : goal.invariant-loop-all
invariant-loop-all l = Rest l.s l.at l.least (record { value = l.all; next = l.next })

abbrev pub decreases-loop-all : goal.decreases-loop-all
decreases-loop-all l = 16 - l.least
