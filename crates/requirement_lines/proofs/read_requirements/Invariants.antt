-- `requirement_lines::read_requirements` meets its contract: what was read and what is left are together what all of the lines give.
-- Assumes nothing.
use Prim.Native.Nat.{◌-◌}
use lib.ListN.{length}
use Rattle.requirement_lines.proofs.Collecting.{Collecting}
use Rattle.requirement_lines.proofs.read_requirements.Given as goal

abbrev pub invariant-loop-next : goal.invariant-loop-next
invariant-loop-next l = Collecting l.s l.at l.count l.places l.next

abbrev pub decreases-loop-next : goal.decreases-loop-next
decreases-loop-next l = length l.s - l.next
