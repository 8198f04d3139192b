-- The row is the first where the next row may have any time.
-- Assumes nothing.
use mathlib.Core.Path.{refl}
use Rattle.watches.proofs.begin.Goals as goal

pub returns-then-opening : goal.returns-then-opening
returns-then-opening c = record { first = refl; numbers = rw c.if-opening.true-raw refl }

pub returns-else-opening : goal.returns-else-opening
returns-else-opening c = record { first = refl; numbers = rw c.if-opening.false-raw refl }
