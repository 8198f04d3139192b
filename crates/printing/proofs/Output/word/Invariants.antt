-- So far the bytes in front of the loop's are printed.
-- Assumes nothing.
use Rattle.std.proofs.Common.{◌≡◌, take}
use Rattle.printing.specs.Output.{printed}
use Rattle.printing.proofs.Output.word.Given as goal

abbrev pub invariant-loop-b : goal.invariant-loop-b
invariant-loop-b g l = l.self ≡ printed l.initial.self (take l.b-index l.word)
