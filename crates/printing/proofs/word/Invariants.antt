-- After each turn one byte more of the word is printed.
-- Assumes nothing.
use Rattle.std.proofs.Common.{◌≡◌, take}
use Rattle.printing.specs.Output.{printed}
use Rattle.printing.proofs.word.Given as goal

abbrev pub invariant-loop-b : goal.invariant-loop-b
invariant-loop-b l = record { bytes = l.out; end = l.next } ≡ printed (record { bytes = l.initial.out; end = l.at }) (take l.b-index l.word)
