-- What was written is the front of the lines.
-- Assumes nothing.
use Rattle.std.proofs.Common.{◌≤◌, length, take}
use Rattle.std.specs.Io.KnownBytes.{Appends}
use Rattle.program.proofs.write_lines.Given as goal

abbrev pub invariant-loop : goal.invariant-loop
invariant-loop g l = record {
  inside : l.done ≤ length l.lines;
  put : Appends (g.W.Write.contents l.initial.writer) (g.W.Write.contents l.writer) (take l.done l.lines);
}
