-- The walk keeps `Noted`: behind the last node its test is that of the whole table.
-- Assumes nothing.
use Rattle.nesting.proofs.Noted.{Noted}
use Rattle.nesting.proofs.unnested.Given as goal

abbrev pub invariant-loop-k : goal.invariant-loop-k
invariant-loop-k l = Noted l.table l.k l.timed l.ok
