-- The walk keeps `Noted`: behind the last node its test is that of the whole table.
-- Assumes nothing.
use Rattle.lists.proofs.Below.{tested_all}
use Rattle.nesting.specs.Nesting.{nodes_unnested}
use Rattle.nesting.proofs.Noted.{noted_next}
use Rattle.nesting.proofs.unnested.Goals as goal

pub loop-k-preserved : goal.loop-k-preserved
loop-k-preserved c =
    noted_next _ c.requires _ c.loop-k-test.true c.loop-k.timed c.loop-k.invariant c.is_timed-here.ensures c.operands_timed-below.ensures

pub returns : goal.returns
unfolding nodes_unnested
returns c = tested_all c.loop-k.invariant.tested c.loop-k-test.false
