-- The arrays are as long as a watch.
-- Assumes nothing.
use borrow.Author.Rules.{rules}
use Rattle.watches.proofs.Watch.fresh.Goals as goal

pub returns : goal.returns
returns c = c.make.ensures.watch (record { long = search rules; wide = search rules })
