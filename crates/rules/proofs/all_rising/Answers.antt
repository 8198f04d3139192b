-- Each time and the next are tested.
-- Assumes nothing.
use Rattle.std.proofs.Common.{rules, ltb}
use Rattle.std.proofs.lemmas.Fn.{always_returns_same}
use Rattle.lists.proofs.Chains.{all_of_neighbours}
use Rattle.rules.specs.Recording.{all_rising}
use Rattle.rules.proofs.all_rising.Goals as goal

pub returns : goal.returns
unfolding all_rising
returns c = all_of_neighbours ltb 0 c.args.times.now (c.is_sorted_by.ensures.cases ltb (search (rules, always_returns_same)))
