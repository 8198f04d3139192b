-- Each time and the next are tested.
-- Assumes nothing.
use Rattle.std.proofs.Common.{rules, leb, ◌-◌}
use Rattle.std.proofs.lemmas.Fn.{always_returns_same}
use Rattle.lists.proofs.Chains.{all_of_neighbours}
use Rattle.sampling.specs.Sampling.{times_close}
use Rattle.sampling.proofs.times_close.Goals as goal

pub returns : goal.returns
unfolding times_close
returns c = all_of_neighbours (λ from to. leb (to - from) c.args.step) 0 c.args.times.now (c.is_sorted_by.ensures.cases (λ from to. leb (to - from) c.args.step) (search (rules, always_returns_same)))
