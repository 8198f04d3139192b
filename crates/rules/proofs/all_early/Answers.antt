-- Each time is tested.
-- Assumes nothing.
use Rattle.std.proofs.Common.{rules, tests, leb, length, refl}
use Rattle.lists.proofs.Chains.{all_of_slice}
use Rattle.recordings.specs.Accepted.{LATEST}
use Rattle.rules.specs.Recording.{all_early}
use Rattle.rules.proofs.all_early.Goals as goal

pub returns : goal.returns
unfolding all_early
returns c = all_of_slice (λ t. leb t LATEST) 0 c.args.times.now (length c.args.times.now) c.all.ensures.ran (cc) refl (λ x b q k. search (rules, tests))
