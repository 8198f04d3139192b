-- Each value is tested.
-- Assumes nothing.
use Rattle.std.proofs.Common.{rules, tests, length, refl, pos}
use Rattle.lists.proofs.Chains.{all_of_slice}
use Rattle.predicates.specs.Predicates.{value_obeys}
use Rattle.rules.specs.Recording.{values_obey}
use Rattle.rules.proofs.values_obey.Goals as goal

pub returns : goal.returns
unfolding values_obey
returns c = all_of_slice value_obeys (pos 0) c.args.values.now (length c.args.values.now) c.all.ensures.ran (cc) refl (λ x b q k. search (rules, tests))
