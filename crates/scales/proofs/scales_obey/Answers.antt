-- The walk is `all_of_range`.
-- Assumes nothing.
use Rattle.std.proofs.Common.{rules, tests, refl, get_or}
use Rattle.lists.proofs.Chains.{all_of_range}
use Rattle.scales.specs.Scales.{passed_obeys, scales_obey}
use Rattle.scales.proofs.scales_obey.Goals as goal

pub returns : goal.returns
unfolding scales_obey
returns c =
    all_of_range (λ ch. passed_obeys c.args.scales.count ch (get_or c.args.scales.each ch 0)) 8 c.all.ensures.ran refl (λ x b q k. search (rules, tests))
