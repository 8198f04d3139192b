-- The walk is `all_of_slice`.
-- Assumes nothing.
use Rattle.std.proofs.Common.{rules, tests, length}
use Rattle.recordings.specs.declared.Range.TheVariants.{Unset}
use Rattle.lists.proofs.Chains.{all_of_slice}
use Rattle.predicates.specs.Predicates.{predicate_obeys, predicates_obey}
use Rattle.predicates.proofs.predicates_obey.Goals as goal

pub returns : goal.returns
unfolding predicates_obey
returns c =
    all_of_slice (λ p. predicate_obeys p c.args.channels) (record { channel = 0; range = Unset }) c.args.predicates (length c.args.predicates) c.all.ensures.ran (cc) (search rules) (λ x b q k. search (rules, tests))
