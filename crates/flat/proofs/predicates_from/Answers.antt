-- The first p places are the predicates that the numbers give; the others are unset.
-- Assumes nothing.
use mathlib.Core.Path.{◌∙◌}
use native.Mathlib.Nat.{zero-add}
use native.Mathlib.Omega.{arith}
use Rattle.lists.proofs.Filled.{fill_none, fill_next, fill_to}
use Rattle.flat.specs.Predicates.{predicates_from}
use borrow.Author.Rules.{rules}
use Rattle.flat.proofs.predicates_from.Goals as goal

pub loop-p-init : goal.loop-p-init
loop-p-init c = (search rules, c.unset_predicates-predicates.ensures ∙ fill_none 0 _ _)

pub loop-p-preserved : goal.loop-p-preserved
loop-p-preserved c = (search rules, rw zero-add at (fill_next 0 _ _ _ c.loop-p.invariant.1 c.predicate_from.ensures))

pub returns : goal.returns
unfolding predicates_from
returns c = fill_to 0 _ _ (omega arith) c.loop-p.invariant.1
