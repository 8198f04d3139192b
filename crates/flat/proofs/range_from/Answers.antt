-- Each arm is an entry of the table; the last is every number that no range has.
-- Assumes nothing.
use mathlib.Core.Path.{sym}
use native.Mathlib.Omega.{arith}
use borrow.Author.Rules.{rules}
use Rattle.flat.specs.Predicates.{range_from}
use Rattle.flat.proofs.Laid.{no_range}
use Rattle.flat.proofs.range_from.Goals as goal

pub returns-in-1 : goal.returns-in-1
unfolding range_from
returns-in-1 c = rw c.in-1.is (search rules)

pub returns-in-2 : goal.returns-in-2
unfolding range_from
returns-in-2 c = rw c.in-2.is (search rules)

pub returns-in-3 : goal.returns-in-3
unfolding range_from
returns-in-3 c = rw c.in-3.is (search rules)

pub returns-in-4 : goal.returns-in-4
unfolding range_from
returns-in-4 c = rw c.in-4.is (search rules)

pub returns-in_default : goal.returns-in_default
returns-in_default c = sym (no_range c.args.number _ _ (λ e. absurd (omega arith)) (λ e. absurd (omega arith)) (λ e. absurd (omega arith)) (λ e. absurd (omega arith)))
