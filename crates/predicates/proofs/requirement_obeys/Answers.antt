-- A table that obeys has at most NODES nodes, so its nodes may be looked up; the walk is `all_of_range`.
-- Assumes nothing.
use mathlib.Core.Path.{subst}
use lib.Dec.{T}
use Rattle.std.proofs.Common.{rules, tests, refl}
use Rattle.std.proofs.iter.Serving.{serving}
use Rattle.lists.proofs.Chains.{all_of_range}
use Rattle.tables.specs.Tree.{node_at}
use Rattle.tables.proofs.Rules.{table_rules}
use Rattle.predicates.specs.Predicates.{names_set, all_named, requirement_obeys}
use Rattle.predicates.proofs.requirement_obeys.Goals as goal

pub all-requires-clause-callable : goal.all-requires-clause-callable
all-requires-clause-callable c =
    let few = (table_rules c.args.table (subst T c.if-table_obeys.ensures tt)).few_nodes in
    grind serving

pub returns-then-table_obeys : goal.returns-then-table_obeys
unfolding requirement_obeys all_named
returns-then-table_obeys c =
    let each = all_of_range (λ k. names_set (node_at c.args.table.nodes k) c.args.predicates) c.args.table.count c.all.ensures.ran refl (λ x b q k. search (rules, tests)) in
    search rules

pub returns-else-table_obeys : goal.returns-else-table_obeys
unfolding requirement_obeys
returns-else-table_obeys c = search rules
