-- The counts' tests compute to what they are where the walk is left out, and the walk is `all_of_range`.
-- Assumes nothing.
use Rattle.std.proofs.Common.{rules, tests, refl}
use Rattle.lists.proofs.Chains.{all_of_range}
use Rattle.tables.specs.Tree.{node_at}
use Rattle.tables.specs.Rules.{node_obeys, nodes_obey, table_obeys}
use Rattle.tables.proofs.table_obeys.Goals as goal

pub returns-then-count-ge1 : goal.returns-then-count-ge1
unfolding table_obeys nodes_obey
returns-then-count-ge1 c =
    let each = all_of_range (λ k. node_obeys (node_at c.args.table.nodes k) k) c.args.table.count c.all.ensures.ran refl (λ x b q k. search (rules, tests)) in
    search rules

pub returns-else-count-ge1 : goal.returns-else-count-ge1
unfolding table_obeys
returns-else-count-ge1 c = search rules
