-- Each call of the array's map keeps the node at its place.
-- Assumes nothing.
use Rattle.std.proofs.Common.{◌≡◌, map, length, get_or, sym, ◌∙◌, arith, rules}
use Rattle.std.proofs.lemmas.List.{same_lists, get_or_default, length-map}
use Rattle.lists.proofs.Maps.{map_at}
use Rattle.building.specs.Nodes.{empty_node}
use Rattle.watch_cells.specs.State.{kept_node}
use Rattle.watches.proofs.kept_nodes.Goals as goal

pub returns : goal.returns
returns c =
    let m = c.map.ensures.items in
    let nodes = c.args.nodes in
    let long : length nodes ≡ 64 = search rules in
    same_lists c.map.result (map kept_node nodes) (m.long ∙ sym (length-map nodes kept_node ∙ long)) (λ k d h.
    let call = m.at k empty_node d (omega (arith, m.long)) in
    let one : get_or c.map.result k d ≡ kept_node (get_or nodes k empty_node) = search (rules, call.2) in
    one ∙ sym (map_at kept_node nodes k empty_node) ∙ get_or_default (map kept_node nodes) k (kept_node empty_node) d (omega (arith, length-map nodes kept_node, long, m.long)))
