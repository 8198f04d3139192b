-- Refusal 16: a temporal operator stands inside another. On requirements, and the test of a table, which looks at every node. `proofs/Nesting` shows the test equal to its
-- sentence, `Unnested`.
-- Assumes nothing.
use Rattle.std.specs.Prelude.{Bool, true, false, ◌&&◌, List, ℕ, ◌<◌, T}
use Rattle.lists.specs.Fold.{all_below}
use Rattle.logic.specs.Formula.{Formula, truth, atom, negation, junction, temporal}
use Rattle.tables.specs.declared.Node.{Node}
use Rattle.tables.specs.declared.Table.{Table}
use Rattle.tables.specs.Tree.{tree}

-- no temporal operator stands in it
abbrev pub momentary : {P : Type 0} → Formula P → Bool
momentary truth = true
momentary (atom p) = true
momentary (negation φ) = momentary φ
momentary (junction e l r) = momentary l && momentary r
momentary (temporal d e w l r) = false

-- none stands inside another, at any depth
abbrev pub unnested : {P : Type 0} → Formula P → Bool
unnested truth = true
unnested (atom p) = true
unnested (negation φ) = unnested φ
unnested (junction e l r) = unnested l && unnested r
unnested (temporal d e w l r) = momentary l && momentary r

-- 16: every node is asked, whether the root reaches it or not
unfoldable pub nodes_unnested : List Node → ℕ → Bool
nodes_unnested ns n = all_below (λ k. unnested (tree ns k)) n

-- and as a sentence
pub record Unnested (t : Table) : Type 0 where
  pub each : (k : ℕ) → k < t.count → T (unnested (tree t.nodes k))
