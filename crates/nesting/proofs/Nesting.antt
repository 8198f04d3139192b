-- The test of refusal 16 holds exactly where its sentence does, node for node. Inside a temporal operator that passes it, no other stands.
-- Assumes nothing.
use Prim.Native.Nat.{ℕ}
use mathlib.Core.Bool.{Bool}
use lib.Dec.{T}
use mir.Facts.{and_yes}
use Rattle.lists.proofs.Below.{all_at, at_all}
use Rattle.logic.specs.declared.Extremum.{Extremum}
use Rattle.logic.specs.declared.Window.{Window}
use Rattle.logic.specs.Formula.{Formula, temporal}
use Rattle.logic.specs.declared.Direction.{Direction}
use Rattle.tables.specs.declared.Table.{Table}
use Rattle.tables.specs.Tree.{tree}
use Rattle.nesting.specs.Nesting.{momentary, unnested, nodes_unnested, Unnested}

pub inside_momentary : {P : Type 0} (d : Direction) (e : Extremum) (w : Window) (l r : Formula P) → T (unnested (temporal d e w l r)) → T (momentary l) × T (momentary r)
inside_momentary d e w l r t = and_yes (momentary l) (momentary r) t

module _ (t : Table) where
  abbrev passes : ℕ → Bool
  passes k = unnested (tree t.nodes k)

  pub unnested_are : T (nodes_unnested t.nodes t.count) → Unnested t
  unfolding nodes_unnested
  unnested_are h = record { each = all_at passes t.count h }

  pub unnested_pass : Unnested t → T (nodes_unnested t.nodes t.count)
  unfolding nodes_unnested
  unnested_pass u = at_all passes t.count u.each
