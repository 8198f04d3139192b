-- The measure of a tree comes from those of its children, though each is counted no further than one past the limits: what is past a limit stays past it.
-- Assumes nothing.
use mathlib.Core.Path.{◌≡◌, refl, ap₂, ◌∙◌}
use mathlib.Core.List.{List}
use Prim.Native.Nat.{ℕ, suc, ◌+◌, ◌-◌, ◌≤◌, ◌<◌, min, max}
use native.Mathlib.Omega.{arith}
use native.Mathlib.Decide.{ℕ_discrete}
use lib.ListN.{length, get_or, set, length-set}
use lib.Seq.{get_or-set_same, get_or-set_other}
use Rattle.tables.specs.declared.Node.{Node}
use Rattle.tables.specs.Kind.{operator}
use Rattle.tables.specs.Tree.{NODES}
use Rattle.tables.specs.Rules.{Use, child, number, unused, left_use, right_use, NodeRules}
use Rattle.tables.proofs.Rules.{child_before, named_small}
use Rattle.tables.specs.declared.Span.{Span}
use Rattle.grammar.specs.declared.Part.{Part}
use Rattle.grammar.specs.declared.Part.TheVariants.{Alternative as alternative, Unary as unary}
use Rattle.grammar.specs.Grammar.{ENCLOSINGS}
use Rattle.grammar.specs.Tree.{Tree, one, two, size}
use Rattle.building.specs.Unshared.{tree_by, unshared}
use Rattle.building.proofs.Unshared.{unshared_node}
use Rattle.spelling.specs.Text.{part_of, left_part, right_part}
use Rattle.spelling.specs.Enclosings.{enclosings, enclosings_as, pair, tree_part}
use Rattle.spelling.proofs.Pairs.{stands_alternative, enclosings_own}
use Rattle.writing.specs.declared.Measure.{Measure}
use Rattle.writing.specs.Ruled.{Ruled}
use Rattle.writing.specs.Measures.{measure_of, one_measure, two_measure, node_measure}

pub alike : (p : Part) {m n d e : ℕ} → m ≡ n → d ≡ e → ◌≡◌ {A = Measure} (record { nodes = m; enclosings = d; part = p }) (record { nodes = n; enclosings = e; part = p })
alike p f g = ap₂ (λ (n e : ℕ). record { nodes = n; enclosings = e; part = p }) f g

-- counting on from what was cut off at a limit
pub cut_one : (m l : ℕ) → min (min m l + 1) l ≡ min (m + 1) l
cut_one m l = omega arith

cut_two : (m n l : ℕ) → min (min m l + min n l + 1) l ≡ min (m + n + 1) l
cut_two m n l = omega arith

cut_deeper : (m p l : ℕ) → min (min m l + p + 1) l ≡ min (suc (m + p)) l
cut_deeper m p l = omega arith

cut_larger : (m p n q l : ℕ) → min (max (min m l + p) (min n l + q)) l ≡ min (max (m + p) (n + q) + 0) l
cut_larger m p n q l = omega arith

one_is : (k : ℕ) (w : Span) (a : Tree) → one_measure (measure_of a) ≡ measure_of (one k w a)
unfolding size enclosings_as
one_is k w a =
    alike unary (cut_one (size a) (suc NODES))
    (cut_deeper (enclosings a) (pair unary (tree_part a)) (suc ENCLOSINGS) ∙ rw (enclosings_own unary a))

two_is : (k : ℕ) (w : Span) (a b : Tree) → two_measure (part_of k) (measure_of a) (measure_of b) ≡ measure_of (two k w a b)
unfolding size enclosings_as
two_is k w a b =
    let l : Part = left_part (part_of k) in
    let r : Part = right_part (part_of k) in
    alike (part_of k) (cut_two (size a) (size b) (suc NODES))
    (cut_larger (enclosings a) (pair l (tree_part a)) (enclosings b) (pair r (tree_part b)) (suc ENCLOSINGS) ∙ rw (enclosings_own l a, enclosings_own r b, stands_alternative (part_of k)))

-- a node's measure from those of its children
by_use : (u v : Use) (n : Node) (f : ℕ → Tree) (g : ℕ → Measure) → (u ≡ child → g n.left ≡ measure_of (f n.left)) → (v ≡ child → g n.right ≡ measure_of (f n.right))
    → node_measure u v (part_of n.kind) (g n.left) (g n.right) ≡ measure_of (tree_by u v n f)
unfolding size enclosings_as
by_use child child n f g l r = rw (l refl, r refl) (two_is n.kind n.span (f n.left) (f n.right))
by_use child number n f g l r = rw (l refl) (one_is n.kind n.span (f n.left))
by_use child unused n f g l r = rw (l refl) (one_is n.kind n.span (f n.left))
by_use number v n f g l r = refl
by_use unused v n f g l r = refl

pub measured : (at : ℕ → Node) (k : ℕ) (g : ℕ → Measure) → NodeRules (at k) k → ((j : ℕ) → j < k → g j ≡ measure_of (unshared at j))
    → node_measure (left_use (operator (at k).kind)) (right_use (operator (at k).kind)) (part_of (at k).kind) (g (at k).left) (g (at k).right) ≡ measure_of (unshared at k)
measured at k g r h =
    rw (unshared_node at k r)
    (by_use (left_use (operator (at k).kind)) (right_use (operator (at k).kind)) (at k) (unshared at) g
    (λ e. h (at k).left (child_before _ k (at k).left r.left e)) (λ e. h (at k).right (child_before _ k (at k).right r.right e)))

-- ---- the loop over a table's nodes

-- what an array is said to hold past its end
abbrev none : Measure
none = record { nodes = 0; enclosings = 0; part = alternative }

-- before node k the measures of all earlier ones stand in their places
pub record Measured (at : ℕ → Node) (count k : ℕ) (ms : List Measure) : Type 0 where
  pub inside : k ≤ count
  pub long : length ms ≡ NODES
  pub each : (j : ℕ) → j < k → get_or ms j none ≡ measure_of (unshared at j)

module _ (at : ℕ → Node) (count k : ℕ) (ruled : Ruled at (count - 1)) (h : k < count) where
  -- every number that a node may name has a place
  pub places : ((at k).left < NODES) × ((at k).right < NODES)
  places = named_small (ruled.each k (omega arith)) (omega (arith, ruled.inside))

  pub measured_next : (ms : List Measure) (m : Measure) → Measured at count k ms
      → m ≡ node_measure (left_use (operator (at k).kind)) (right_use (operator (at k).kind)) (part_of (at k).kind) (get_or ms (at k).left none) (get_or ms (at k).right none)
      → Measured at count (k + 1) (set ms k m)
  measured_next ms m i e = record { inside = omega arith; long = length-set ms k m ∙ i.long; each = each }
    where
      each : (j : ℕ) → j < k + 1 → get_or (set ms k m) j none ≡ measure_of (unshared at j)
      each j g = elim (ℕ_discrete j k) [
        | yes q ↦ rw q (get_or-set_same ms k m none (omega (arith, ruled.inside, i.long)) ∙ (e ∙ measured at k (λ x. get_or ms x none) (ruled.each k (omega arith)) i.each))
        | no q ↦ get_or-set_other ms k j m none q ∙ i.each j (omega arith)
      ]
