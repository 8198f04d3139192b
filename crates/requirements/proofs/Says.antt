-- The tree of the table of a tree is that tree, so the table's root is the requirement that the tree says. The nodes of a part stand one after the other, so a parent finds the roots of its
-- parts at the numbers that it names.
-- Assumes nothing.
use mathlib.Core.Path.{◌≡◌, refl, sym, ap, ◌∙◌}
use mathlib.Core.List.{List, [], ◌∷◌, ◌++◌}
use Prim.Native.Nat.{ℕ, ◌+◌, ◌-◌, ◌<◌}
use native.Mathlib.Nat.{zero-add, add-zero}
use native.Mathlib.Omega.{arith}
use lib.ListN.{length, get_or, replicate, length-append, get_or-append}
use lib.Seq.{get_or-append-add}
use Rattle.tables.specs.declared.Node.{Node}
use Rattle.tables.specs.Kind.{true_kind, predicate_kind}
use Rattle.tables.specs.Tree.{node_at, root, NODES, no_span}
use Rattle.tables.specs.Rules.{NodeRules}
use Rattle.grammar.specs.Tree.{Tree, truth, predicate, one, two, size}
use Rattle.grammar.specs.Grammar.{Requires}
use Rattle.building.specs.Nodes.{node, empty_node, nodes_of, table_of}
use Rattle.building.specs.Unshared.{node_tree, unshared, tree_of}
use Rattle.building.specs.Says.{says}
use Rattle.building.proofs.Cells.{length_nodes}
use Rattle.building.proofs.Unshared.{unshared_node, tree_says}
use Rattle.requirements.specs.Requirement.{requirement_of}
use Rattle.requirements.proofs.Answers.{answer_sound}
use Rattle.requirements.proofs.Rules.{Proper, derives_proper, each_node, made_rules}

-- nodes xs stand in a table from number o on
Stand : List Node → ℕ → List Node → Type 0
Stand ns o xs = (j : ℕ) → j < length xs → node_at ns (o + j) ≡ get_or xs j empty_node

stand_front : (ns : List Node) (o : ℕ) (xs ys : List Node) → Stand ns o (xs ++ ys) → Stand ns o xs
unfolding Stand
stand_front ns o xs ys h j l = h j (rw (length-append xs ys) (omega arith)) ∙ get_or-append xs ys empty_node j l

stand_behind : (ns : List Node) (o m : ℕ) (xs ys : List Node) → length xs ≡ m → Stand ns o (xs ++ ys) → Stand ns (o + m) ys
unfolding Stand
stand_behind ns o m xs ys e h j l =
    let a : o + m + j ≡ o + (length xs + j) = omega arith in
    rw a (h (length xs + j) (rw (length-append xs ys) (omega arith)) ∙ get_or-append-add xs ys j empty_node)

-- the node behind nodes xs
stand_last : (ns : List Node) (o m : ℕ) (xs : List Node) (x : Node) → length xs ≡ m → Stand ns o (xs ++ (x ∷ [])) → node_at ns (o + m) ≡ x
stand_last ns o m xs x e h = ap (node_at ns) (sym (add-zero (o + m))) ∙ (unfold Stand in stand_behind ns o m xs (x ∷ []) e h 0 (omega arith))

module _ (ns : List Node) where
  -- the tree of a part's last node, its children being earlier nodes
  rooted : (o : ℕ) (a : Tree) (m : ℕ) (x : Node) → Proper a → size a ≡ m + 1 → Stand ns o (nodes_of o a) → node_at ns (o + m) ≡ x → unshared (node_at ns) (o + size a - 1) ≡ node_tree x (unshared (node_at ns))
  unfolding Stand
  rooted o a m x p z h e =
      let i : m < length (nodes_of o a) = rw (length_nodes o a) (omega arith) in
      let n : o + size a - 1 ≡ o + m = omega arith in
      let g : node_at ns (o + m) ≡ get_or (nodes_of o a) m empty_node = h m i in
      let r : NodeRules (node_at ns (o + m)) (o + m) = rw g (each_node NodeRules o a (made_rules o a p) m i) in
      ap (unshared (node_at ns)) n ∙ (unshared_node (node_at ns) (o + m) r ∙ ap (λ (y : Node). node_tree y (unshared (node_at ns))) e)

  unshared_back : (o : ℕ) (a : Tree) → Proper a → Stand ns o (nodes_of o a) → unshared (node_at ns) (o + size a - 1) ≡ a
  unfolding nodes_of size
  unshared_back o truth p h = rooted o truth 0 (node true_kind 0 0 no_span) p refl h (stand_last ns o 0 [] (node true_kind 0 0 no_span) refl h)
  unshared_back o (predicate q) p h = rooted o (predicate q) 0 (node predicate_kind q 0 no_span) p refl h (stand_last ns o 0 [] (node predicate_kind q 0 no_span) refl h)
  unshared_back o (one k w a) p h =
      let x : Node = node k (o + size a - 1) 0 w in
      rooted o (one k w a) (size a) x p refl h (stand_last ns o (size a) (nodes_of o a) x (length_nodes o a) h)
      ∙ rw (p.0.lefts, p.0.rights, unshared_back o a p.1 (stand_front ns o (nodes_of o a) (x ∷ []) h))
  unshared_back o (two k w a b) p h =
      let x : Node = node k (o + size a - 1) (o + size a + size b - 1) w in
      let i : Stand ns (o + size a) (nodes_of (o + size a) b ++ (x ∷ [])) = stand_behind ns o (size a) (nodes_of o a) (nodes_of (o + size a) b ++ (x ∷ [])) (length_nodes o a) h in
      let e : node_at ns (o + size a + size b) ≡ x = stand_last ns (o + size a) (size b) (nodes_of (o + size a) b) x (length_nodes (o + size a) b) i in
      let g : o + (size a + size b) ≡ o + size a + size b = omega arith in
      let l = unshared_back o a p.1 (stand_front ns o (nodes_of o a) (nodes_of (o + size a) b ++ (x ∷ [])) h) in
      let r = unshared_back (o + size a) b p.2 (stand_front ns (o + size a) (nodes_of (o + size a) b) (x ∷ []) i) in
      rooted o (two k w a b) (size a + size b) x p refl h (ap (node_at ns) g ∙ e) ∙ rw (p.0.lefts, p.0.rights, l, r)

-- the tree of the table of a tree is that tree
pub tree_back : (a : Tree) → Proper a → tree_of (table_of a) ≡ a
unfolding Stand
tree_back a p = ap (λ (k : ℕ). unshared (node_at (table_of a).nodes) (k - 1)) (sym (zero-add (size a))) ∙ unshared_back (table_of a).nodes 0 a p stand
  where
    stand : Stand (table_of a).nodes 0 (nodes_of 0 a)
    stand j l = ap (node_at (table_of a).nodes) (zero-add j) ∙ get_or-append (nodes_of 0 a) (replicate (NODES - size a) empty_node) empty_node j l

-- so the root of the table of a requirement is what its tree says
pub root_says : (s : List ℕ) (a : Tree) → Requires s a → root (table_of a) ≡ says a
root_says s a r = tree_says (table_of a) ∙ ap says (tree_back a (derives_proper r.derives))

-- so the table that the reader answers says what the grammar reads
pub answer_says : (s : List ℕ) → (requirement_of s).refusal ≡ 0 → (a : Tree) × Requires s a × (root (requirement_of s).table ≡ says a)
answer_says s h =
    let x = answer_sound s h in
    (x.0, x.1, rw x.2 (root_says s x.0 x.1))
