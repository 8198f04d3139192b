-- No node of a requirement's table is shared: each node but the root is named as a child at one place. Over a part of the tree, by how many numbers it has: the parts' nodes are named inside
-- them, their roots by the parent alone.
-- Assumes nothing.
use mathlib.Core.Path.{◌≡◌, refl, sym, ap, ◌∙◌}
use mathlib.Core.List.{List, [], ◌∷◌, ◌++◌}
use Prim.Native.Nat.{ℕ, ◌+◌, ◌-◌, ◌≤◌, ◌<◌}
use native.Mathlib.Nat.{zero-add}
use native.Mathlib.Omega.{arith}
use lib.ListN.{take, replicate}
use lib.Seq.{take-append_seam}
use borrow.Author.Tests.{eq-eqb, ne_eqb}
use Rattle.text.proofs.Tests.{by_le}
use Rattle.tables.specs.declared.Node.{Node}
use Rattle.tables.specs.Kind.{operator}
use Rattle.tables.specs.Rules.{child, left_use}
use Rattle.tables.specs.Tree.{NODES}
use Rattle.grammar.specs.Tree.{Tree, truth, predicate, one, two, size}
use Rattle.grammar.specs.Grammar.{Requires}
use Rattle.building.specs.Nodes.{node, empty_node, nodes_of, table_of}
use Rattle.building.specs.Order.{names, parents, NoneShared}
use Rattle.building.proofs.Cells.{size_some, length_nodes}
use Rattle.requirements.proofs.Rules.{Proper, derives_proper}

parents_append : (xs ys : List Node) (c : ℕ) → parents (xs ++ ys) c ≡ parents xs c + parents ys c
unfolding parents
parents_append [] ys c = sym (zero-add (parents ys c))
parents_append (x ∷ xs) ys c = let e : parents (xs ++ ys) c ≡ parents xs c + parents ys c = parents_append xs ys c in omega arith

-- how often number c is named by m nodes from number o on: once if it is one of them and not the last, else never
record Once (o m c n : ℕ) : Type 0 where
  inner : o ≤ c → c + 2 ≤ o + m → n ≡ 1
  before : c < o → n ≡ 0
  behind : o + m < c + 2 → n ≡ 0

-- the place that names a child
names_it : (c x : ℕ) → c ≡ x → names child c x ≡ 1
names_it c x e = rw (eq-eqb c x e)

names_other : (c x : ℕ) → (c ≡ x → ⊥) → names child c x ≡ 0
names_other c x h = rw (ne_eqb c x h)

leaf_once : (o c : ℕ) → Once o 1 c 0
leaf_once o c = record { inner = λ l h. absurd (omega arith); before = λ l. refl; behind = λ l. refl }

one_once : (o m c p : ℕ) → 1 ≤ m → Once o m c p → Once o (m + 1) c (p + names child c (o + m - 1))
one_once o m c p s a = record {
  inner = λ l h. by_le (c + 2) (o + m)
      (λ i. let e : p ≡ 1 = a.inner l i in let f = names_other c (o + m - 1) (λ q. omega arith) in omega arith)
      (λ i. let e : p ≡ 0 = a.behind i in let f = names_it c (o + m - 1) (omega arith) in omega arith);
  before = λ l. let e : p ≡ 0 = a.before l in let f = names_other c (o + m - 1) (λ q. omega arith) in omega arith;
  behind = λ l. let e : p ≡ 0 = a.behind (omega arith) in let f = names_other c (o + m - 1) (λ q. omega arith) in omega arith;
}

-- a right part behind the left one and its root's name
two_once : (o m n c p q : ℕ) → 1 ≤ m → 1 ≤ n → Once o m c p → Once (o + m) n c q → Once o (m + n + 1) c (p + q + names child c (o + m - 1) + names child c (o + m + n - 1))
two_once o m n c p q s t a b =
    let l : Once o (m + 1) c (p + names child c (o + m - 1)) = one_once o m c p s a in
    let r : Once (o + m) (n + 1) c (q + names child c (o + m + n - 1)) = one_once (o + m) n c q t b in
    record {
      inner = λ g h. by_le (c + 1) (o + m)
          (λ i. let e = l.inner g (omega arith) in let f = r.before (omega arith) in omega arith)
          (λ i. let e = l.behind (omega arith) in let f = r.inner (omega arith) (omega arith) in omega arith);
      before = λ g. let e = l.before g in let f = r.before (omega arith) in omega arith;
      behind = λ g. let e = l.behind (omega arith) in let f = r.behind (omega arith) in omega arith;
    }

tree_once : (o : ℕ) (a : Tree) → Proper a → (c : ℕ) → Once o (size a) c (parents (nodes_of o a) c)
unfolding nodes_of size parents
tree_once o truth p c = leaf_once o c
tree_once o (predicate q) p c = leaf_once o c
tree_once o (one k w a) p c =
    let x : Node = node k (o + size a - 1) 0 w in
    let l : left_use (operator k) ≡ child = p.0.lefts in
    let e : parents (nodes_of o a ++ (x ∷ [])) c ≡ parents (nodes_of o a) c + names child c (o + size a - 1) =
    parents_append (nodes_of o a) (x ∷ []) c ∙ (rw (l, p.0.rights) (omega arith)) in
    rw e (one_once o (size a) c (parents (nodes_of o a) c) (size_some a) (tree_once o a p.1 c))
tree_once o (two k w a b) p c =
    let x : Node = node k (o + size a - 1) (o + size a + size b - 1) w in
    let u : ℕ = parents (nodes_of o a) c in
    let v : ℕ = parents (nodes_of (o + size a) b) c in
    let e : parents (nodes_of o a ++ (nodes_of (o + size a) b ++ (x ∷ []))) c ≡ u + v + names child c (o + size a - 1) + names child c (o + size a + size b - 1) =
    parents_append (nodes_of o a) (nodes_of (o + size a) b ++ (x ∷ [])) c
    ∙ (ap (λ (i : ℕ). u + i) (parents_append (nodes_of (o + size a) b) (x ∷ []) c) ∙ (rw (p.0.lefts, p.0.rights) (omega arith))) in
    rw e (two_once o (size a) (size b) c u v (size_some a) (size_some b) (tree_once o a p.1 c) (tree_once (o + size a) b p.2 c))

-- the table of a requirement: none shared
pub none_shared : (s : List ℕ) (a : Tree) → Requires s a → NoneShared (table_of a)
none_shared s a r = record { once = λ c h. at c ∙ (on c).inner (omega arith) (omega arith); root = λ c h. at c ∙ (on c).behind (omega arith) }
  where
    on : (c : ℕ) → Once 0 (size a) c (parents (nodes_of 0 a) c)
    on c = tree_once 0 a (derives_proper r.derives) c

    at : (c : ℕ) → parents (take (size a) (nodes_of 0 a ++ replicate (NODES - size a) empty_node)) c ≡ parents (nodes_of 0 a) c
    at c = ap (λ (k : ℕ). parents (take k (nodes_of 0 a ++ replicate (NODES - size a) empty_node)) c) (sym (length_nodes 0 a))
        ∙ ap (λ (xs : List Node). parents xs c) (take-append_seam (nodes_of 0 a) (replicate (NODES - size a) empty_node))
