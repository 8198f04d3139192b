-- A table that is read obeys every rule of a table: each production gives its node's numbers what the kind asks for, and nodes stand left, right, parent.
-- Assumes nothing.
use mathlib.Core.Path.{◌≡◌, refl, sym, ap, subst, ◌∙◌}
use mathlib.Core.List.{List, [], ◌∷◌, ◌++◌}
use mathlib.Core.Bool.{Bool, true, false, ◌&&◌}
use mathlib.Core.Logic.{inl, inr}
use Prim.Native.Nat.{ℕ, zero, suc, ◌+◌, ◌-◌, ◌≤◌, ◌<◌}
use native.Mathlib.Nat.{zero-add, add-zero}
use native.Mathlib.Omega.{arith}
use lib.ListN.{length, get_or, replicate, length-append, get_or-append}
use lib.Seq.{get_or-append-add}
use lib.Dec.{T, ltb}
use borrow.Author.Tests.{ltb-true}
use Rattle.text.proofs.Tests.{false_true, both, by_le}
use Rattle.tables.specs.declared.Node.{Node}
use Rattle.tables.specs.Kind.{kinds, operator, true_kind, predicate_kind}
use Rattle.tables.specs.Tree.{node_at, NODES, no_span}
use Rattle.tables.specs.Rules.{Use, child, number, unused, is_child, left_use, right_use, timed, Used, WindowRules, EndsRules, NodeRules, TableRules, table_obeys}
use Rattle.tables.proofs.Rules.{child_is, table_passes}
use Rattle.tables.specs.declared.Span.{Span}
use Rattle.grammar.specs.Operators.{binders, prefixes, ◌∈◌}
use Rattle.grammar.specs.Tree.{mark, Tree, truth, predicate, one, two, size}
use Rattle.grammar.specs.declared.Part.{Part}
use Rattle.grammar.specs.Grammar.{WindowText, ended, endless, Derives, alternative_one, alternative_more, conjunction_one, conjunction_more, bind_one, bind_two, unary_not, unary_timed, unary_true, unary_predicate, unary_group, Requires}
use Rattle.grammar.proofs.Letters.{all_in}
use Rattle.building.specs.Nodes.{node, empty_node, nodes_of, table_of}
use Rattle.building.specs.Order.{NodeOrdered, LeftRightParent}
use Rattle.building.proofs.Cells.{size_some, length_nodes}
use Rattle.requirements.specs.Requirement.{requirement_of}
use Rattle.requirements.proofs.Answers.{answer_sound}

-- ---- what a kind asks for over one or two children

pub record KindRules (k : ℕ) (right : Use) (w : Span) : Type 0 where
  pub known : k < length kinds
  pub lefts : left_use (operator k) ≡ child
  pub rights : right_use (operator k) ≡ right
  pub ends : EndsRules (timed (operator k)) w

abbrev pub Proper : Tree → Type 0
Proper truth = Unit {0}
Proper (predicate p) = p ≤ 15
Proper (one k w a) = KindRules k unused w × Proper a
Proper (two k w a b) = KindRules k child w × Proper a × Proper b

pub mark_small : (b : Bool) → mark b ≤ 1
mark_small false = omega arith
mark_small true = omega arith

pub window_ends : {x : List ℕ} {r : Span} → WindowText x r → WindowRules r
window_ends (ended low high a b l m) = record { low = omega arith; marks = (mark_small low, mark_small high); high = inr (m, l) }
window_ends (endless low a l) = record { low = l; marks = (mark_small low, omega arith); high = inl (refl, refl) }

-- whether a kind has a window, a child on the left, and on the right what a test of uses asks for
suits : (Use → Bool) → ℕ → Bool
suits right k = ltb k (length kinds) && (is_child (left_use (operator k)) && (right (right_use (operator k)) && timed (operator k)))

is_unused : Use → Bool
is_unused child = false
is_unused number = false
is_unused unused = true

unused_is : (u : Use) → is_unused u ≡ true → u ≡ unused
unfolding is_unused
unused_is child e = absurd (false_true e)
unused_is number e = absurd (false_true e)
unused_is unused e = refl

suits_rules : (test : Use → Bool) (right : Use) → ((u : Use) → test u ≡ true → u ≡ right) → (k : ℕ) {w : Span} → suits test k ≡ true → WindowRules w → KindRules k right w
unfolding suits
suits_rules test right is k e r =
    let a = both (ltb k (length kinds)) _ e in
    let b = both (is_child (left_use (operator k))) _ a.1 in
    let c = both (test (right_use (operator k))) (timed (operator k)) b.1 in
    record { known = ltb-true k (length kinds) a.0; lefts = child_is _ b.0; rights = is _ c.0; ends = rw c.1 r }

-- the tests of all binders and of all prefixes are computed
binder_rules : {k : ℕ} {w : Span} → k ∈ binders → WindowRules w → KindRules k child w
unfolding suits
binder_rules {k} m r = suits_rules is_child child child_is k (all_in (suits is_child) m refl) r

prefix_rules : {k : ℕ} {w : Span} → k ∈ prefixes → WindowRules w → KindRules k unused w
unfolding suits is_unused
prefix_rules {k} m r = suits_rules is_unused unused unused_is k (all_in (suits is_unused) m refl) r

-- ---- every production keeps the rules

pub derives_proper : {p : Part} {d : ℕ} {w : List ℕ} {a : Tree} → Derives p d w a → Proper a
derives_proper (alternative_one x) = derives_proper x
derives_proper (alternative_more x y) = (record { known = omega arith; lefts = refl; rights = refl; ends = refl }, derives_proper x, derives_proper y)
derives_proper (conjunction_one x) = derives_proper x
derives_proper (conjunction_more x y) = (record { known = omega arith; lefts = refl; rights = refl; ends = refl }, derives_proper x, derives_proper y)
derives_proper (bind_one x) = derives_proper x
derives_proper (bind_two x m v y) = (binder_rules m (window_ends v), derives_proper x, derives_proper y)
derives_proper (unary_not x) = (record { known = omega arith; lefts = refl; rights = refl; ends = refl }, derives_proper x)
derives_proper (unary_timed m v x) = (prefix_rules m (window_ends v), derives_proper x)
derives_proper unary_true = tt
derives_proper (unary_predicate n l) = l
derives_proper (unary_group x) = derives_proper x

-- ---- the nodes of a tree, the first with the number o

-- what holds of the node that each production makes
module _ (P : Node → ℕ → Type 0) where
  abbrev pub Made : ℕ → Tree → Type 0
  Made o truth = P (node true_kind 0 0 no_span) o
  Made o (predicate p) = P (node predicate_kind p 0 no_span) o
  Made o (one k w a) = Made o a × P (node k (o + size a - 1) 0 w) (o + size a)
  Made o (two k w a b) = Made o a × Made (o + size a) b × P (node k (o + size a - 1) (o + size a + size b - 1) w) (o + size a + size b)

  -- nodes after nodes
  after_nodes : (us vs : List Node) (o : ℕ) → ((j : ℕ) → j < length us → P (get_or us j empty_node) (o + j)) → ((j : ℕ) → j < length vs → P (get_or vs j empty_node) (o + length us + j))
      → (i : ℕ) → i < length (us ++ vs) → P (get_or (us ++ vs) i empty_node) (o + i)
  after_nodes us vs o l r i h = by_le (length us) i behind front
    where
      front : i < length us → P (get_or (us ++ vs) i empty_node) (o + i)
      front c = rw (get_or-append us vs empty_node i c) (l i c)

      behind : length us ≤ i → P (get_or (us ++ vs) i empty_node) (o + i)
      behind c =
          let n : i ≡ length us + (i - length us) = omega arith in
          let y : get_or (us ++ vs) i empty_node ≡ get_or vs (i - length us) empty_node = ap (λ (m : ℕ). get_or (us ++ vs) m empty_node) n ∙ get_or-append-add us vs (i - length us) empty_node in
          let m : o + i ≡ o + length us + (i - length us) = omega arith in
          let e : length (us ++ vs) ≡ length us + length vs = length-append us vs in
          rw (y, m) (r (i - length us) (omega arith))

  alone : (x : Node) (k : ℕ) → P x k → (j : ℕ) → j < 1 → P (get_or (x ∷ []) j empty_node) (k + j)
  alone x k p zero h = rw add-zero p
  alone x k p (suc j) h = absurd (omega arith)

  -- holds of every node of the tree
  pub each_node : (o : ℕ) (a : Tree) → Made o a → (i : ℕ) → i < length (nodes_of o a) → P (get_or (nodes_of o a) i empty_node) (o + i)
  unfolding nodes_of
  each_node o truth m = alone (node true_kind 0 0 no_span) o m
  each_node o (predicate p) m = alone (node predicate_kind p 0 no_span) o m
  each_node o (one k w a) m = after_nodes (nodes_of o a) (node k (o + size a - 1) 0 w ∷ []) o (each_node o a m.0) (rw (length_nodes o a) (alone (node k (o + size a - 1) 0 w) (o + size a) m.1))
  each_node o (two k w a b) m =
      let x : Node = node k (o + size a - 1) (o + size a + size b - 1) w in
      after_nodes (nodes_of o a) (nodes_of (o + size a) b ++ (x ∷ [])) o (each_node o a m.0)
      (rw (length_nodes o a) (after_nodes (nodes_of (o + size a) b) (x ∷ []) (o + size a) (each_node (o + size a) b m.1) (rw (length_nodes (o + size a) b) (alone x (o + size a + size b) m.2))))

-- ---- every rule, and the order

used_as : {u v : Use} (k x : ℕ) → u ≡ v → Used v k x → Used u k x
used_as {u} {v} k x e h = subst (λ (y : Use). Used y k x) (sym e) h

pub made_rules : (o : ℕ) (a : Tree) → Proper a → Made NodeRules o a
made_rules o truth p = record { known = omega arith; left = refl; right = refl; ends = refl }
made_rules o (predicate q) p = record { known = omega arith; left = p; right = refl; ends = refl }
made_rules o (one k w a) p =
    let s = size_some a in
    (made_rules o a p.1, record { known = p.0.known; left = used_as _ _ p.0.lefts (omega arith); right = used_as _ _ p.0.rights refl; ends = p.0.ends })
made_rules o (two k w a b) p =
    let s = size_some a in
    let t = size_some b in (
      made_rules o a p.1,
      made_rules (o + size a) b p.2,
      record { known = p.0.known; left = used_as _ _ p.0.lefts (omega arith); right = used_as _ _ p.0.rights (omega arith); ends = p.0.ends },
    )

made_ordered : (o : ℕ) (a : Tree) → Proper a → Made NodeOrdered o a
made_ordered o truth p = tt
made_ordered o (predicate q) p = tt
made_ordered o (one k w a) p =
    let s = size_some a in
    let x : Node = node k (o + size a - 1) 0 w in
    let e : suc (o + size a - 1) ≡ o + size a = omega arith in
    (made_ordered o a p.1, rw (p.0.lefts, p.0.rights) e)
made_ordered o (two k w a b) p =
    let s = size_some a in
    let t = size_some b in
    let l : o + size a - 1 < o + size a + size b - 1 = omega arith in
    let e : suc (o + size a + size b - 1) ≡ o + size a + size b = omega arith in
    (made_ordered o a p.1, made_ordered (o + size a) b p.2, rw (p.0.lefts, p.0.rights) (l, e))

-- ---- the whole table

-- what holds of every node of a tree holds of every node of its table
table_each : (P : Node → ℕ → Type 0) (a : Tree) → Made P 0 a → (k : ℕ) → k < size a → P (node_at (table_of a).nodes k) k
table_each P a m k h =
    rw (get_or-append (nodes_of 0 a) (replicate (NODES - size a) empty_node) empty_node k (rw (length_nodes 0 a) h)) (rw zero-add at (each_node P 0 a m k (rw (length_nodes 0 a) h)))

-- the table of a requirement obeys every rule of a table
pub required_rules : (s : List ℕ) (a : Tree) → Requires s a → TableRules (table_of a)
required_rules s a r = record { some_node = size_some a; few_nodes = r.nodes; each = table_each NodeRules a (made_rules 0 a (derives_proper r.derives)) }

-- its nodes stand left, right, parent
pub left_right_parent : (s : List ℕ) (a : Tree) → Requires s a → LeftRightParent (table_of a)
left_right_parent s a r = record { each = table_each NodeOrdered a (made_ordered 0 a (derives_proper r.derives)) }

-- so the reader's table passes the test of refusal 3, which leaves only that each predicate is set
pub answer_rules : (s : List ℕ) → (requirement_of s).refusal ≡ 0 → T (table_obeys (requirement_of s).table)
answer_rules s h =
    let x = answer_sound s h in
    rw x.2 (table_passes (table_of x.0) (required_rules s x.0 x.1))
