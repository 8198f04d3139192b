-- What node k is taken for comes from what its children are, because they are earlier nodes; so it depends on no later node.
-- The list of the first k is only ever added to, so looking a child up in it finds what that child itself is taken for.
-- Assumes nothing.
use mathlib.Core.Path.{◌≡◌, refl, sym, ap, ap₂, ◌∙◌}
use mathlib.Core.List.{List, [], ◌∷◌, ◌++◌, map, map-append}
use Prim.Native.Nat.{ℕ, zero, suc, ◌≤◌, ◌<◌}
use native.Mathlib.Omega.{arith}
use native.Mathlib.Decide.{ℕ_discrete}
use lib.ListN.{length, get_or, length-append, get_or-append, get_or-map}
use lib.Seq.{get_or_at}
use Rattle.logic.specs.Formula.{Formula, truth, negation}
use Rattle.tables.specs.declared.Node.{Node}
use Rattle.tables.specs.Kind.{operator}
use Rattle.tables.specs.declared.Operator.{Operator}
use Rattle.tables.specs.declared.Operator.TheVariants.{Constant, Named, Negated, Unknown, Joined, Binary, Unary}
use Rattle.tables.specs.Tree.{formula, node_formula, node_at, meanings, meaning, tree}
use Rattle.tables.specs.Rules.{Used, left_use, right_use, NodeRules}

module _ {A : Type 0} (of : Node → (ℕ → A) → A) (none : A) (at : ℕ → Node) where
  length_meanings : (k : ℕ) → length (meanings of none at k) ≡ k
  unfolding meanings
  length_meanings zero = refl
  length_meanings (suc k) = simp length-append (omega (arith, length_meanings k))

  -- node k, its children looked up in the list
  in_list : (k : ℕ) → meaning of none at k ≡ of (at k) (λ c. get_or (meanings of none at k) c none)
  unfolding meaning meanings
  in_list k = get_or_at (meanings of none at k) _ [] none k (length_meanings k)

  -- place c of the list is what node c is taken for, however long the list has grown
  meanings_at : (k c : ℕ) → c < k → get_or (meanings of none at k) c none ≡ meaning of none at c
  unfolding meaning meanings
  meanings_at zero c h = absurd (omega arith)
  meanings_at (suc k) c h = elim (ℕ_discrete c k) [
    | yes e ↦ rw e refl
    | no e ↦ let i : c < k = omega arith in get_or-append (meanings of none at k) _ none c (omega (arith, length_meanings k)) ∙ meanings_at k c i
  ]

  -- a node that asks for nothing but earlier nodes is taken for what `of` gives over those
  pub meaning_node : (k : ℕ) → ((f g : ℕ → A) → ((c : ℕ) → c < k → f c ≡ g c) → of (at k) f ≡ of (at k) g) → meaning of none at k ≡ of (at k) (meaning of none at)
  meaning_node k h = in_list k ∙ h _ _ (meanings_at k)

-- ---- two ways of taking nodes

-- where each node's step of one way gives that of the other, h turns what nodes are taken for into what they are taken for the other way
module _ {A B : Type 0} (of : Node → (ℕ → A) → A) (none : A) (of' : Node → (ℕ → B) → B) (h : A → B) (at bt : ℕ → Node) where
  Turned : ℕ → Type 0
  Turned k = (f : ℕ → A) (g : ℕ → B) → ((c : ℕ) → g c ≡ h (f c)) → of' (bt k) g ≡ h (of (at k) f)

  meanings_turned : (k : ℕ) → ((j : ℕ) → j < k → Turned j) → meanings of' (h none) bt k ≡ map h (meanings of none at k)
  unfolding meanings Turned
  meanings_turned zero s = refl
  meanings_turned (suc k) s =
      let e : meanings of' (h none) bt k ≡ map h (meanings of none at k) = meanings_turned k (λ j l. s j (omega arith)) in
      ap₂ (λ (l : List B) (x : B). l ++ (x ∷ [])) e (s k (omega arith) _ _ (λ c. rw e (get_or-map h (meanings of none at k) c none)))
      ∙ sym (map-append h (meanings of none at k) _)

  pub meaning_turned : (k : ℕ) → ((j : ℕ) → j ≤ k → (f : ℕ → A) (g : ℕ → B) → ((c : ℕ) → g c ≡ h (f c)) → of' (bt j) g ≡ h (of (at j) f)) → meaning of' (h none) bt k ≡ h (meaning of none at k)
  unfolding meaning Turned
  meaning_turned k s = ap (λ (l : List B). get_or l k (h none)) (meanings_turned (suc k) (λ j l. s j (omega arith))) ∙ get_or-map h (meanings of none at (suc k)) k none

-- ---- requirements

-- a node asks for nothing but its children
pub formula_same : (o : Operator) (n : Node) (k : ℕ) {f g : ℕ → Formula ℕ} → Used (left_use o) k n.left → Used (right_use o) k n.right → ((c : ℕ) → c < k → f c ≡ g c) → formula o n f ≡ formula o n g
formula_same Constant n k l r h = refl
formula_same Named n k l r h = refl
formula_same Negated n k l r h = ap negation (h n.left l)
formula_same Unknown n k l r h = refl
formula_same (Joined e) n k l r h = rw (h n.left l, h n.right r)
formula_same (Binary d e) n k l r h = rw (h n.left l, h n.right r)
formula_same (Unary d e) n k l r h = rw (h n.left l)

-- the requirement of a node that obeys the table's rules: its kind over the requirements of its children
pub tree_node : (ns : List Node) (k : ℕ) → NodeRules (node_at ns k) k → tree ns k ≡ formula (operator (node_at ns k).kind) (node_at ns k) (tree ns)
unfolding tree
tree_node ns k r =
    meaning_node node_formula truth (node_at ns) k (λ f g h. formula_same (operator (node_at ns k).kind) (node_at ns k) k r.left r.right h)
