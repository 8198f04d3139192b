-- A window is refused as empty exactly where no second is inside as it is read; strengthening looks at the low end so read; and an excluded end means what the end that it
-- reads as means, counted.
-- Assumes nothing.
use mathlib.Core.Path.{◌≡◌, refl, ap, subst}
use mathlib.Core.Bool.{true, ◌&&◌}
use mathlib.Core.List.{List, map}
use mathlib.Core.Logic.{inl, inr}
use Prim.Native.Nat.{ℕ, suc, ◌+◌, ◌-◌, ◌≤◌}
use native.Mathlib.Nat.{add-zero}
use native.Mathlib.Numerals.{add-one}
use native.Mathlib.Omega.{arith}
use lib.Dec.{T, leb, ltb, leb→le, ltb→lt}
use lib.ListN.{get_or-map}
use mir.Facts.{and_yes}
use borrow.Author.Tests.{eq-eqb, ne_eqb, le-leb, lt-ltb}
use Rattle.logic.specs.Window.{inside}
use Rattle.logic.specs.Strengthening.{contraction}
use Rattle.logic.specs.Formula.{Formula, truth, negation}
use Rattle.tables.specs.declared.Span.{Span}
use Rattle.tables.specs.declared.Node.{Node}
use Rattle.tables.specs.declared.Table.{Table}
use Rattle.tables.specs.Kind.{operator}
use Rattle.tables.specs.declared.Operator.{Operator}
use Rattle.tables.specs.declared.Operator.TheVariants.{Constant, Named, Negated, Unknown, Joined, Binary, Unary}
use Rattle.tables.specs.Tree.{LONGEST, NO_END, marked, no_span, as_read, formula, node_formula, node_at, tree, root}
use Rattle.tables.specs.Rules.{timed, in_limits, WindowRules, TableRules}
use Rattle.tables.specs.Closed.{closed_span, closed_node, closed_table}
use Rattle.tables.proofs.Rules.{limits_are, window_ruled}
use Rattle.tables.proofs.Trees.{meaning_turned}

-- ---- which windows are empty

module _ (w : Span) where
  -- a window that obeys has its low end inside, as that is read
  pub some_second : WindowRules w → inside (as_read w) (w.lo + w.openlo) ≡ true
  some_second r = elim r.high [
    | inl e ↦ rw (eq-eqb w.hi NO_END e.0, le-leb (w.lo + w.openlo) (w.lo + w.openlo) (omega arith)) refl
    | inr e ↦
        rw (ne_eqb w.hi NO_END (λ (z : w.hi ≡ NO_END). omega (arith, e.0)), le-leb (w.lo + w.openlo) (w.lo + w.openlo) (omega arith), lt-ltb (w.lo + w.openlo) (suc w.hi - w.openhi) (omega (arith, e.1))) refl
  ]

  -- and one whose numbers are within their limits obeys where any second is inside
  pub second_obeys : T (in_limits w) → w.hi ≤ LONGEST → (d : ℕ) → T (inside (as_read w) d) → WindowRules w
  second_obeys l h d t =
      let m = limits_are w l in
      let e : inside (as_read w) d ≡ (leb (w.lo + w.openlo) d && ltb d (suc w.hi - w.openhi)) = rw (ne_eqb w.hi NO_END (λ (z : w.hi ≡ NO_END). omega (arith, h))) refl in
      let b = and_yes (leb (w.lo + w.openlo) d) (ltb d (suc w.hi - w.openhi)) (subst T e t) in
      record {
        low = m.0;
        marks = (m.1, m.2);
        high = inr (h, omega (arith, leb→le (w.lo + w.openlo) d b.0, ltb→lt d (suc w.hi - w.openhi) b.1, m.2));
      }

-- ---- strengthening looks at the low end as it is read

pub excluded_delayed : (step lo hi openhi : ℕ) → (contraction step (as_read (marked lo hi 1 openhi))).from ≡ lo + 1 + step
excluded_delayed step lo hi openhi = rw (add-one lo) refl

pub counted_stays : (step hi openhi : ℕ) → (contraction step (as_read (marked 0 hi 0 openhi))).from ≡ 0
counted_stays step hi openhi = refl

-- ---- closed windows

-- a window that obeys is read as it is where it is closed
pub closed_read : (w : Span) → WindowRules w → as_read (closed_span w) ≡ as_read w
closed_read w r = elim r.high [
  | inl e ↦ rw (e.1, e.0, add-zero (w.lo + w.openlo)) refl
  | inr e ↦
      let u : suc (w.hi - w.openhi) - 0 ≡ suc w.hi - w.openhi = omega (arith, e.1) in
      rw (ne_eqb w.hi NO_END (λ (z : w.hi ≡ NO_END). omega (arith, e.0)), ne_eqb (w.hi - w.openhi) NO_END (λ (z : w.hi - w.openhi ≡ NO_END). omega (arith, e.0)), add-zero (w.lo + w.openlo), u) refl
]

-- a node means what it means with its window closed, over the same children
pub closed_formula : (o : Operator) (n : Node) {f g : ℕ → Formula ℕ} → WindowRules n.span → ((c : ℕ) → g c ≡ f c) → formula o (closed_node n) g ≡ formula o n f
closed_formula Constant n r h = refl
closed_formula Named n r h = refl
closed_formula Negated n r h = ap negation (h n.left)
closed_formula Unknown n r h = refl
closed_formula (Joined e) n r h = rw (h n.left, h n.right)
closed_formula (Binary d e) n r h = rw (closed_read n.span r, h n.left, h n.right)
closed_formula (Unary d e) n r h = rw (closed_read n.span r, h n.left)

closed_at : (ns : List Node) (k : ℕ) → node_at (map closed_node ns) k ≡ closed_node (node_at ns k)
closed_at ns k = get_or-map closed_node ns k (record { kind = 0; left = 0; right = 0; span = no_span })

-- so does a table: margins, truth and verdicts are those of its root's requirement
pub closed_root : (t : Table) → TableRules t → root (closed_table t) ≡ root t
unfolding tree
closed_root t r =
    meaning_turned node_formula truth node_formula (λ φ. φ) (node_at t.nodes) (node_at (map closed_node t.nodes)) (t.count - 1) (λ j h f g s.
    let n = node_at t.nodes j in
    rw (closed_at t.nodes j) (closed_formula (operator n.kind) n (window_ruled (timed (operator n.kind)) n.span (r.each j (omega (arith, r.some_node))).ends) s))
