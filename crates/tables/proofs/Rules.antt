-- Each test of the table's rules holds exactly where its sentence does. A test is taken apart into its parts and put together from them.
-- Assumes nothing.
use mathlib.Core.Path.{◌≡◌, refl, sym, subst}
use mathlib.Core.Bool.{Bool, true, false, cond, ◌&&◌}
use mathlib.Core.Logic.{◌⊎◌, inl, inr}
use Prim.Native.Nat.{ℕ, ◌+◌, ◌≤◌, ◌<◌}
use native.Mathlib.Omega.{arith}
use lib.Dec.{T, leb, ltb, eqb, leb→le, le→leb, ltb→lt, lt→ltb, eqb→eq}
use lib.ListN.{length}
use mir.Facts.{and_yes, yes_and, yes_eqb}
use native.Mathlib.Decide.{ℕ_discrete}
use borrow.Author.Tests.{eq-eqb, ne_eqb}
use Rattle.lists.proofs.Below.{all_at, at_all}
use Rattle.tables.specs.declared.Span.{Span}
use Rattle.tables.specs.declared.Node.{Node}
use Rattle.tables.specs.declared.Table.{Table}
use Rattle.tables.specs.Kind.{kinds, operator}
use Rattle.tables.specs.Tree.{NODES, LONGEST, NO_END, no_span, node_at}
use Rattle.tables.specs.Rules.{Use, child, number, unused, is_child, left_use, right_use, timed, use_obeys, Used, in_limits, window_obeys, WindowRules, is_blank, ends_obey, EndsRules, node_obeys, NodeRules, nodes_obey, table_obeys, TableRules}

pub used : (u : Use) (k x : ℕ) → T (use_obeys u k x) → Used u k x
used child k x t = ltb→lt x k t
used number k x t = leb→le x 15 t
used unused k x t = eqb→eq x 0 t

pub use_passes : (u : Use) (k x : ℕ) → Used u k x → T (use_obeys u k x)
use_passes child k x h = lt→ltb x k h
use_passes number k x h = le→leb x 15 h
use_passes unused k x h = yes_eqb h

-- a child is an earlier node
pub child_is : (u : Use) → is_child u ≡ true → u ≡ child
child_is child e = refl
child_is number e = absurd (subst T (sym e) tt)
child_is unused e = absurd (subst T (sym e) tt)

pub child_before : (u : Use) (k x : ℕ) → Used u k x → u ≡ child → x < k
child_before u k x h e = rw e at h

-- what a node may name is below the count of nodes
use_small : (u : Use) (k x : ℕ) → Used u k x → k < NODES → x < NODES
use_small child k x h l = omega arith
use_small number k x h l = omega arith
use_small unused k x h l = omega arith

pub named_small : {n : Node} {k : ℕ} → NodeRules n k → k < NODES → (n.left < NODES) × (n.right < NODES)
named_small {n} {k} r h = (use_small (left_use (operator n.kind)) k n.left r.left h, use_small (right_use (operator n.kind)) k n.right r.right h)

pub limits_are : (w : Span) → T (in_limits w) → (w.lo ≤ LONGEST) × (w.openlo ≤ 1) × (w.openhi ≤ 1)
limits_are w t =
    let a = and_yes (leb w.lo LONGEST) _ t in
    let b = and_yes (leb w.openlo 1) (leb w.openhi 1) a.1 in
    (leb→le w.lo LONGEST a.0, leb→le w.openlo 1 b.0, leb→le w.openhi 1 b.1)

pub limits_pass : (w : Span) → w.lo ≤ LONGEST → w.openlo ≤ 1 → w.openhi ≤ 1 → T (in_limits w)
limits_pass w l a b = yes_and (leb w.lo LONGEST) _ (le→leb w.lo LONGEST l) (yes_and (leb w.openlo 1) (leb w.openhi 1) (le→leb w.openlo 1 a) (le→leb w.openhi 1 b))

pub window_rules : (w : Span) → T (window_obeys w) → WindowRules w
window_rules w t =
    let a = and_yes (in_limits w) _ t in
    let l = limits_are w a.0 in
    record { low = l.0; marks = (l.1, l.2); high = high (ℕ_discrete w.hi NO_END) a.1 }
  where
    high : Dec (w.hi ≡ NO_END) → T (cond (eqb w.hi NO_END) (eqb w.openhi 0) (leb w.hi LONGEST && leb (w.lo + w.openlo + w.openhi) w.hi))
        → ((w.hi ≡ NO_END) × (w.openhi ≡ 0)) ⊎ ((w.hi ≤ LONGEST) × (w.lo + w.openlo + w.openhi ≤ w.hi))
    high (yes e) t = inl (e, eqb→eq w.openhi 0 (rw (eq-eqb w.hi NO_END e) at t))
    high (no e) t =
        let b = and_yes (leb w.hi LONGEST) _ (rw (ne_eqb w.hi NO_END e) at t) in
        inr (leb→le w.hi LONGEST b.0, leb→le (w.lo + w.openlo + w.openhi) w.hi b.1)

pub window_passes : (w : Span) → WindowRules w → T (window_obeys w)
window_passes w r =
    yes_and (in_limits w) _ (limits_pass w r.low r.marks.0 r.marks.1)
    (elim r.high [
      | inl h ↦ rw (eq-eqb w.hi NO_END h.0) (yes_eqb h.1)
      | inr h ↦
          rw (ne_eqb w.hi NO_END (λ (e : w.hi ≡ NO_END). omega arith))
          (yes_and (leb w.hi LONGEST) (leb (w.lo + w.openlo + w.openhi) w.hi) (le→leb w.hi LONGEST h.0) (le→leb _ w.hi h.1))
    ])

blank_is : (w : Span) → T (is_blank w) → w ≡ no_span
blank_is w t =
    let a = and_yes (eqb w.lo 0) _ t in
    let b = and_yes (eqb w.hi 0) _ a.1 in
    let c = and_yes (eqb w.openlo 0) (eqb w.openhi 0) b.1 in
    rw (eqb→eq w.lo 0 a.0, eqb→eq w.hi 0 b.0, eqb→eq w.openlo 0 c.0, eqb→eq w.openhi 0 c.1) refl

pub ends_rules : (timed : Bool) (w : Span) → T (ends_obey timed w) → EndsRules timed w
ends_rules true w t = window_rules w t
ends_rules false w t = blank_is w t

pub ends_pass : (timed : Bool) (w : Span) → EndsRules timed w → T (ends_obey timed w)
ends_pass true w r = window_passes w r
ends_pass false w r = rw r tt

-- the numbers of a kind without a window obey as a window's do
pub window_ruled : (timed : Bool) (w : Span) → EndsRules timed w → WindowRules w
window_ruled true w r = r
window_ruled false w r = rw r (record { low = omega arith; marks = (omega arith, omega arith); high = inr (omega arith, omega arith) })

pub node_rules : (n : Node) (k : ℕ) → T (node_obeys n k) → NodeRules n k
unfolding node_obeys
node_rules n k t =
    let a = and_yes (ltb n.kind (length kinds)) _ t in
    let b = and_yes (use_obeys (left_use (operator n.kind)) k n.left) _ a.1 in
    let c = and_yes (use_obeys (right_use (operator n.kind)) k n.right) _ b.1 in
    record {
      known = ltb→lt n.kind (length kinds) a.0;
      left = used (left_use (operator n.kind)) k n.left b.0;
      right = used (right_use (operator n.kind)) k n.right c.0;
      ends = ends_rules (timed (operator n.kind)) n.span c.1;
    }

pub node_passes : (n : Node) (k : ℕ) → NodeRules n k → T (node_obeys n k)
unfolding node_obeys
node_passes n k r =
    yes_and (ltb n.kind (length kinds)) _ (lt→ltb n.kind (length kinds) r.known)
    (yes_and (use_obeys (left_use (operator n.kind)) k n.left) _ (use_passes (left_use (operator n.kind)) k n.left r.left)
    (yes_and (use_obeys (right_use (operator n.kind)) k n.right) _ (use_passes (right_use (operator n.kind)) k n.right r.right)
    (ends_pass (timed (operator n.kind)) n.span r.ends)))

pub table_rules : (t : Table) → T (table_obeys t) → TableRules t
unfolding table_obeys nodes_obey
table_rules t h =
    let a = and_yes (leb t.count NODES) _ h in
    let b = and_yes (leb 1 t.count) _ a.1 in
    record {
      some_node = leb→le 1 t.count b.0;
      few_nodes = leb→le t.count NODES a.0;
      each = λ k i. node_rules (node_at t.nodes k) k (all_at (λ j. node_obeys (node_at t.nodes j) j) t.count b.1 k i);
    }

pub table_passes : (t : Table) → TableRules t → T (table_obeys t)
unfolding table_obeys nodes_obey
table_passes t r =
    yes_and (leb t.count NODES) _ (le→leb t.count NODES r.few_nodes)
    (yes_and (leb 1 t.count) _ (le→leb 1 t.count r.some_node)
    (at_all (λ k. node_obeys (node_at t.nodes k) k) t.count (λ k i. node_passes (node_at t.nodes k) k (r.each k i))))
