-- One node more has taken the row: its own cells hold its values for the longer recording.
-- Assumes nothing.
use mathlib.Core.Path.{◌≡◌, refl, sym, ap, ◌∙◌, subst}
use mathlib.Core.Bool.{Bool, true, false, ◌&&◌, cond}
use mathlib.Core.Logic.{inl, inr}
use mathlib.Core.List.{List}
use Prim.Native.Nat.{ℕ, zero, suc, ◌+◌, ◌-◌, ◌*◌, ◌≤◌, ◌<◌}
use native.Mathlib.Omega.{arith}
use native.Mathlib.Decide.{ℕ_discrete}
use lib.Dec.{T, leb, ltb, eqb, eqb→eq}
use lib.ListN.{length, get_or}
use lib.IntN.{ℤ, pos}
use borrow.Author.Tests.{eq-eqb, ne_eqb}
use Rattle.logic.specs.Window.{inside}
use Rattle.logic.specs.declared.Extremum.{Extremum}
use Rattle.logic.specs.Formula.{dual, Formula, temporal}
use Rattle.logic.specs.declared.Direction.TheVariants.{Future}
use Rattle.logic.specs.Reading.{margin_extreme, margin_nothing}
use Rattle.recordings.specs.declared.Range.TheVariants.{Unset}
use Rattle.recordings.specs.Card.{Card, rows, scale, predicate}
use Rattle.recordings.specs.Distance.{TOP}
use Rattle.recordings.specs.Margin.{margin}
use Rattle.recordings.specs.Accepted.{InRange}
use Rattle.recordings.proofs.Margins.{in_range_at, channel_scaled, margin_bounded}
use Rattle.tables.specs.declared.Node.{Node}
use Rattle.tables.specs.declared.Table.{Table}
use Rattle.tables.specs.Kind.{kinds, operator, predicate_kind}
use Rattle.tables.specs.Tree.{NODES, node_at, window, formula, tree}
use Rattle.tables.specs.Rules.{Use, is_child, Used, left_use, right_use, timed, WindowRules, NodeRules}
use Rattle.tables.specs.Closed.{closed_node}
use Rattle.tables.proofs.Rules.{child_is, child_before, window_ruled}
use Rattle.tables.proofs.Trees.{tree_node}
use Rattle.tables.proofs.Windows.{closed_formula}
use Rattle.nesting.specs.Nesting.{momentary, unnested}
use Rattle.nesting.proofs.Nesting.{inside_momentary}
use Rattle.arrivals.specs.Arrivals.{Row, with_row}
use Rattle.arrivals.specs.Fits.{carried}
use Rattle.arrivals.proofs.Growth.{rows_next, before, value_newest, newest_distance}
use Rattle.watch_cells.specs.State.{HELD_AT, kept_node, kept_window, held_in, carried_by, part_of}
use Rattle.watch_cells.specs.Taking.{point_of, Operand, PointAsks, IsPoint, LeafAsks, LeafValue, TimedAsks, so_far, margin_after, newest_of, Arriving, Taking}
use Rattle.watch_cells.proofs.Own.{Only, next, cell_is, three_parts}
use Rattle.watch_cells.proofs.Points.{kept_closed, leaf_point}
use Rattle.watch_cells.proofs.Steps.{leaf_at, point_margin, own_untimed, own_momentary, left_of, right_of, timed_form, timed_left, unary_left_margin, carries_nothing, margin_taken, carried_taken, newest_taken, margin_before, carried_before}

same_either : {X : Type 0} (b : Bool) (x : X) → cond b x x ≡ x
same_either true x = refl
same_either false x = refl

-- ---- the row and the node
earlier : (u : Use) (k x : ℕ) → is_child u ≡ true → Used u k x → x < k
earlier u k x e h = child_before u k x h (child_is u e)

opened : (n : ℕ) {b : Bool} → b ≡ eqb n 0 → b ≡ true → n ≡ 0
opened n e f = eqb→eq n 0 (subst T (sym f ∙ e) tt)

running : (n : ℕ) {b : Bool} → b ≡ eqb n 0 → b ≡ false → 1 ≤ n
running zero e f = absurd (subst T (sym e ∙ f) tt)
running (suc n) e f = omega arith

module _ {numbers : List ℕ} {cells values : List ℤ} {opening : Bool} {since : ℕ} {t : Table} {c : Card} {r : Row} {k : ℕ} {n : Node} (A : Arriving values opening since t c r) (small : k < t.count) (n-is : n ≡ kept_node (node_at t.nodes k)) (K : Taking numbers cells t c r k) where
  few : k < NODES
  few = omega (arith, A.ruled.few_nodes, small)

  abbrev φ : ℕ → Formula ℕ
  φ = tree t.nodes

  abbrev longer : Card
  longer = with_row c r

  -- the table's own node, which is kept with its window closed
  abbrev given : Node
  given = node_at t.nodes k

  rules : NodeRules given k
  rules = A.ruled.each k small

  ruled : WindowRules given.span
  ruled = window_ruled (timed (operator given.kind)) given.span rules.ends

  closed_is : n ≡ closed_node given
  closed_is = n-is ∙ kept_closed given ruled

  pub known : n.kind < length kinds
  known = subst (λ (m : Node). m.kind < length kinds) (sym closed_is) rules.known

  left_used : Used (left_use (operator n.kind)) k n.left
  left_used = subst (λ (m : Node). Used (left_use (operator m.kind)) k m.left) (sym closed_is) rules.left

  right_used : Used (right_use (operator n.kind)) k n.right
  right_used = subst (λ (m : Node). Used (right_use (operator m.kind)) k m.right) (sym closed_is) rules.right

  window_is : window n ≡ kept_window n
  window_is = subst (λ (m : Node). window m ≡ kept_window m) (sym closed_is) refl

  tree_is : tree t.nodes k ≡ formula (operator n.kind) n φ
  tree_is = tree_node t.nodes k rules ∙ sym (closed_formula (operator given.kind) given ruled (λ c. refl)) ∙ ap (λ (m : Node). formula (operator m.kind) m φ) (sym closed_is)

  pub room : (part : ℕ) → part < 3 → HELD_AT + NODES * part + k < length cells
  room part h = omega (arith, K.planned.wide, few)

  some_row : 1 ≤ rows longer
  some_row = omega (arith, rows_next c r)

  last_row : rows longer - 1 ≡ rows c
  last_row = omega (arith, rows_next c r)

  -- the longer recording's, of the nodes before; this recording's, of the node itself
  done_part : (q : ℕ) → q < k → (part : ℕ) → part < 3 → held_in cells q part ≡ part_of longer (φ q) part
  done_part q b part h = (K.done q b).each part h ∙ cell_is t longer part q some_row (omega (arith, b, small))

  waiting_part : (part : ℕ) → part < 3 → 1 ≤ rows c → held_in cells k part ≡ part_of c (φ k) part
  waiting_part part h some = (K.waiting k (omega arith) few).each part h ∙ cell_is t c part k some small

  newest_held : (q : ℕ) → q < k → held_in cells q 0 ≡ margin longer (φ q) (rows c)
  newest_held q b = done_part q b 0 (omega arith) ∙ ap (margin longer (φ q)) last_row

  margin_held : (q : ℕ) → q < k → held_in cells q 1 ≡ margin longer (φ q) 0
  margin_held q b = done_part q b 1 (omega arith)

  -- so, given its own three, one node more has taken the row
  taken : {after : List ℤ} → Only cells after k → held_in after k 0 ≡ margin longer (φ k) (rows c) → held_in after k 1 ≡ margin longer (φ k) 0 → held_in after k 2 ≡ carried_by longer (φ k) → Taking numbers after t c r (suc k)
  taken O a b e = next O few A.ruled.few_nodes small K (three_parts some_row small (a ∙ ap (margin longer (φ k)) (sym last_row)) b e)

  -- what the node holds: `none` before the first row
  held_before : (none x : ℤ) (part : ℕ) → (rows c ≡ 0 → none ≡ x) → (1 ≤ rows c → held_in cells k part ≡ x) → so_far cells opening none k part ≡ x
  held_before none x part a b = go opening A.opening_is
    where
      go : (o : Bool) → o ≡ eqb (rows c) 0 → so_far cells o none k part ≡ x
      go true e = a (opened (rows c) e refl)
      go false e = b (running (rows c) e refl)

  -- ---- without window
  -- what a predicate's node reads is there: it names one that is set, so its channel is one of the row's
  named_set : n.kind ≡ predicate_kind → (predicate c n.left).range ≡ Unset → ⊥
  named_set = subst (λ (m : Node). m.kind ≡ predicate_kind → (predicate c m.left).range ≡ Unset → ⊥) (sym closed_is) (A.named.set k small)

  module _ (e : n.kind ≡ predicate_kind) where
    named_channel : (predicate c n.left).channel < c.setup.channels
    named_channel = elim (A.fits.measured.channels.proper n.left).known [ inl u ↦ absurd (named_set e u) | inr h ↦ h ]

    value_in_range : InRange (get_or r.values (predicate c n.left).channel (pos 0))
    value_in_range = rw (sym (value_newest c r A.fits (predicate c n.left).channel)) (in_range_at A.fits_next.measured _)

    leaf_asks : LeafAsks numbers cells values n (predicate c n.left) (scale c (predicate c n.left).channel)
    leaf_asks =
        let few = A.fits.measured.channels.few_channels in
        let at : (predicate c n.left).channel < 8 = omega (arith, named_channel, few) in
        let named : n.left ≤ 15 = subst (λ (x : ℕ). Used (left_use (operator x)) k n.left) e left_used in
        record {
          numbered = named;
          predicate_is = K.planned.predicates n.left (omega arith);
          proper = record { known = inr at; ends = (A.fits.measured.channels.proper n.left).ends };
          known = at;
          here = rw A.values_are (omega (arith, A.fitting, named_channel));
          scale_is = K.planned.scales _ at;
          scaled = channel_scaled A.fits.measured _ named_channel;
          in_range = rw A.values_are value_in_range;
        }

  leaf_newest : (leaf : ℤ) → LeafValue numbers cells values n leaf → leaf ≡ leaf_at longer n (rows c)
  leaf_newest leaf L = elim (ℕ_discrete n.kind predicate_kind) [
    | yes e ↦ rw (eq-eqb n.kind predicate_kind e) (L.named_is e _ _ (leaf_asks e) ∙ rw A.values_are (sym (newest_distance c r A.fits n.left)))
    | no e ↦ rw (ne_eqb n.kind predicate_kind e) (L.true_is e)
  ]

  -- operands, from a part of their cells that holds their margins at a sample of the longer recording
  module _ (part i : ℕ) (values-held : (q : ℕ) → q < k → held_in cells q part ≡ margin longer (φ q) i) where
    operand_of : (u : Use) (x : ℕ) → is_child u ≡ true → Used u k x → Operand cells k part x (margin longer (φ x) i)
    operand_of u x e h = let b = earlier u k x e h in record { earlier = b; value = values-held x b }

    point_asks : PointAsks cells n k part (margin longer (φ n.left) i) (margin longer (φ n.right) i)
    point_asks = record {
      left = λ e. operand_of (left_use (operator n.kind)) n.left e left_used;
      right = λ e. operand_of (right_use (operator n.kind)) n.right e right_used;
      bounded = λ e. margin_bounded A.fits_next.measured (φ n.left) i;
    }

  -- the node's margin from its operands'
  pointed : timed (operator n.kind) ≡ false → (i : ℕ) → point_of (operator n.kind) (leaf_at longer n i) (margin longer (φ n.left) i) (margin longer (φ n.right) i) ≡ margin longer (φ k) i
  pointed u i = sym (point_margin longer n φ i known u) ∙ ap (λ (ψ : Formula ℕ). margin longer ψ i) (sym tree_is)

  -- a node without window carries nothing, so its third cell stays
  module _ (u : timed (operator n.kind) ≡ false) {after : List ℤ} (O : Only cells after k) (kept : held_in after k 2 ≡ held_in cells k 2) where
    nothing_carried : (d : Card) → carried_by d (φ k) ≡ pos 0
    nothing_carried d = ap (carried_by d) tree_is ∙ carries_nothing (operator n.kind) n φ u d

    third_empty : held_in cells k 2 ≡ pos 0
    third_empty = (K.waiting k (omega arith) few).each 2 (omega arith) ∙ rw (nothing_carried c) (same_either (leb 1 (rows c) && ltb k t.count) (pos 0))

    untimed_taken : held_in after k 0 ≡ margin longer (φ k) (rows c) → held_in after k 1 ≡ margin longer (φ k) 0 → Taking numbers after t c r (suc k)
    untimed_taken a b = taken O a b (kept ∙ third_empty ∙ sym (nothing_carried longer))

  -- a node without operands: at sample 0 it keeps what it had at the first row
  module _ (leaf : ℤ) (L : LeafValue numbers cells values n leaf) where
    no_window : timed (operator n.kind) ≡ false
    no_window = own_untimed n.kind L.own

    inner : T (momentary (φ k))
    inner = subst (λ (ψ : Formula ℕ). T (momentary ψ)) (sym tree_is) (own_momentary n.kind n φ L.own)

    own_newest : leaf ≡ margin longer (φ k) (rows c)
    own_newest = leaf_newest leaf L ∙ leaf_point n.kind _ _ _ L.own ∙ pointed no_window (rows c)

    own_first : so_far cells opening leaf k 1 ≡ margin longer (φ k) 0
    own_first = held_before leaf (margin longer (φ k) 0) 1 (λ z. rw z at own_newest) (λ some. waiting_part 1 (omega arith) some ∙ sym (before c r A.fits (φ k) inner 0 some))

    pub leaf_taken : {after : List ℤ} → Only cells after k → held_in after k 0 ≡ leaf → held_in after k 1 ≡ so_far cells opening leaf k 1 → held_in after k 2 ≡ held_in cells k 2 → Taking numbers after t c r (suc k)
    leaf_taken O a b kept = untimed_taken no_window O kept (a ∙ own_newest) (b ∙ own_first)

  -- "not", "and", "or"
  pub point_taken : (x y : ℤ) → IsPoint cells n k 0 x → IsPoint cells n k 1 y → {after : List ℤ} → Only cells after k → held_in after k 0 ≡ x → held_in after k 1 ≡ y → held_in after k 2 ≡ held_in cells k 2 → Taking numbers after t c r (suc k)
  point_taken x y hx hy O a b kept =
      untimed_taken hx.untimed O kept
      (a ∙ hx.value (leaf_at longer n (rows c)) _ _ (point_asks 0 (rows c) newest_held) ∙ pointed hx.untimed (rows c))
      (b ∙ hy.value (leaf_at longer n 0) _ _ (point_asks 1 0 margin_held) ∙ pointed hx.untimed 0)

  -- ---- with a window
  module _ {e : Extremum} {lv rv : ℤ} (a : TimedAsks cells n e lv rv) where
    abbrev two : Bool
    two = is_child (right_use (operator n.kind))

    abbrev left : Formula ℕ
    left = left_of two e n φ

    abbrev right : Formula ℕ
    right = right_of two n φ

    temporal_is : φ k ≡ temporal Future e (kept_window n) left right
    temporal_is = rw (a.extremum_is, window_is) at (tree_is ∙ timed_form (operator n.kind) n φ a.windowed)

    both_momentary : T (momentary left) × T (momentary right)
    both_momentary = inside_momentary Future e (kept_window n) left right (subst (λ (ψ : Formula ℕ). T (unnested ψ)) temporal_is (A.unnested.each k small))

    left_earlier : n.left < k
    left_earlier = earlier (left_use (operator n.kind)) k n.left (timed_left (operator n.kind) a.windowed) left_used

    right_earlier : two ≡ true → n.right < k
    right_earlier z = earlier (right_use (operator n.kind)) k n.right z right_used

    -- the operands at the new sample
    left_value : (b : Bool) → two ≡ b → lv ≡ margin longer (left_of b e n φ) (rows c)
    left_value true z = a.left_two z (omega (arith, left_earlier, few)) ∙ newest_held n.left left_earlier
    left_value false z = a.left_one z ∙ unary_left_margin e longer (rows c)

    right_value : (b : Bool) → two ≡ b → rv ≡ margin longer (right_of b n φ) (rows c)
    right_value true z = a.right_two z (omega (arith, right_earlier z, few)) ∙ newest_held n.right (right_earlier z)
    right_value false z = a.right_one z (omega (arith, left_earlier, few)) ∙ newest_held n.left left_earlier

    module _ (m x : ℤ) (here : Bool) (hm : m ≡ so_far cells opening (margin_nothing TOP e) k 1) (hx : x ≡ so_far cells opening (margin_nothing TOP (dual e)) k 2) (hh : here ≡ inside (kept_window n) since) where
      margin_was : m ≡ margin c (temporal Future e (kept_window n) left right) 0
      margin_was = hm ∙ held_before (margin_nothing TOP e) _ 1 (margin_before c e (kept_window n) left right) (λ some. waiting_part 1 (omega arith) some ∙ ap (λ (ψ : Formula ℕ). margin c ψ 0) temporal_is)

      carried_was : x ≡ carried c e left
      carried_was = hx ∙ held_before (margin_nothing TOP (dual e)) _ 2 (carried_before c e left) (λ some. waiting_part 2 (omega arith) some ∙ ap (carried_by c) temporal_is)

      newest_now : newest_of n e rv ≡ margin longer (φ k) (rows c)
      newest_now = newest_taken c r A.fits_next.measured e (kept_window n) left right (right_value two refl) ∙ ap (λ (ψ : Formula ℕ). margin longer ψ (rows c)) (sym temporal_is)

      margin_now : margin_after e m x rv here ≡ margin longer (φ k) 0
      margin_now =
          margin_taken c r A.fits e (kept_window n) left right both_momentary.0 both_momentary.1 margin_was carried_was (right_value two refl) (hh ∙ ap (inside (kept_window n)) A.since_is)
          ∙ ap (λ (ψ : Formula ℕ). margin longer ψ 0) (sym temporal_is)

      carried_now : margin_extreme (dual e) x lv ≡ carried_by longer (φ k)
      carried_now =
          carried_taken c r A.fits e (kept_window n) left right both_momentary.0 both_momentary.1 carried_was (left_value two refl)
          ∙ ap (carried_by longer) (sym temporal_is)

      pub timed_taken : {after : List ℤ} → Only cells after k → held_in after k 0 ≡ newest_of n e rv → held_in after k 1 ≡ margin_after e m x rv here → held_in after k 2 ≡ margin_extreme (dual e) x lv → Taking numbers after t c r (suc k)
      timed_taken O p q s = taken O (p ∙ newest_now) (q ∙ margin_now) (s ∙ carried_now)
