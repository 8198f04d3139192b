-- What a row adds to one node, by its kind. Without window: at every sample the node is worked out from its operands there. With one: the margin at sample 0 takes in right at
-- the new sample with what left was before it, and what is carried takes in left.
-- Assumes nothing.
use mathlib.Core.Path.{◌≡◌, refl, sym, ◌∙◌}
use mathlib.Core.Bool.{Bool, true, false, cond}
use Prim.Native.Nat.{ℕ, zero, suc, ◌-◌, ◌≤◌, ◌<◌}
use native.Mathlib.Omega.{arith}
use lib.Dec.{T, eqb}
use lib.ListN.{length}
use lib.IntN.{ℤ, pos}
use Rattle.numbers.specs.Order.{Within}
use Rattle.logic.specs.declared.Window.{Window}
use Rattle.logic.specs.Window.{inside}
use Rattle.logic.specs.declared.Extremum.{Extremum}
use Rattle.logic.specs.declared.Extremum.TheVariants.{Largest, Smallest}
use Rattle.logic.specs.Formula.{dual, Formula, temporal}
use Rattle.logic.specs.declared.Direction.TheVariants.{Future}
use Rattle.logic.specs.Reading.{margin_extreme, margin_nothing}
use Rattle.logic.proofs.Beaten.{nothing_moves}
use Rattle.recordings.specs.Card.{Card, rows, time}
use Rattle.recordings.specs.Distance.{TOP}
use Rattle.recordings.specs.Margin.{distance_at, robustness, margin}
use Rattle.recordings.specs.Accepted.{Measured}
use Rattle.recordings.proofs.Margins.{margin_bounded}
use Rattle.tables.specs.declared.Node.{Node}
use Rattle.tables.specs.Kind.{operator, operator_extremum, kinds, predicate_kind}
use Rattle.tables.specs.declared.Operator.{Operator}
use Rattle.tables.specs.declared.Operator.TheVariants.{Constant, Named, Negated, Unknown, Joined, Binary, Unary}
use Rattle.tables.specs.Tree.{window, formula, unary_left}
use Rattle.tables.specs.Rules.{is_child, left_use, right_use, timed}
use Rattle.nesting.specs.Nesting.{momentary}
use Rattle.arrivals.specs.Arrivals.{Row, with_row}
use Rattle.arrivals.specs.Fits.{Fits, carried}
use Rattle.arrivals.proofs.Growth.{none_yet, at_last, rows_next, margin_next, carried_next}
use Rattle.watch_cells.specs.State.{carried_by}
use Rattle.watch_cells.specs.Taking.{point_of, margin_after}
use Rattle.watch_cells.proofs.Points.{clash}

untimed : {A : Type 0} {b : Bool} → b ≡ true → b ≡ false → A
untimed e f = absurd (clash e f)

-- ---- without window
-- a node's own value where it has no operands: a predicate's distance, or the top
abbrev pub leaf_at : Card → Node → ℕ → ℤ
leaf_at d n i = cond (eqb n.kind predicate_kind) (distance_at TOP d n.left i) (pos TOP)

module _ (d : Card) (n : Node) (φ : ℕ → Formula ℕ) (i : ℕ) where
  by_kind : (x : ℕ) → x < length kinds → timed (operator x) ≡ false → margin d (formula (operator x) n φ) i ≡ point_of (operator x) (cond (eqb x predicate_kind) (distance_at TOP d n.left i) (pos TOP)) (margin d (φ n.left) i) (margin d (φ n.right) i)
  unfolding robustness
  by_kind zero h u = refl
  by_kind (suc zero) h u = refl
  by_kind (suc (suc zero)) h u = refl
  by_kind (suc (suc (suc zero))) h u = refl
  by_kind (suc (suc (suc (suc zero)))) h u = refl
  by_kind (suc (suc (suc (suc (suc zero))))) h u = untimed refl u
  by_kind (suc (suc (suc (suc (suc (suc zero)))))) h u = untimed refl u
  by_kind (suc (suc (suc (suc (suc (suc (suc zero))))))) h u = untimed refl u
  by_kind (suc (suc (suc (suc (suc (suc (suc (suc zero)))))))) h u = untimed refl u
  by_kind (suc (suc (suc (suc (suc (suc (suc (suc (suc x))))))))) h u = absurd (omega arith)

  pub point_margin : n.kind < length kinds → timed (operator n.kind) ≡ false → margin d (formula (operator n.kind) n φ) i ≡ point_of (operator n.kind) (leaf_at d n i) (margin d (φ n.left) i) (margin d (φ n.right) i)
  point_margin h u = by_kind n.kind h u

-- without operands it has no window, and no temporal operator stands in it
pub own_untimed : (k : ℕ) → k ≤ 1 → timed (operator k) ≡ false
own_untimed zero h = refl
own_untimed (suc zero) h = refl
own_untimed (suc (suc k)) h = absurd (omega arith)

pub own_momentary : (k : ℕ) (n : Node) (φ : ℕ → Formula ℕ) → k ≤ 1 → T (momentary (formula (operator k) n φ))
own_momentary zero n φ h = tt
own_momentary (suc zero) n φ h = tt
own_momentary (suc (suc k)) n φ h = absurd (omega arith)

-- ---- with a window: two operands, or one, before which true or false stands
abbrev pub left_of : Bool → Extremum → Node → (ℕ → Formula ℕ) → Formula ℕ
left_of true e n φ = φ n.left
left_of false e n φ = unary_left e

abbrev pub right_of : Bool → Node → (ℕ → Formula ℕ) → Formula ℕ
right_of true n φ = φ n.right
right_of false n φ = φ n.left

pub timed_form : (o : Operator) (n : Node) (φ : ℕ → Formula ℕ) → timed o ≡ true → formula o n φ ≡ temporal Future (operator_extremum o) (window n) (left_of (is_child (right_use o)) (operator_extremum o) n φ) (right_of (is_child (right_use o)) n φ)
timed_form Constant n φ h = untimed h refl
timed_form Named n φ h = untimed h refl
timed_form Negated n φ h = untimed h refl
timed_form Unknown n φ h = untimed h refl
timed_form (Joined e) n φ h = untimed h refl
timed_form (Binary Future e) n φ h = refl
timed_form (Unary Future e) n φ h = refl

pub timed_left : (o : Operator) → timed o ≡ true → is_child (left_use o) ≡ true
timed_left Constant h = untimed h refl
timed_left Named h = untimed h refl
timed_left Negated h = untimed h refl
timed_left Unknown h = untimed h refl
timed_left (Joined e) h = untimed h refl
timed_left (Binary d e) h = refl
timed_left (Unary d e) h = refl

-- true before until, false before release: what an extremum over nothing is
pub unary_left_margin : (e : Extremum) (d : Card) (i : ℕ) → margin_nothing TOP (dual e) ≡ margin d (unary_left e) i
unfolding robustness
unary_left_margin Largest d i = refl
unary_left_margin Smallest d i = refl

-- a node without window carries nothing
pub carries_nothing : (o : Operator) (n : Node) (φ : ℕ → Formula ℕ) → timed o ≡ false → (d : Card) → carried_by d (formula o n φ) ≡ pos 0
carries_nothing Constant n φ u d = refl
carries_nothing Named n φ u d = refl
carries_nothing Negated n φ u d = refl
carries_nothing Unknown n φ u d = refl
carries_nothing (Joined e) n φ u d = refl
carries_nothing (Binary x e) n φ u d = untimed refl u
carries_nothing (Unary x e) n φ u d = untimed refl u

taken_in : (e : Extremum) (here : Bool) (m x : ℤ) → Within TOP m → cond here (margin_extreme e m x) m ≡ margin_extreme e m (cond here x (margin_nothing TOP e))
taken_in e true m x w = refl
taken_in e false m x w = sym (nothing_moves TOP e m w)

module _ (c : Card) (r : Row) (ok : Fits c) (e : Extremum) (w : Window) (φ ψ : Formula ℕ) (hl : T (momentary φ)) (hr : T (momentary ψ)) where
  pub margin_taken : {m x y : ℤ} {here : Bool} → m ≡ margin c (temporal Future e w φ ψ) 0 → x ≡ carried c e φ → y ≡ margin (with_row c r) ψ (rows c) → here ≡ inside w (r.time - time (with_row c r) 0) → margin_after e m x y here ≡ margin (with_row c r) (temporal Future e w φ ψ) 0
  margin_taken {m} {x} {y} {here} hm hx hy hh =
      taken_in e here m (margin_extreme (dual e) y x) (rw hm (margin_bounded ok.measured (temporal Future e w φ ψ) 0))
      ∙ rw (hm, hx, hy, hh) (sym (margin_next c r ok e w φ ψ hl hr))

  pub carried_taken : {x y : ℤ} → x ≡ carried c e φ → y ≡ margin (with_row c r) φ (rows c) → margin_extreme (dual e) x y ≡ carried (with_row c r) e φ
  carried_taken hx hy = rw (hx, hy) (sym (carried_next c r ok e w φ ψ hl hr))

pub newest_taken : (c : Card) (r : Row) → Measured (with_row c r) → (e : Extremum) (w : Window) (φ ψ : Formula ℕ) {y : ℤ} → y ≡ margin (with_row c r) ψ (rows c) → cond (inside w 0) y (margin_nothing TOP e) ≡ margin (with_row c r) (temporal Future e w φ ψ) (rows c)
newest_taken c r ok e w φ ψ h = rw h (sym (at_last (with_row c r) e w φ ψ (rows c) (rows_next c r) (margin_bounded ok ψ (rows c))))

-- before the first row both are extrema over nothing
pub margin_before : (c : Card) (e : Extremum) (w : Window) (φ ψ : Formula ℕ) → rows c ≡ 0 → margin_nothing TOP e ≡ margin c (temporal Future e w φ ψ) 0
margin_before c e w φ ψ h = sym (none_yet c e w φ ψ h)

pub carried_before : (c : Card) (e : Extremum) (φ : Formula ℕ) → rows c ≡ 0 → margin_nothing TOP (dual e) ≡ carried c e φ
carried_before c e φ h = rw h
