-- What one node is worked out from. A window without end reaches as far as a sample can be, another as far as its high end; true and a predicate have a value of their own.
-- Assumes nothing.
use mathlib.Core.Path.{◌≡◌, refl, sym, ap, ◌∙◌, subst}
use mathlib.Core.List.{List}
use mathlib.Core.Bool.{Bool, true, false, cond, ◌&&◌}
use Prim.Native.Nat.{ℕ, zero, suc, ◌-◌, ◌≤◌, ◌<◌}
use native.Mathlib.Nat.{add-zero}
use native.Mathlib.Omega.{arith}
use native.Mathlib.Decide.{ℕ_discrete}
use lib.Dec.{T, leb, eqb, eqb→eq, leb→le, le→leb, ltb→lt, lt→ltb}
use lib.ListN.{length}
use lib.IntN.{ℤ, pos, negsuc, neg_ℤ}
use lib.Signed.{le_z}
use borrow.Author.Tests.{eq-eqb, ne_eqb, le-leb}
use mir.Syntax.{w64}
use mir.Val.{SFits}
use Rattle.numbers.specs.Order.{Within}
use Rattle.numbers.proofs.Parts.{le_parts, nle_parts, holds, fails, abs_parts}
use Rattle.lists.proofs.Below.{same_test}
use Rattle.logic.specs.declared.Stop.TheVariants.{Endless, Before}
use Rattle.logic.specs.Window.{reaches, inside}
use Rattle.logic.specs.declared.Extremum.{Extremum}
use Rattle.logic.specs.Formula.{dual}
use Rattle.logic.specs.declared.Direction.{Direction}
use Rattle.logic.specs.declared.Direction.TheVariants.{Future}
use Rattle.logic.specs.Reading.{margin_nothing}
use Rattle.recordings.specs.declared.Range.{Range}
use Rattle.recordings.specs.Distance.{TOP, scaled_distance}
use Rattle.tables.specs.declared.Node.{Node}
use Rattle.tables.specs.Kind.{kinds, operator, predicate_kind}
use Rattle.tables.specs.declared.Operator.{Operator}
use Rattle.tables.specs.declared.Operator.TheVariants.{Constant, Named, Unknown, Binary, Unary}
use Rattle.tables.specs.Tree.{NODES, NO_END}
use Rattle.tables.specs.Rules.{window_obeys, WindowRules}
use Rattle.tables.specs.Closed.{closed_node}
use Rattle.tables.proofs.Rules.{window_passes}
use Rattle.tables.proofs.EveryKind.{every_kind, known_kind}
use Rattle.refusals.proofs.First.{answers}
use Rattle.watch_cells.specs.State.{kept_node, kept_window, held_in}
use Rattle.watch_cells.specs.Taking.{point_of, IsDistance, LeafValue, TimedAsks}

pub clash : {b : Bool} → b ≡ true → b ≡ false → ⊥
clash e f = subst T (sym e ∙ f) tt

reached : (d hi : ℕ) → d ≤ NO_END → leb d hi ≡ reaches (cond (eqb hi NO_END) Endless (Before (suc hi - 0))) d
reached d hi h = elim (ℕ_discrete hi NO_END) [
  | yes e ↦ rw (eq-eqb hi NO_END e) (le-leb d hi (omega arith))
  | no e ↦ rw (ne_eqb hi NO_END e) (same_test (λ h. lt→ltb d (suc hi - 0) (omega (arith, leb→le d hi h))) (λ h. le→leb d hi (omega (arith, ltb→lt d (suc hi - 0) h))))
]

pub inside_is : (n : Node) (d : ℕ) → d ≤ NO_END → (leb n.span.lo d && leb d n.span.hi) ≡ inside (kept_window n) d
inside_is n d h = rw (add-zero n.span.lo) (ap (λ (b : Bool). leb n.span.lo d && b) (reached d n.span.hi h))

-- a node that obeys the rules is kept with its window closed
pub kept_closed : (n : Node) → WindowRules n.span → kept_node n ≡ closed_node n
kept_closed n r = let e : window_obeys n.span ≡ true = answers (window_passes n.span r) in rw e refl

-- true and predicates come first
pub leaf_point : (kind : ℕ) (leaf l r : ℤ) → kind ≤ 1 → leaf ≡ point_of (operator kind) leaf l r
leaf_point zero leaf l r h = refl
leaf_point (suc zero) leaf l r h = refl
leaf_point (suc (suc kind)) leaf l r h = absurd (omega arith)

-- ---- which kind an operator is of
abbrev is_constant : Operator → Bool
is_constant Constant = true
is_constant _ = false

abbrev is_named : Operator → Bool
is_named Named = true
is_named _ = false

abbrev is_known : Operator → Bool
is_known Unknown = false
is_known _ = true

pub constant_kind : (k : ℕ) → operator k ≡ Constant → k ≡ 0
constant_kind k e = eqb→eq k 0 (rw e at (every_kind (λ o j. cond (is_constant o) (eqb j 0) true) tt (λ j h. tt) k))

pub named_kind : (k : ℕ) → operator k ≡ Named → k ≡ 1
named_kind k e = eqb→eq k 1 (rw e at (every_kind (λ o j. cond (is_named o) (eqb j 1) true) tt (λ j h. tt) k))

pub no_unknown : (k : ℕ) → k < length kinds → operator k ≡ Unknown → ⊥
no_unknown k h e = rw e at (known_kind (λ o j. is_known o) tt k h)

-- operators look at later places alone
pub binary_ahead : (d : Direction) (e : Extremum) → Binary d e ≡ Binary Future e
binary_ahead Future e = refl

pub unary_ahead : (d : Direction) (e : Extremum) → Unary d e ≡ Unary Future e
unary_ahead Future e = refl

-- ---- what a leaf and a temporal operator are worked out from, by the kind
pub true_leaf : {numbers : List ℕ} {cells values : List ℤ} {n : Node} → n.kind ≡ 0 → LeafValue numbers cells values n (pos TOP)
true_leaf e = record { own = omega arith; true_is = λ z. refl; named_is = λ z. absurd (omega arith) }

pub named_leaf : {numbers : List ℕ} {cells values : List ℤ} {n : Node} {v : ℤ} → n.kind ≡ predicate_kind → IsDistance numbers cells values n v → LeafValue numbers cells values n v
named_leaf e h = record { own = omega arith; true_is = λ z. absurd (z e); named_is = λ z. h }

module _ {cells : List ℤ} {n : Node} {e : Extremum} {l r : ℤ} where
  pub binary_asks : operator n.kind ≡ Binary Future e → (n.left < NODES → l ≡ held_in cells n.left 0) → (n.right < NODES → r ≡ held_in cells n.right 0) → TimedAsks cells n e l r
  binary_asks o hl hr = record {
    windowed = rw o refl;
    extremum_is = rw o refl;
    left_two = λ z. hl;
    left_one = λ z. absurd (clash (rw o refl) z);
    right_two = λ z. hr;
    right_one = λ z. absurd (clash (rw o refl) z);
  }

  pub unary_asks : operator n.kind ≡ Unary Future e → l ≡ margin_nothing TOP (dual e) → (n.left < NODES → r ≡ held_in cells n.left 0) → TimedAsks cells n e l r
  unary_asks o hl hr = record {
    windowed = rw o refl;
    extremum_is = rw o refl;
    left_two = λ z. absurd (clash z (rw o refl));
    left_one = λ z. hl;
    right_two = λ z. absurd (clash z (rw o refl));
    right_one = λ z. hr;
  }

pub distance_same : {k s : ℕ} {r q : Range} {v x : ℤ} → s ≡ k → r ≡ q → x ≡ v → scaled_distance TOP s r x ≡ scaled_distance TOP k q v
distance_same a b d = rw (a, b, d)

-- ---- the least margin: what is not below it has a negative, and no margin is below it
abbrev least : ℤ
least = neg_ℤ (pos TOP)

pub negative_fits : (a : ℤ) → SFits w64 a → le_z least a ≡ true → SFits w64 (neg_ℤ a)
negative_fits (pos zero) h e = record { sfits = omega arith }
negative_fits (pos (suc n)) h e = record { sfits = omega (arith, h.sfits) }
negative_fits (negsuc n) h e = record { sfits = omega (arith, le_parts least (negsuc n) (holds e)) }

pub no_margin_below : (a : ℤ) → Within TOP a → le_z least a ≡ false → ⊥
no_margin_below a w e = omega (arith, w.size, abs_parts a, nle_parts least a (fails e))
