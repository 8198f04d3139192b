-- Which production a kind has: the list of kinds is tested once by computing, and the laws read the test. A kind that asks for one child is "not" or stands before a window; one that asks for two is "and", "or" or stands between with a window.
-- Assumes nothing.
use mathlib.Core.Path.{◌≡◌, refl, sym, subst}
use mathlib.Core.List.Memᴰ
use mathlib.Core.List.{List, [], ◌∷◌}
use mathlib.Core.Bool.{Bool, true, false, cond, ◌||◌}
use mathlib.Core.Logic.{◌⊎◌, inl, inr}
use Prim.Native.Nat.{ℕ}
use lib.Dec.{T, eqb, eqb→eq}
use mir.Facts.{or_yes}
use Rattle.text.proofs.Tests.{by_test}
use Rattle.tables.specs.Kind.{operator, not_kind, and_kind, or_kind}
use Rattle.tables.specs.declared.Operator.{Operator}
use Rattle.tables.specs.Rules.{child, unused, is_child, left_use, right_use, timed, WindowRules, EndsRules}
use Rattle.tables.proofs.EveryKind.{known_kind}
use Rattle.tables.specs.declared.Span.{Span}
use Rattle.grammar.specs.declared.Part.TheVariants.{Bind as bind}
use Rattle.grammar.specs.Operators.{binders, prefixes, ◌∈◌}
use Rattle.tables.specs.Tree.{no_span}
use Rattle.requirements.proofs.Rules.{KindRules}
use Rattle.spelling.specs.Text.{part_of}

-- ---- the test

abbrev among : ℕ → List ℕ → Bool
among k [] = false
among k (j ∷ js) = eqb k j || among k js

among_in : (k : ℕ) (ks : List ℕ) → T (among k ks) → k ∈ ks
among_in k [] t = absurd t
among_in k (j ∷ js) t = elim (or_yes (eqb k j) (among k js) t) [ inl e ↦ Memᴰ.head (eqb→eq k j e) | inr m ↦ Memᴰ.tail (among_in k js m) ]

-- the kinds without a window that stand between two requirements
abbrev pub joiners : List ℕ
joiners = and_kind ∷ or_kind ∷ []

abbrev produced : Operator → ℕ → Bool
produced o k =
    cond (is_child (left_use o))
    (cond (is_child (right_use o)) (cond (timed o) (among k binders) (among k joiners)) (cond (timed o) (among k prefixes) (eqb k not_kind)))
    true

-- ---- what it tells of a kind

some_window : (t : Bool) (w : Span) → t ≡ true → EndsRules t w → WindowRules w
some_window t w e r = rw e at r

no_window : (t : Bool) (w : Span) → t ≡ false → EndsRules t w → w ≡ no_span
no_window t w e r = rw e at r

pub single_kind : (k : ℕ) (w : Span) → KindRules k unused w → ((k ∈ prefixes) × WindowRules w) ⊎ ((k ≡ not_kind) × (w ≡ no_span))
single_kind k w r =
    let t = rw (r.lefts, r.rights) at (known_kind produced tt k r.known) in
    by_test (timed (operator k)) (λ e. inl (among_in k prefixes (rw e at t), some_window _ w e r.ends)) (λ e. inr (eqb→eq k not_kind (rw e at t), no_window _ w e r.ends))

pub double_kind : (k : ℕ) (w : Span) → KindRules k child w → ((k ∈ binders) × WindowRules w) ⊎ ((k ∈ joiners) × (w ≡ no_span))
double_kind k w r =
    let t = rw (r.lefts, r.rights) at (known_kind produced tt k r.known) in
    by_test (timed (operator k)) (λ e. inl (among_in k binders (rw e at t), some_window _ w e r.ends)) (λ e. inr (among_in k joiners (rw e at t), no_window _ w e r.ends))

-- ---- what holds of each of some kinds

abbrev Each : (ℕ → Type 0) → List ℕ → Type 0
Each P [] = Unit {0}
Each P (k ∷ ks) = P k × Each P ks

pub each_in : (P : ℕ → Type 0) {k : ℕ} {ks : List ℕ} → k ∈ ks → Each P ks → P k
each_in P (Memᴰ.head e) h = subst P (sym e) h.0
each_in P (Memᴰ.tail m) h = each_in P m h.1

pub prefix_timed : {k : ℕ} → k ∈ prefixes → timed (operator k) ≡ true
prefix_timed m = each_in (λ k. timed (operator k) ≡ true) m (refl, (refl, tt))

pub binder_timed : {k : ℕ} → k ∈ binders → timed (operator k) ≡ true
binder_timed m = each_in (λ k. timed (operator k) ≡ true) m (refl, (refl, tt))

pub binder_part : {k : ℕ} → k ∈ binders → part_of k ≡ bind
binder_part m = each_in (λ k. part_of k ≡ bind) m (refl, (refl, tt))
