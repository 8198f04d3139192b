-- Each of the writer's tests holds exactly where its sentence does, so its number is the first sentence's that does not hold. The measures, cut off past the limits, tell whether 14 applies.
-- Assumes nothing.
use mathlib.Core.Path.{◌≡◌, refl, sym, subst}
use mathlib.Core.Bool.{Bool, true, false, not, ◌&&◌, ◌||◌}
use Prim.Native.Nat.{ℕ, suc, ◌≤◌, ◌<◌, min}
use native.Mathlib.Omega.{arith}
use lib.Dec.{T, leb, leb→le, le→leb}
use lib.ListN.{length}
use mir.Facts.{and_yes, yes_and}
use borrow.Author.Tests.{le-leb, lt-leb, leb-true, leb-false}
use Rattle.text.proofs.Tests.{by_test}
use Rattle.refusals.specs.First.{first, AllExact}
use Rattle.tables.specs.declared.Table.{Table}
use Rattle.tables.specs.Tree.{NODES}
use Rattle.tables.specs.Rules.{TableRules, table_obeys}
use Rattle.tables.proofs.Rules.{table_rules, table_passes}
use Rattle.grammar.specs.Tree.{size}
use Rattle.grammar.specs.Grammar.{ENCLOSINGS, Requires}
use Rattle.building.specs.Unshared.{tree_of}
use Rattle.spelling.specs.Enclosings.{enclosings}
use Rattle.spelling.proofs.Fits.{fits, fits_only}
use Rattle.writing.specs.Written.{table_text, limits_check, write_checks, write_refusal}
use Rattle.writing.proofs.Tables.{tree_proper}

-- ---- exact

limits_are : (t : Table) → TableRules t → T (limits_check t).passes → Requires (table_text t) (tree_of t)
limits_are t r h =
    let a = and_yes (leb (size (tree_of t)) NODES) (leb (enclosings (tree_of t)) ENCLOSINGS) h in
    fits (tree_of t) (tree_proper t r) (leb→le _ NODES a.0) (leb→le _ ENCLOSINGS a.1)

limits_pass : (t : Table) → Requires (table_text t) (tree_of t) → T (limits_check t).passes
limits_pass t r =
    let a = fits_only (table_text t) (tree_of t) r in
    yes_and (leb (size (tree_of t)) NODES) (leb (enclosings (tree_of t)) ENCLOSINGS) (le→leb _ NODES a.0) (le→leb _ ENCLOSINGS a.1)

pub exact : (t : Table) (room : ℕ) → AllExact (write_checks t room)
exact t room = (
  record { sound = table_rules t; complete = table_passes t },
  λ r. (
    record { sound = limits_are t r; complete = limits_pass t },
    λ _. (record { sound = leb→le (length (table_text t)) room; complete = le→leb (length (table_text t)) room }, λ _. tt),
  ),
)

-- ---- the number from the tests

yes : {b : Bool} → T b → b ≡ true
yes {b = true} t = refl
yes {b = false} t = absurd t

module _ (t : Table) (room : ℕ) where
  pub is_three : table_obeys t ≡ false → write_refusal t room ≡ 3
  unfolding first
  is_three e = rw e

  pub is_fourteen : table_obeys t ≡ true → (limits_check t).passes ≡ false → write_refusal t room ≡ 14
  unfolding first
  is_fourteen e f = rw (e, f)

  module _ (r : TableRules t) (q : Requires (table_text t) (tree_of t)) where
    obeys : table_obeys t ≡ true
    obeys = yes (table_passes t r)

    within : (limits_check t).passes ≡ true
    within = yes (limits_pass t q)

    pub is_fifteen : room < length (table_text t) → write_refusal t room ≡ 15
    unfolding first
    is_fifteen h = rw (obeys, within, lt-leb (length (table_text t)) room h)

    pub is_none : length (table_text t) ≤ room → write_refusal t room ≡ 0
    unfolding first
    is_none h = rw (obeys, within, le-leb (length (table_text t)) room h)

pub obeys_rules : (t : Table) → table_obeys t ≡ true → TableRules t
obeys_rules t e = table_rules t (subst T (sym e) tt)

pub limits_required : (t : Table) → TableRules t → (limits_check t).passes ≡ true → Requires (table_text t) (tree_of t)
limits_required t r e = limits_are t r (subst T (sym e) tt)

-- ---- the limits from measures

past : (m l : ℕ) → leb (suc l) (min m (suc l)) ≡ not (leb m l)
past m l = by_test (leb m l) (λ e. rw (e, lt-leb (suc l) (min m (suc l)) (omega (arith, leb-true m l e))) refl) (λ e. rw (e, le-leb (suc l) (min m (suc l)) (omega (arith, leb-false m l e))) refl)

either : (a b : Bool) → (not a || not b) ≡ not (a && b)
either true b = refl
either false b = refl

pub past_limits : (t : Table) → (leb (suc NODES) (min (size (tree_of t)) (suc NODES)) || leb (suc ENCLOSINGS) (min (enclosings (tree_of t)) (suc ENCLOSINGS))) ≡ not (limits_check t).passes
past_limits t = rw (past (size (tree_of t)) NODES, past (enclosings (tree_of t)) ENCLOSINGS) (either (leb (size (tree_of t)) NODES) (leb (enclosings (tree_of t)) ENCLOSINGS))
