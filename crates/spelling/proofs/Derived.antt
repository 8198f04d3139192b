-- The grammar derives the text of a proper tree where a part is due, within every depth that its enclosings allow: by induction on the tree. An operator's production gives its own part, which stands as the due one, alone or in parentheses.
-- Assumes nothing.
use mathlib.Core.Path.{◌≡◌}
use mathlib.Core.List.{List, ◌++◌, append_assoc}
use mathlib.Core.Bool.{true, false}
use mathlib.Core.Logic.{inl, inr}
use Prim.Native.Nat.{ℕ, zero, suc, ◌+◌, ◌≤◌}
use native.Mathlib.Omega.{arith}
use borrow.Author.Tests.{leb-true}
use Rattle.text.specs.Bytes.{bytes}
use Rattle.text.proofs.Tests.{by_test}
use Rattle.tables.specs.Rules.{child, unused}
use Rattle.printing.proofs.Numerals.{decimal_numeral}
use Rattle.tables.specs.declared.Span.{Span}
use Rattle.grammar.specs.declared.Part.{Part}
use Rattle.grammar.specs.declared.Part.TheVariants.{Alternative as alternative, Conjunction as conjunction, Bind as bind, Unary as unary}
use Rattle.grammar.specs.Operators.{letter}
use Rattle.tables.specs.Tree.{no_span}
use Rattle.grammar.specs.Tree.{Tree, truth, predicate, one, two}
use Rattle.grammar.specs.Grammar.{Derives, alternative_one, alternative_more, conjunction_one, conjunction_more, bind_one, bind_two, unary_not, unary_timed, unary_true, unary_predicate, unary_group}
use Rattle.requirements.proofs.Rules.{KindRules, Proper}
use Rattle.spelling.specs.Text.{part_of, left_part, right_part, rank, stands_as, grouped, window_text, sign, text_as}
use Rattle.spelling.specs.Enclosings.{pair, enclosings_as}
use Rattle.spelling.proofs.Pairs.{stands_unary}
use Rattle.spelling.proofs.Windows.{window_made}
use Rattle.spelling.proofs.Productions.{single_kind, double_kind, each_in, prefix_timed, binder_timed, binder_part}

-- ---- parts that stand as others

pub stands : (due own : Part) {d : ℕ} {w : List ℕ} {a : Tree} → rank due ≤ rank own → Derives own d w a → Derives due d w a
stands alternative alternative h x = x
stands alternative conjunction h x = alternative_one x
stands alternative bind h x = alternative_one (conjunction_one x)
stands alternative unary h x = alternative_one (conjunction_one (bind_one x))
stands conjunction alternative h x = absurd (omega arith)
stands conjunction conjunction h x = x
stands conjunction bind h x = conjunction_one x
stands conjunction unary h x = conjunction_one (bind_one x)
stands bind alternative h x = absurd (omega arith)
stands bind conjunction h x = absurd (omega arith)
stands bind bind h x = x
stands bind unary h x = bind_one x
stands unary alternative h x = absurd (omega arith)
stands unary conjunction h x = absurd (omega arith)
stands unary bind h x = absurd (omega arith)
stands unary unary h x = x

unary_stands : (due : Part) {d : ℕ} {w : List ℕ} {a : Tree} → Derives unary d w a → Derives due d w a
unary_stands due x = stands due unary (leb-true _ _ (stands_unary due)) x

-- a part of depth m, grouped: the pair of parentheses encloses once more
group : (due own : Part) (m d : ℕ) {w : List ℕ} {a : Tree} → m + pair due own ≤ d → ((e : ℕ) → m ≤ e → Derives own e w a) → Derives due d (grouped due own w) a
group due own m d {w} {a} h x = by_test (stands_as due own) plain parens
  where
    plain : stands_as due own ≡ true → Derives due d (grouped due own w) a
    plain e = rw e (stands due own (leb-true _ _ e) (x d (omega (arith, rw e at h))))

    enclosed : (d : ℕ) → m + 1 ≤ d → Derives due d (bytes "(" ++ (w ++ bytes ")")) a
    enclosed zero l = absurd (omega arith)
    enclosed (suc d) l = unary_stands due (unary_group (stands alternative own (omega arith) (x d (omega arith))))

    parens : stands_as due own ≡ false → Derives due d (grouped due own w) a
    parens e = rw e (enclosed d (rw e at h))

-- ---- an operator's production

one_made : (k : ℕ) (w : Span) → KindRules k unused w → {d : ℕ} {x : List ℕ} {a : Tree} → Derives unary d x a → Derives unary (suc d) (sign k w ++ x) (one k w a)
one_made k w r {d} {x} {a} y = elim (single_kind k w r) [
  | inl m ↦ rw (prefix_timed m.0, append_assoc (letter k) (window_text true w) x) (unary_timed m.0 (window_made w m.1) y)
  | inr e ↦ rw (e.0, e.1) (unary_not y)
]

two_made : (k : ℕ) (w : Span) → KindRules k child w → {d : ℕ} {v x : List ℕ} {a b : Tree} → Derives (left_part (part_of k)) d v a → Derives (right_part (part_of k)) d x b → Derives (part_of k) d (v ++ (sign k w ++ x)) (two k w a b)
two_made k w r {d} {v} {x} {a} {b} y z = elim (double_kind k w r) [
  | inl m ↦ rw (binder_part m.0, binder_timed m.0, append_assoc (letter k) (window_text true w) x) (bind_two (rw (binder_part m.0) at y) m.0 (window_made w m.1) (rw (binder_part m.0) at z))
  | inr e ↦ rw e.1 (each_in (λ n. Derives (left_part (part_of n)) d v a → Derives (right_part (part_of n)) d x b → Derives (part_of n) d (v ++ (sign n no_span ++ x)) (two n no_span a b)) e.0 (conjunction_more, (alternative_more, tt)) y z)
]

-- ---- the text

pub derived : (due : Part) (a : Tree) → Proper a → (d : ℕ) → enclosings_as due a ≤ d → Derives due d (text_as due a) a
unfolding text_as enclosings_as
derived due truth p d h = unary_stands due unary_true
derived due (predicate n) p d h = unary_stands due (unary_predicate (decimal_numeral n) p)
derived due (one k w a) p zero h = absurd (omega arith)
derived due (one k w a) p (suc d) h = unary_stands due (one_made k w p.0 (derived unary a p.1 d (omega arith)))
derived due (two k w a b) p d h =
    group due (part_of k) _ d h
    (λ e l. two_made k w p.0 (derived (left_part (part_of k)) a p.1 e (omega arith)) (derived (right_part (part_of k)) b p.2 e (omega arith)))
