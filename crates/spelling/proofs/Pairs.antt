-- Where a part is due, a tree's text is its text alone, or that in one pair of parentheses: so the enclosings and the bytes of every part come from those of the tree. A looser part asks for no more pairs.
-- Assumes nothing.
use mathlib.Core.Path.{◌≡◌, refl, sym, ap, ◌∙◌}
use mathlib.Core.List.{List, ◌++◌, append-nil}
use mathlib.Core.Bool.{true}
use Prim.Native.Nat.{ℕ, ◌+◌, ◌*◌, ◌≤◌}
use native.Mathlib.Omega.{arith}
use lib.ListN.{length, length-append}
use borrow.Author.Tests.{le-leb, leb-true}
use Rattle.text.specs.Bytes.{bytes}
use Rattle.text.proofs.Tests.{by_test}
use Rattle.grammar.specs.declared.Part.{Part}
use Rattle.grammar.specs.declared.Part.TheVariants.{Alternative as alternative, Conjunction as conjunction, Bind as bind, Unary as unary}
use Rattle.grammar.specs.Tree.{Tree, truth, predicate, one, two}
use Rattle.spelling.specs.Text.{rank, part_of, stands_as, grouped, text_as, text_of}
use Rattle.spelling.specs.Pieces.{opening, closing}
use Rattle.spelling.specs.Enclosings.{pair, tree_part, enclosings_as, enclosings}

-- ---- which parts stand as which

pub stands_unary : (due : Part) → stands_as due unary ≡ true
stands_unary alternative = refl
stands_unary conjunction = refl
stands_unary bind = refl
stands_unary unary = refl

pub stands_alternative : (own : Part) → stands_as alternative own ≡ true
stands_alternative own = le-leb 0 (rank own) (omega arith)

-- ---- the pair

-- written one after the other: what opens it, the part, what closes it
pub grouped_pieces : (due own : Part) (w : List ℕ) → grouped due own w ≡ opening due own ++ (w ++ closing due own)
grouped_pieces due own w = by_test (stands_as due own) (λ e. rw e (sym (append-nil w))) (λ e. rw e refl)

pub pair_one : (due own : Part) → pair due own ≤ 1
pair_one due own = by_test (stands_as due own) (λ e. rw e (omega arith)) (λ e. rw e (omega arith))

pub pair_looser : (due tight own : Part) → rank due ≤ rank tight → pair due own ≤ pair tight own
pair_looser due tight own h = by_test (stands_as tight own) (λ e. rw (le-leb (rank due) (rank own) (omega (arith, leb-true (rank tight) (rank own) e)), e) (omega arith)) (λ e. rw e (pair_one due own))

-- ---- of a tree, from the tree's own

pub text_own : (due : Part) (a : Tree) → text_as due a ≡ grouped due (tree_part a) (text_of a)
unfolding text_as
text_own due truth = rw (stands_unary due) refl
text_own due (predicate p) = rw (stands_unary due) refl
text_own due (one k w a) = rw (stands_unary due) refl
text_own due (two k w a b) = rw (stands_alternative (part_of k)) refl

pub enclosings_own : (due : Part) (a : Tree) → enclosings_as due a ≡ enclosings a + pair due (tree_part a)
unfolding enclosings_as
enclosings_own due truth = rw (stands_unary due) refl
enclosings_own due (predicate p) = rw (stands_unary due) refl
enclosings_own due (one k w a) = rw (stands_unary due) (omega arith)
enclosings_own due (two k w a b) = rw (stands_alternative (part_of k)) (omega arith)

pub grouped_long : (due own : Part) (w : List ℕ) → length (grouped due own w) ≡ length w + 2 * pair due own
grouped_long due own w = by_test (stands_as due own) (λ e. rw e (omega arith)) (λ e. rw (e, length-append w (bytes ")")) (omega arith))

pub length_own : (due : Part) (a : Tree) → length (text_as due a) ≡ length (text_of a) + 2 * pair due (tree_part a)
length_own due a = ap length (text_own due a) ∙ grouped_long due (tree_part a) (text_of a)
