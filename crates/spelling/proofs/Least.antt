-- No text of a tree is shorter than the one that is written, or has fewer enclosings: by one induction on the derivation. A production that passes a part on, or puts it in parentheses, changes the tree's due part alone, which the pair of parentheses accounts for.
-- Assumes nothing.
use mathlib.Core.List.{List, ◌++◌}
use mathlib.Core.Bool.{true}
use Prim.Native.Nat.{ℕ, suc, ◌+◌, ◌≤◌, max}
use native.Mathlib.Omega.{arith}
use lib.ListN.{length, length-append}
use Rattle.text.specs.Bytes.{bytes}
use Rattle.tables.specs.Kind.{and_kind, or_kind}
use Rattle.printing.proofs.Numerals.{numeral_decimal}
use Rattle.grammar.specs.declared.Part.{Part}
use Rattle.grammar.specs.declared.Part.TheVariants.{Alternative as alternative, Conjunction as conjunction, Bind as bind, Unary as unary}
use Rattle.grammar.specs.Operators.{letter}
use Rattle.grammar.specs.Tree.{Tree}
use Rattle.grammar.specs.Grammar.{Derives, alternative_one, alternative_more, conjunction_one, conjunction_more, bind_one, bind_two, unary_not, unary_timed, unary_true, unary_predicate, unary_group}
use Rattle.spelling.specs.Text.{rank, window_text, text_as}
use Rattle.spelling.specs.Enclosings.{tree_part, enclosings_as}
use Rattle.spelling.proofs.Pairs.{pair_one, pair_looser, enclosings_own, length_own}
use Rattle.spelling.proofs.Windows.{window_one}
use Rattle.spelling.proofs.Productions.{prefix_timed, binder_timed, binder_part}

-- the text and the enclosings of a tree where a part is due are within those of a derivation
abbrev Within : Part → ℕ → List ℕ → Tree → Type 0
Within p d w a = (enclosings_as p a ≤ d) × (length (text_as p a) ≤ length w)

looser : (due tight : Part) (d : ℕ) (w : List ℕ) (a : Tree) → rank due ≤ rank tight → Within tight d w a → Within due d w a
looser due tight d w a h i =
    let p = pair_looser due tight (tree_part a) h in
    (omega (arith, enclosings_own due a, enclosings_own tight a), omega (arith, length_own due a, length_own tight a))

enclosed : (d : ℕ) (w : List ℕ) (a : Tree) → Within alternative d w a → Within unary (suc d) (bytes "(" ++ (w ++ bytes ")")) a
enclosed d w a i =
    let p = pair_one unary (tree_part a) in
    (omega (arith, enclosings_own unary a), rw (length-append w (bytes ")")) (omega (arith, length_own unary a)))

-- an operator x between two parts, in no parentheses
between : (d m n : ℕ) (v w x y z : List ℕ) → (m ≤ d) × (length y ≤ length v) → (n ≤ d) × (length z ≤ length w) → (max m n + 0 ≤ d) × (length (y ++ (x ++ z)) ≤ length (v ++ (x ++ w)))
between d m n v w x y z i j =
    (omega arith, rw (length-append y (x ++ z), length-append v (x ++ w), length-append x z, length-append x w) (omega arith))

pub least : {p : Part} {d : ℕ} {w : List ℕ} {a : Tree} → Derives p d w a → (enclosings_as p a ≤ d) × (length (text_as p a) ≤ length w)
unfolding text_as enclosings_as
least (alternative_one {d} {w} {a} x) = looser alternative conjunction d w a (omega arith) (least x)
least (alternative_more {d} {v} {w} {a} {b} x y) = between d (enclosings_as alternative a) (enclosings_as conjunction b) v w (letter or_kind) (text_as alternative a) (text_as conjunction b) (least x) (least y)
least (conjunction_one {d} {w} {a} x) = looser conjunction bind d w a (omega arith) (least x)
least (conjunction_more {d} {v} {w} {a} {b} x y) = between d (enclosings_as conjunction a) (enclosings_as bind b) v w (letter and_kind) (text_as conjunction a) (text_as bind b) (least x) (least y)
least (bind_one {d} {w} {a} x) = looser bind unary d w a (omega arith) (least x)
least (bind_two {d} {k} {v} {x} {w} {r} {a} {b} l m z y) =
    rw (binder_part m, binder_timed m, window_one z)
    (between d (enclosings_as unary a) (enclosings_as unary b) v w (letter k ++ window_text true r) (text_as unary a) (text_as unary b) (least l) (least y))
least (unary_not {d} {w} {a} x) = let i = least x in (omega arith, omega arith)
least (unary_timed {d} {k} {x} {w} {r} {a} m z y) =
    let i = least y in
    (omega arith, rw (prefix_timed m, window_one z, length-append (window_text true r) (text_as unary a), length-append (window_text true r) w) (omega arith))
least (unary_true {d}) = (omega arith, omega arith)
least (unary_predicate {d} {p} {w} n l) = (omega arith, rw (← numeral_decimal n) (omega arith))
least (unary_group {d} {w} {a} x) = enclosed d w a (least x)
