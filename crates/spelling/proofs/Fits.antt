-- The written text is a requirement exactly where some text of the tree is one: it has the fewest enclosings, and every text of the tree has the same nodes. The reader reads it to the tree, and it has a bounded length.
-- Assumes nothing.
use mathlib.Core.Path.{◌≡◌}
use mathlib.Core.List.{List}
use mathlib.Core.Bool.{Bool, true, false}
use Prim.Native.Nat.{ℕ, ◌*◌, ◌≤◌}
use native.Mathlib.Omega.{arith}
use lib.ListN.{length, length-append}
use Rattle.tables.specs.Kind.{operator}
use Rattle.tables.specs.Rules.{timed, EndsRules}
use Rattle.tables.specs.Tree.{NODES}
use Rattle.printing.proofs.Lengths.{decimal_ten}
use Rattle.tables.specs.declared.Span.{Span}
use Rattle.grammar.specs.declared.Part.{Part}
use Rattle.grammar.specs.declared.Part.TheVariants.{Alternative as alternative, Unary as unary}
use Rattle.grammar.specs.Tree.{Tree, truth, predicate, one, two, size}
use Rattle.grammar.specs.Grammar.{ENCLOSINGS, Requires}
use Rattle.requirements.specs.Requirement.{accepted, requirement_of}
use Rattle.requirements.proofs.Answers.{answer_complete}
use Rattle.requirements.proofs.Rules.{Proper, derives_proper}
use Rattle.spelling.specs.Text.{part_of, left_part, right_part, window_text, sign, text_as, text_of}
use Rattle.spelling.specs.Enclosings.{enclosings}
use Rattle.spelling.specs.Room.{NODE_TEXT, LONGEST_TEXT}
use Rattle.spelling.proofs.Pairs.{pair_one, grouped_long}
use Rattle.spelling.proofs.Windows.{window_long}
use Rattle.spelling.proofs.Derived.{derived}
use Rattle.spelling.proofs.Least.{least}

-- ---- the limits

pub fits : (a : Tree) → Proper a → size a ≤ NODES → enclosings a ≤ ENCLOSINGS → Requires (text_of a) a
fits a p n e = record { derives = derived alternative a p ENCLOSINGS e; nodes = n }

-- of any text: so where the written text goes beyond the limits, no text of the tree is a requirement
pub fits_only : (s : List ℕ) (a : Tree) → Requires s a → (size a ≤ NODES) × (enclosings a ≤ ENCLOSINGS)
fits_only s a r = (r.nodes, (least r.derives).0)

pub required_text : (s : List ℕ) (a : Tree) → Requires s a → Requires (text_of a) a
required_text s a r = fits a (derives_proper r.derives) r.nodes (least r.derives).0

-- ---- the reader

pub text_read : (a : Tree) → Requires (text_of a) a → requirement_of (text_of a) ≡ accepted a
text_read a r = answer_complete (text_of a) a r

-- ---- the length

window_short : (t : Bool) (w : Span) → EndsRules t w → length (window_text t w) ≤ 23
window_short true w e = window_long w e
window_short false w e = omega arith

sign_long : (k : ℕ) (w : Span) → EndsRules (timed (operator k)) w → length (sign k w) ≤ 24
sign_long k w e = omega (arith, window_short (timed (operator k)) w e)

pub text_long : (due : Part) (a : Tree) → Proper a → length (text_as due a) ≤ NODE_TEXT * size a
unfolding text_as size
text_long due truth p = omega arith
text_long due (predicate n) p = omega (arith, decimal_ten n (omega arith))
text_long due (one k w a) p =
    let s = sign_long k w p.0.ends in
    let i = text_long unary a p.1 in
    rw (length-append (sign k w) (text_as unary a)) (omega arith)
text_long due (two k w a b) p =
    let s = sign_long k w p.0.ends in
    let i = text_long (left_part (part_of k)) a p.1 in
    let j = text_long (right_part (part_of k)) b p.2 in
    let q = pair_one due (part_of k) in
    rw (grouped_long due (part_of k), length-append (text_as (left_part (part_of k)) a), length-append (sign k w) (text_as (right_part (part_of k)) b)) (omega arith)

pub text_room : (a : Tree) → Requires (text_of a) a → length (text_of a) ≤ LONGEST_TEXT
text_room a r = omega (arith, text_long alternative a (derives_proper r.derives), r.nodes)
