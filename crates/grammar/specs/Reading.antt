-- How the readers read the grammar: each part from a place of a text on, to its tree and the place after it.
use Rattle.std.specs.Prelude.{ℕ, zero, suc, ◌+◌, List, [], ◌∷◌, true, false, cond, Option, None, length, leb, eqb}
use Rattle.text.specs.Bytes.{bytes}
use Rattle.text.specs.Mark.{mark_at, after, read}
use Rattle.text.specs.declared.Read.{Read}
use Rattle.text.specs.declared.Field.{Field}
use Rattle.text.specs.declared.Field.TheVariants.{Number, Bad as Field_as_Bad}
use Rattle.text.specs.Number.{number_at, field_at, after_number}
use Rattle.grammar.specs.declared.Part.{Part}
use Rattle.grammar.specs.declared.Part.TheVariants.{Alternative, Conjunction, Bind, Unary}
use Rattle.grammar.specs.declared.Operator.{Operator}
use Rattle.grammar.specs.declared.Operator.TheVariants.{Absent, Over, Bad}
use Rattle.tables.specs.Kind.{true_kind, predicate_kind, not_kind, and_kind, or_kind}
use Rattle.grammar.specs.Operators.{letter, binders, prefixes}
use Rattle.tables.specs.declared.Span.{Span}
use Rattle.tables.specs.Tree.{NODES, LONGEST, NO_END, marked, no_span}
use Rattle.grammar.specs.Grammar.{ENCLOSINGS}
use Rattle.grammar.specs.Tree.{opens, closes, Tree, truth, predicate, one, two, size}

-- the bracket at an end of a window, and the mark that it stands for: 0 where the end is counted, 1 where it is excluded
unfoldable pub bracket_at : List ℕ → List ℕ → List ℕ → ℕ → Field ℕ
bracket_at counted excluded s at = after (mark_at counted s at) (λ n. Number 0 n) (after (mark_at excluded s at) (λ n. Number 1 n) Field_as_Bad)

-- the high end of a window, after its comma: `*]`, or a number and its bracket
unfoldable pub high_end_at : ℕ → ℕ → List ℕ → ℕ → Option (Read Span)
high_end_at lo openlo s at =
    after (mark_at (bytes "*]") s at)
    (λ next. read (marked lo NO_END openlo 0) next)
    (after_number (number_at s at LONGEST)
    (λ hi close. after_number (bracket_at (closes false) (closes true) s close)
    (λ openhi next. cond (leb (lo + openlo + openhi) hi) (read (marked lo hi openlo openhi) next) None)
    None)
    None)

-- a window
unfoldable pub window_at : List ℕ → ℕ → Option (Read Span)
window_at s at =
    after_number (bracket_at (opens false) (opens true) s at)
    (λ openlo first. after_number (number_at s first LONGEST)
    (λ lo comma. after (mark_at (bytes ",") s comma) (λ end. high_end_at lo openlo s end) None)
    None)
    None

-- a kind over a window
abbrev pub over_window : ℕ → Option (Read Span) → Operator
over_window k w = after w (λ r. Over k r.value r.next) Bad

-- the letter of a kind, and its window
unfoldable pub timed_at : ℕ → List ℕ → ℕ → Operator
timed_at k s at = after (mark_at (letter k) s at) (λ n. over_window k (window_at s n)) Absent

-- the first operator unless it is absent, then the second
abbrev pub or_else : Operator → Operator → Operator
or_else Absent y = y
or_else (Over k r n) y = Over k r n
or_else Bad y = Bad

-- whichever of some kinds with a window stands at a place
unfoldable pub timed_among : List ℕ → List ℕ → ℕ → Operator
timed_among [] s at = Absent
timed_among (k ∷ ks) s at = or_else (timed_at k s at) (timed_among ks s at)

-- what binds the unary before a place to the one after it
abbrev pub binder_at : List ℕ → ℕ → Operator
binder_at s at = timed_among binders s at

-- what a unary begins with, where it is an operator
abbrev pub prefix_at : List ℕ → ℕ → Operator
prefix_at s at = after (mark_at (letter not_kind) s at) (λ n. Over not_kind no_span n) (timed_among prefixes s at)

-- a tree and the place after it, or none; it is no `Option`, since its clauses name both at once, and no clause takes a record apart
pub data Reading : Type 0 where
  got : Tree → ℕ → Reading
  none : Reading

abbrev pub on_got : Reading → (Tree → ℕ → Reading) → Reading
on_got (got a n) f = f a n
on_got none f = none

-- how a part of the grammar reads a text from a place on
abbrev pub Reads : Type 0
Reads = List ℕ → ℕ → Reading

-- `T`, or `p` with 0 to 15
unfoldable pub leaf_at : Reads
leaf_at s at =
    after (mark_at (letter true_kind) s at) (λ n. got truth n)
    (after_number (field_at (letter predicate_kind) s at 15) (λ p n. got (predicate p) n) none)

-- any count of the letter of a kind and what `part` reads, grouped to the left; a turn takes a byte at least, so as many turns as bytes are enough
unfoldable pub more_turns : ℕ → Reads → ℕ → List ℕ → Reading → Reading
more_turns zero part k s x = x
more_turns (suc f) part k s none = none
more_turns (suc f) part k s (got a n) =
    after (mark_at (letter k) s n) (λ m. more_turns f part k s (on_got (part s m) (λ b e. got (two k no_span a b) e))) (got a n)

abbrev pub more : Reads → ℕ → List ℕ → Reading → Reading
more part k s x = more_turns (length s) part k s x

-- a unary, and what binds it to another
unfoldable pub bind_by : Reads → List ℕ → Tree → ℕ → Operator → Reading
bind_by part s a n Absent = got a n
bind_by part s a n (Over k r m) = on_got (part s m) (λ b e. got (two k r a b) e)
bind_by part s a n Bad = none

abbrev pub bind_of : Reads → Reads
bind_of part s at = on_got (part s at) (λ a n. bind_by part s a n (binder_at s n))

abbrev pub conjunction_of : Reads → Reads
conjunction_of part s at = more (bind_of part) and_kind s (bind_of part s at)

abbrev pub alternative_of : Reads → Reads
alternative_of part s at = more (conjunction_of part) or_kind s (conjunction_of part s at)

-- a reading that a parenthesis closes
abbrev pub closing : List ℕ → Reading → Reading
closing s x = on_got x (λ a n. after (mark_at (bytes ")") s n) (λ m. got a m) none)

-- a unary by the operator before it; `deeper` reads inside one enclosing more
unfoldable pub unary_by : Reads → List ℕ → ℕ → Operator → Reading
unary_by deeper s at Absent = leaf_at s at
unary_by deeper s at (Over k r n) = on_got (deeper s n) (λ a e. got (one k r a) e)
unary_by deeper s at Bad = none

abbrev pub enclosing : Reads → Reads
enclosing deeper s at = after (mark_at (bytes "(") s at) (λ n. closing s (alternative_of deeper s n)) (unary_by deeper s at (prefix_at s at))

-- a unary with at most d enclosings one inside another
unfoldable pub unary_at : ℕ → Reads
unary_at zero s at = leaf_at s at
unary_at (suc d) s at = enclosing (unary_at d) s at

abbrev pub bind_at : ℕ → Reads
bind_at d = bind_of (unary_at d)

abbrev pub conjunction_at : ℕ → Reads
conjunction_at d = conjunction_of (unary_at d)

abbrev pub alternative_at : ℕ → Reads
alternative_at d = alternative_of (unary_at d)

-- a part of the grammar with at most d enclosings one inside another
abbrev pub part_at : Part → ℕ → Reads
part_at Alternative = alternative_at
part_at Conjunction = conjunction_at
part_at Bind = bind_at
part_at Unary = unary_at

-- a reading that ends with the text and has at most 64 nodes
abbrev pub whole : List ℕ → Reading → Reading
whole s x = on_got x (λ a n. cond (eqb n (length s)) (cond (leb (size a) NODES) (got a n) none) none)

-- the tree of a whole text
unfoldable pub requirement_tree : List ℕ → Reading
requirement_tree s = whole s (alternative_at ENCLOSINGS s 0)
