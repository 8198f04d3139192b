-- The text of a requirement's tree: the grammar's productions, read from the tree to the bytes. Parentheses stand only where the grammar would otherwise read another tree or none.
-- Assumes nothing.
use Rattle.std.specs.Prelude.{ℕ, Bool, true, false, cond, List, [], ◌++◌, leb, ltb, eqb}
use Rattle.logic.specs.declared.Extremum.TheVariants.{Largest, Smallest}
use Rattle.text.specs.Bytes.{bytes}
use Rattle.printing.specs.Decimal.{decimal}
use Rattle.tables.specs.Kind.{operator, true_kind, predicate_kind}
use Rattle.tables.specs.declared.Operator.{Operator}
use Rattle.tables.specs.declared.Operator.TheVariants.{Constant, Named, Negated, Unknown, Joined, Binary, Unary}
use Rattle.tables.specs.Rules.{timed}
use Rattle.tables.specs.Tree.{NO_END}
use Rattle.tables.specs.declared.Span.{Span}
use Rattle.grammar.specs.declared.Part.{Part}
use Rattle.grammar.specs.declared.Part.TheVariants.{Alternative as alternative, Conjunction as conjunction, Bind as bind, Unary as unary}
use Rattle.grammar.specs.Operators.{letter}
use Rattle.grammar.specs.Tree.{opens, closes, Tree, truth, predicate, one, two}

-- ---- parts

-- which part of the grammar an operator makes: "or" an alternative, "and" a conjunction, until and release a bind, all else a unary
abbrev pub operator_part : Operator → Part
operator_part Constant = unary
operator_part Named = unary
operator_part Negated = unary
operator_part Unknown = unary
operator_part (Joined Largest) = alternative
operator_part (Joined Smallest) = conjunction
operator_part (Binary d e) = bind
operator_part (Unary d e) = unary

abbrev pub part_of : ℕ → Part
part_of k = operator_part (operator k)

-- the parts that stand left and right of the operator of a part: alternatives and conjunctions group to the left, a bind is not repeated
abbrev pub left_part : Part → Part
left_part alternative = alternative
left_part conjunction = conjunction
left_part bind = unary
left_part unary = unary

abbrev pub right_part : Part → Part
right_part alternative = conjunction
right_part conjunction = bind
right_part bind = unary
right_part unary = unary

-- each part may stand where one before it is due: a unary is a bind, a bind a conjunction, a conjunction an alternative
abbrev pub rank : Part → ℕ
rank alternative = 0
rank conjunction = 1
rank bind = 2
rank unary = 3

abbrev pub stands_as : Part → Part → Bool
stands_as due own = leb (rank due) (rank own)

-- ---- bytes

-- a part's text where a part is due: in parentheses, unless the one may stand as the other
abbrev pub grouped : Part → Part → List ℕ → List ℕ
grouped due own w = cond (stands_as due own) w (bytes "(" ++ (w ++ bytes ")"))

-- the brackets of a mark: square where the end is counted, round where it is excluded
abbrev pub opening_of : ℕ → List ℕ
opening_of mark = opens (ltb 0 mark)

abbrev pub closing_of : ℕ → List ℕ
closing_of mark = closes (ltb 0 mark)

-- what follows a window's comma
abbrev pub end_text : Span → List ℕ
end_text w = cond (eqb w.hi NO_END) (bytes "*]") (decimal w.hi ++ closing_of w.openhi)

-- the text of a window, nothing for a kind that has none
abbrev pub window_text : Bool → Span → List ℕ
window_text true w = opening_of w.openlo ++ (decimal w.lo ++ (bytes "," ++ end_text w))
window_text false w = []

-- an operator: its letter and its window
abbrev pub sign : ℕ → Span → List ℕ
sign k w = letter k ++ window_text (timed (operator k)) w

-- the text of a tree where a part is due
unfoldable pub text_as : Part → Tree → List ℕ
text_as due truth = letter true_kind
text_as due (predicate p) = letter predicate_kind ++ decimal p
text_as due (one k w a) = sign k w ++ text_as unary a
text_as due (two k w a b) =
    grouped due (part_of k) (text_as (left_part (part_of k)) a ++ (sign k w ++ text_as (right_part (part_of k)) b))

-- a requirement is an alternative
abbrev pub text_of : Tree → List ℕ
text_of a = text_as alternative a
