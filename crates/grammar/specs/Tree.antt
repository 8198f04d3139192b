-- Requirements as trees: what a text says, before its nodes have numbers.
use Rattle.std.specs.Prelude.{ℕ, ◌+◌, Bool, true, false, cond, List}
use Rattle.text.specs.Bytes.{bytes}
use Rattle.tables.specs.declared.Span.{Span}

-- the brackets of a window: an end that is excluded has a round one, and its mark is 1
abbrev pub opens : Bool → List ℕ
opens excluded = cond excluded (bytes "(") (bytes "[")

abbrev pub closes : Bool → List ℕ
closes excluded = cond excluded (bytes ")") (bytes "]")

abbrev pub mark : Bool → ℕ
mark false = 0
mark true = 1

-- true, a predicate, or a kind with its window over one or two requirements
pub data Tree : Type 0 where
  truth : Tree
  predicate : ℕ → Tree
  one : ℕ → Span → Tree → Tree
  two : ℕ → Span → Tree → Tree → Tree

-- how many nodes a tree has; parentheses make none
unfoldable pub size : Tree → ℕ
size truth = 1
size (predicate p) = 1
size (one k w a) = size a + 1
size (two k w a b) = size a + size b + 1
