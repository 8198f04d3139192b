-- How many of `!`, `G`, `F` and `(` enclose one another in the text of a tree, counted on the tree: the parentheses that are written count. `proofs/Least` shows that no text of the tree has fewer.
-- Assumes nothing.
use Rattle.std.specs.Prelude.{ℕ, suc, ◌+◌, max, cond}
use Rattle.grammar.specs.declared.Part.{Part}
use Rattle.grammar.specs.declared.Part.TheVariants.{Alternative as alternative, Unary as unary}
use Rattle.grammar.specs.Tree.{Tree, truth, predicate, one, two}
use Rattle.spelling.specs.Text.{part_of, left_part, right_part, stands_as}

-- the pair that stands around a part where another is due, if one does
abbrev pub pair : Part → Part → ℕ
pair due own = cond (stands_as due own) 0 1

-- the part that a tree's text is, unless it stands in parentheses
abbrev pub tree_part : Tree → Part
tree_part truth = unary
tree_part (predicate p) = unary
tree_part (one k w a) = unary
tree_part (two k w a b) = part_of k

-- where a part is due
unfoldable pub enclosings_as : Part → Tree → ℕ
enclosings_as due truth = 0
enclosings_as due (predicate p) = 0
enclosings_as due (one k w a) = suc (enclosings_as unary a)
enclosings_as due (two k w a b) =
    max (enclosings_as (left_part (part_of k)) a) (enclosings_as (right_part (part_of k)) b) + pair due (part_of k)

abbrev pub enclosings : Tree → ℕ
enclosings a = enclosings_as alternative a
