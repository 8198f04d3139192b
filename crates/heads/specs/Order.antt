-- The `p=` lines among others. `Order` in proofs/ shows that those of a head stand by rising number.
-- Assumes nothing.
use Rattle.std.specs.Prelude.{ℕ, cond, List, [], ◌∷◌}
use Rattle.predicate_lines.specs.Form.{is_predicate}

-- those of some lines that begin as a predicate's does
unfoldable pub predicates_among : List (List ℕ) → List (List ℕ)
predicates_among [] = []
predicates_among (l ∷ ls) = cond (is_predicate l) (l ∷ predicates_among ls) (predicates_among ls)
