-- The work slice of a verdict: two rows for each node, that of its strengthened margins and that of its strengthened negation's.
-- Assumes nothing.
use Rattle.std.specs.Prelude.{Bool, List, ℕ, ◌*◌, ◌/◌, ◌%◌, eqb, ℤ}
use Rattle.lists.specs.Fill.{fill_rows}
use Rattle.logic.specs.Strengthening.{strengthened}
use Rattle.recordings.specs.Card.{Card, rows}
use Rattle.recordings.specs.Margin.{margin}
use Rattle.tables.specs.declared.Node.{Node}
use Rattle.tables.specs.Tree.{tree}

-- node k's strengthened margin at sample i, or at false that of its negation
unfoldable pub strong : Card → ℕ → List Node → Bool → ℕ → ℕ → ℤ
strong c step ns b k i = margin c (strengthened step b (tree ns k)) i

-- row 2k has node k's strengthened margins, row 2k + 1 those of its negation
abbrev pub sign_of_row : ℕ → Bool
sign_of_row r = eqb (r % 2) 0

abbrev pub row_value : Card → ℕ → List Node → ℕ → ℕ → ℤ
row_value c step ns r i = strong c step ns (sign_of_row r) (r / 2) i

-- the cells of n nodes; later cells keep their contents
abbrev pub cells : Card → ℕ → List Node → ℕ → List ℤ → List ℤ
cells c step ns n w = fill_rows (rows c) (row_value c step ns) (2 * n) w
