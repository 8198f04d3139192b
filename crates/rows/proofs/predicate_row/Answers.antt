-- What the part is filled with stands in the whole from the row's first cell on.
-- Assumes nothing.
use Rattle.lists.proofs.Filled.{fill_part}
use Rattle.rows.proofs.predicate_row.Goals as goal

pub returns : goal.returns
returns c = fill_part _ _ _ _ c.requires.rows_in_bounds c.fill_distances.ensures
