-- What the part is filled with stands in the whole from the row's first cell on.
-- Assumes nothing.
use mathlib.Core.Path.{◌∙◌}
use Rattle.std.proofs.Common.{rules}
use Rattle.lists.proofs.Filled.{fill_part, fill_cong}
use Rattle.rows.proofs.true_row.Goals as goal

pub returns : goal.returns
returns c = fill_part _ _ _ _ c.requires (c.fill_same.ensures ∙ fill_cong _ _ _ _ _ (λ i h. search rules))
