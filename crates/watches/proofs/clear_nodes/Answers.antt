-- What the part is filled with stands in the whole from the nodes' cells on.
-- Assumes nothing.
use native.Mathlib.Omega.{arith}
use Rattle.lists.proofs.Filled.{fill_part}
use Rattle.watches.proofs.clear_nodes.Goals as goal

pub returns : goal.returns
returns c = fill_part _ _ _ _ (omega (arith, c.requires)) c.fill_same.ensures
