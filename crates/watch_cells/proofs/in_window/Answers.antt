-- No sample is later than a window without end reaches.
-- Assumes nothing.
use Rattle.watch_cells.proofs.Points.{inside_is}
use Rattle.watch_cells.proofs.in_window.Goals as goal

pub returns : goal.returns
returns c = inside_is c.args.node c.args.since c.requires
