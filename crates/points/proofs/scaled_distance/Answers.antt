-- Where the range is not free, the product fits.
-- Assumes nothing.
use mathlib.Core.Path.{sym, ◌∙◌}
use Rattle.std.proofs.Common.{rules}
use Rattle.points.proofs.Fits.{times_fits}
use Rattle.points.proofs.scaled_distance.Goals as goal

pub product-requires : goal.product-requires
product-requires c =
    let fits = times_fits c.args.scale c.requires.2 c.args.range c.args.value c.requires.1 c.requires.0 (sym c.is_free.ensures ∙ c.if-is_free.false) in
    search rules
