-- Each place gives a pair of numbers.
-- Assumes nothing.
use mathlib.Core.Path.{◌∙◌}
use Rattle.std.proofs.Common.{rules}
use Rattle.requirement_lines.specs.declared.Place.{Place}
use Rattle.flat.proofs.Laid.{pairs_mapped}
use Rattle.flat.proofs.places_of.Goals as goal

pub returns : goal.returns
returns c =
    let m = c.map-pairs.ensures.items in
    c.copy_from_slice.ensures.after ∙ (c.as_flattened.ensures.value
    ∙ pairs_mapped (λ (p : Place). p.from) (λ p. p.to) c.args.places c.map-pairs.result (search rules) (λ i d e h. let k = m.at i d e (search rules) in search rules))
