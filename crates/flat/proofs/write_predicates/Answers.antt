-- Each predicate gives a pair of numbers and a pair of ends.
-- Assumes nothing.
use mathlib.Core.Path.{◌∙◌}
use Rattle.std.proofs.Common.{rules}
use Rattle.recordings.specs.declared.Predicate.{Predicate}
use Rattle.flat.specs.Predicates.{range_number, lo_of, hi_of}
use Rattle.flat.proofs.Laid.{pairs_mapped}
use Rattle.flat.proofs.write_predicates.Goals as goal

pub returns : goal.returns
returns c =
    let n = c.map-numbers.ensures.items in
    let v = c.map-values.ensures.items in
    let numbers = c.as_flattened.ensures.value
    ∙ pairs_mapped (λ (p : Predicate). range_number p.range) (λ p. p.channel) c.args.predicates c.map-numbers.result (search rules) (λ i d e h. let k = n.at i d e (search rules) in search rules) in
    let ends = c.as_flattened-2.ensures.value
    ∙ pairs_mapped (λ (p : Predicate). lo_of p.range) (λ p. hi_of p.range) c.args.predicates c.map-values.result (search rules) (λ i d e h. let k = v.at i d e (search rules) in search rules) in
    record { ranges = rw numbers at c.write_front.ensures; ends = rw ends at c.write_front-2.ensures }
