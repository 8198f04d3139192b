-- The zeros stay where a scale is out of range, else the slice's first eight are written over them.
-- Assumes nothing.
use mathlib.Core.Path.{refl, sym, ◌∙◌}
use Rattle.std.proofs.Common.{rules, tests, length}
use Rattle.lists.proofs.Chains.{all_of_slice}
use Rattle.scales.specs.Scales.{scale_obeys}
use Rattle.flat.specs.Scales.{each_obeys, scales_from}
use Rattle.flat.proofs.scales_from.Goals as goal

pub returns-then-all : goal.returns-then-all
unfolding scales_from each_obeys
returns-then-all c =
    let e = all_of_slice scale_obeys 0 c.args.scales.now (length c.args.scales.now) c.all.ensures.ran (cc) refl (λ x b q k. search (rules, tests)) in
    rw (sym e ∙ c.if-all.true, c.write_front.ensures) refl

pub returns-else-all : goal.returns-else-all
unfolding scales_from each_obeys
returns-else-all c =
    let e = all_of_slice scale_obeys 0 c.args.scales.now (length c.args.scales.now) c.all.ensures.ran (cc) refl (λ x b q k. search (rules, tests)) in
    rw (sym e ∙ c.if-all.false) refl
