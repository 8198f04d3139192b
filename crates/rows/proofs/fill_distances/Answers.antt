-- The loop's invariant is the contract for the first i places.
-- Assumes nothing.
use Prim.Native.Nat.{◌+◌, ◌*◌}
use native.Mathlib.Omega.{arith}
use native.Mathlib.Nat.{mul-le-mul_right}
use Rattle.std.proofs.Common.{rules, get_or, pos}
use Rattle.lists.proofs.Filled.{fill_none}
use Rattle.numbers.proofs.Parts.{within_neg}
use Rattle.points.proofs.Fits.{top_fits, scaled_within}
use Rattle.rows.proofs.Kept.{fill_more}
use Rattle.rows.proofs.fill_distances.Goals as goal

pub loop-i-init : goal.loop-i-init
loop-i-init c = fill_none _ _ _

pub signed_of-requires : goal.signed_of-requires
signed_of-requires c =
    let leaf = c.requires.leaf in
    let i = c.loop-i.i * c.args.channels + c.args.predicate.channel in
    let value = leaf.in_range.each i (omega (arith, mul-le-mul_right c.args.channels c.loop-i-test.true)) in
    let fits = top_fits (within_neg (scaled_within c.args.scale leaf.small_scale c.args.predicate.range (get_or c.args.values.now i (pos 0)) leaf.ends value)) in
    search rules

pub loop-i-preserved : goal.loop-i-preserved
loop-i-preserved c = fill_more _ _ _ c.loop-i.invariant (search rules)
