-- Of a predicate that was accepted the numbers pass every test; of others nothing is asked for.
-- Assumes nothing.
use mathlib.Core.Path.{◌≡◌, sym, ap, ap₂, ◌∙◌, subst}
use native.Mathlib.Omega.{arith}
use borrow.Author.Tests.{not-true, not-false}
use Prim.Native.Nat.{ℕ, ◌+◌, ◌*◌, ◌%◌}
use lib.Dec.{T}
use lib.ListN.{get_or}
use lib.IntN.{ℤ, pos}
use mathlib.Core.List.{List}
use Rattle.numbers.proofs.Bits.{back, back_ok, back_is}
use Rattle.numbers.proofs.Parts.{holds}
use Rattle.points.proofs.Fits.{fit, in_back}
use Rattle.recordings.specs.declared.Predicate.{Predicate}
use Rattle.recordings.specs.declared.Range.{Range}
use Rattle.tables.specs.declared.Node.{Node}
use Rattle.predicates.specs.Predicates.{range_obeys}
use Rattle.predicates.proofs.Predicates.{range_ends, ends_pass}
use Rattle.refusals.proofs.First.{answers}
use Rattle.flat.specs.Predicates.{range_from}
use Rattle.watch_cells.specs.State.{predicate_in}
use Rattle.watch_cells.specs.Taking.{LeafAsks}
use Rattle.watch_cells.proofs.Points.{clash, distance_same}
use Rattle.watch_cells.proofs.distance_of.Goals as goal
use Rattle.watch_cells.proofs.distance_of.Goals.{After-range_from-range}

-- what a predicate's node reads
module _ {numbers : List ℕ} {cells values : List ℤ} {node : Node} {p : Predicate} {k : ℕ} (a : LeafAsks numbers cells values node p k) where
  named : node.left % 16 ≡ node.left
  named = omega (arith, a.numbered)

  predicate : predicate_in numbers cells (node.left % 16) ≡ p
  predicate = ap (predicate_in numbers cells) named ∙ a.predicate_is

  channel : get_or numbers (13 + 2 * (node.left % 16) + 1) 0 ≡ p.channel
  channel = ap (λ (q : Predicate). q.channel) predicate

  scale : get_or numbers (5 + get_or numbers (13 + 2 * (node.left % 16) + 1) 0 % 8) 0 ≡ k
  scale =
      let e : p.channel % 8 ≡ p.channel = omega (arith, a.known) in
      ap (λ (n : ℕ). get_or numbers (5 + n % 8) 0) channel ∙ ap (λ (n : ℕ). get_or numbers (5 + n) 0) e ∙ a.scale_is

range : (c : After-range_from-range) {p : Predicate} {k : ℕ} → LeafAsks c.args.numbers.now c.args.cells.now c.args.values.now c.args.node p k → c.range_from-range.result ≡ p.range
range c a =
    c.range_from-range.ensures
    ∙ ap₂ (range_from (get_or c.args.numbers.now (13 + 2 * (c.args.node.left % 16)) 0)) (back_ok _ c.range_from-arg-2-1.given) (back_ok _ c.range_from-arg-3-1.given)
    ∙ ap (λ (q : Predicate). q.range) (predicate a)

pub returns-then-values-channel : goal.returns-then-values-channel
returns-then-values-channel c = λ p k a. absurd (omega (arith, a.here, channel a, c.if-values-channel.true))

pub returns-then-scale-gt-MOST_SCALE : goal.returns-then-scale-gt-MOST_SCALE
returns-then-scale-gt-MOST_SCALE c = λ p k a. absurd (omega (arith, a.scaled.most, scale a, c.if-scale-gt-MOST_SCALE.true))

pub returns-then-not-range_obeys : goal.returns-then-not-range_obeys
returns-then-not-range_obeys c = λ p k a. absurd (clash (answers (subst (λ (r : Range). T (range_obeys r)) (sym (range (goal.at.returns-then-not-range_obeys c).After-range_from-range a)) (ends_pass p.range a.proper.ends))) (sym c.range_obeys.ensures ∙ not-true c.range_obeys.result c.if-not-range_obeys.true-raw))

pub scaled_distance-requires : goal.scaled_distance-requires
scaled_distance-requires c =
    (in_back (c.requires.each _ c.if-values-channel.false), range_ends c.range_from-range.result (holds (sym c.range_obeys.ensures ∙ not-false _ c.if-not-range_obeys.false-raw)), c.if-scale-gt-MOST_SCALE.false)

pub returns : goal.returns
returns c =
    λ p k a.
    let z = c.scaled_distance in
    back_ok z.result z.type_inv ∙ z.ensures ∙ distance_same (scale a) (range (goal.at.returns c).After-range_from-range a) (ap back (ap (λ (n : ℕ). get_or c.args.values.now n (pos 0)) (channel a)) ∙ back_is (fit a.in_range))
