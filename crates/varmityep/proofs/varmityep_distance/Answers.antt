-- The four numbers are the predicate that the distance is asked of; its answer is what is written.
-- Assumes nothing.
use Rattle.std.proofs.Common.{◌≡◌, ap, ◌∙◌, [], ◌∷◌, rules}
use Rattle.numbers.proofs.Bits.{back}
use Rattle.distances.specs.Answers.{DistanceOutcome, distance_outcome, distance_judged}
use Rattle.varmityep.specs.Places.{predicate_of, distance_handed}
use Rattle.varmityep.proofs.Handed.{mapped, distance_number, distance_places}
use Rattle.varmityep.proofs.varmityep_distance.Goals as goal
use Rattle.varmityep.proofs.varmityep_distance.Goals.{After-hand}

judged : (c : After-hand) → distance_outcome c.distance-distance.result ≡ distance_judged (predicate_of c.args.range c.args.channel c.args.lo c.args.hi) c.args.scale c.args.value
judged c =
    let l : back c.args.lo ≡ c.args.lo = search rules in
    let h : back c.args.hi ≡ c.args.hi = search rules in
    let v : back c.args.value ≡ c.args.value = search rules in
    let r = rw (l, h) at c.range_from.ensures in
    rw (r, v) at c.distance-distance.ensures

pub returns-clause-number : goal.returns-clause-number
returns-clause-number c =
    let m = mapped (λ d. d ∷ []) _ c.distance-distance.result c.map.result c.map.ensures.cases (λ x l p. search rules) in
    rw m at c.hand.ensures.number ∙ distance_number _ c.distance-distance.result ∙ ap (λ (o : DistanceOutcome). o.number) (judged (goal.at.returns-clause-number c).After-hand)

pub returns-clause-res : goal.returns-clause-res
returns-clause-res c =
    let m = mapped (λ d. d ∷ []) _ c.distance-distance.result c.map.result c.map.ensures.cases (λ x l p. search rules) in
    rw m at c.hand.ensures.res ∙ distance_places c.args.res.now c.distance-distance.result ∙ ap (λ (o : DistanceOutcome). distance_handed o c.args.res.now) (judged (goal.at.returns-clause-res c).After-hand)
