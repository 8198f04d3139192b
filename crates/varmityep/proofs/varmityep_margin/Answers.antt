-- The flat numbers are the table and the predicates that the margin is asked of; its answer is what is written.
-- Assumes nothing.
use Rattle.std.proofs.Common.{◌≡◌, ap, ◌∙◌, [], ◌∷◌, length, rules}
use Rattle.margins.specs.Answers.{MarginOutcome, margin_outcome, margin_judged}
use Rattle.varmityep.specs.Places.{card_from, margin_handed}
use Rattle.flat.specs.Tables.{table_from}
use Rattle.varmityep.proofs.Handed.{mapped, margin_number, margin_places}
use Rattle.varmityep.proofs.varmityep_margin.Goals as goal
use Rattle.varmityep.proofs.varmityep_margin.Goals.{After-hand}

judged : (c : After-hand) → margin_outcome c.margin-margin.result ≡ margin_judged (card_from c.args.ranges.now c.args.ends.now c.args.channels c.args.scales.now c.args.times.now c.args.values.now) (table_from c.args.nodes.now c.args.count) (length c.args.work.now)
unfolding card_from
judged c = rw (c.table_from-table.ensures, c.setup_from.ensures) at c.margin-margin.ensures.answer

pub returns-clause-number : goal.returns-clause-number
returns-clause-number c =
    let m = mapped (λ m. m ∷ []) _ c.margin-margin.result c.map.result c.map.ensures.cases (λ x l p. search rules) in
    rw m at c.hand.ensures.number ∙ margin_number _ c.margin-margin.result ∙ ap (λ (o : MarginOutcome). o.number) (judged (goal.at.returns-clause-number c).After-hand)

pub returns-clause-work : goal.returns-clause-work
unfolding card_from
returns-clause-work c = rw (c.table_from-table.ensures, c.setup_from.ensures) at c.margin-margin.ensures.cells

pub returns-clause-res : goal.returns-clause-res
returns-clause-res c =
    let m = mapped (λ m. m ∷ []) _ c.margin-margin.result c.map.result c.map.ensures.cases (λ x l p. search rules) in
    rw m at c.hand.ensures.res ∙ margin_places c.args.res.now c.margin-margin.result ∙ ap (λ (o : MarginOutcome). margin_handed o c.args.res.now) (judged (goal.at.returns-clause-res c).After-hand)
