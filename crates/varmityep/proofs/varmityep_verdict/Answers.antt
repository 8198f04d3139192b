-- The flat numbers are the table and the predicates that the verdict is asked of; its answer is what is written.
-- Assumes nothing.
use Rattle.std.proofs.Common.{◌≡◌, ap, ◌∙◌, [], ◌∷◌, length, rules}
use Rattle.verdicts.specs.Answer.{VerdictOutcome, verdict_outcome, verdict_judged}
use Rattle.varmityep.specs.Places.{card_from, verdict_number, verdict_handed}
use Rattle.flat.specs.Tables.{table_from}
use Rattle.varmityep.proofs.Handed.{mapped, verdict_numbered, verdict_places}
use Rattle.varmityep.proofs.varmityep_verdict.Goals as goal
use Rattle.varmityep.proofs.varmityep_verdict.Goals.{After-hand}

judged : (c : After-hand) → verdict_outcome c.verdict-judged.result ≡ verdict_judged (card_from c.args.ranges.now c.args.ends.now c.args.channels c.args.scales.now c.args.times.now c.args.values.now) (table_from c.args.nodes.now c.args.count) c.args.step c.args.drift (length c.args.work.now)
unfolding card_from
judged c = rw (c.table_from-table.ensures, c.setup_from.ensures) at c.verdict-judged.ensures.answer

pub returns-clause-number : goal.returns-clause-number
returns-clause-number c =
    let m = mapped (λ j. verdict_number j.verdict ∷ j.hold ∷ j.fail ∷ []) _ c.verdict-judged.result c.map.result c.map.ensures.cases (λ x l p. search rules) in
    rw m at c.hand.ensures.number ∙ verdict_numbered _ c.verdict-judged.result ∙ ap (λ (o : VerdictOutcome). o.number) (judged (goal.at.returns-clause-number c).After-hand)

pub returns-clause-work : goal.returns-clause-work
unfolding card_from
returns-clause-work c = rw (c.table_from-table.ensures, c.setup_from.ensures) at c.verdict-judged.ensures.cells

pub returns-clause-res : goal.returns-clause-res
returns-clause-res c =
    let m = mapped (λ j. verdict_number j.verdict ∷ j.hold ∷ j.fail ∷ []) _ c.verdict-judged.result c.map.result c.map.ensures.cases (λ x l p. search rules) in
    rw m at c.hand.ensures.res ∙ verdict_places c.args.res.now c.verdict-judged.result ∙ ap (λ (o : VerdictOutcome). verdict_handed o c.args.res.now) (judged (goal.at.returns-clause-res c).After-hand)
