-- What refuses the verdict is the answer; behind a judgement the margin, which asks for less, is taken too.
-- Assumes nothing.
use Rattle.std.proofs.Common.{◌≡◌, sym, ap, ◌∙◌, length, rules}
use Rattle.numbers.proofs.Bits.{back}
use Rattle.refusals.proofs.Number.{not_none, handed_on}
use Rattle.recordings.specs.Card.{card_of}
use Rattle.margins.specs.Answers.{MarginOutcome, margin_judged}
use Rattle.verdicts.specs.Answer.{VerdictOutcome, verdict_judged}
use Rattle.outcomes.specs.Outcome.{outcome_of}
use Rattle.answers.specs.Answers.{CELLS}
use Rattle.answers.proofs.Figures.{judge_refused, judge_accepted, margin_accepts}
use Rattle.answers.proofs.judge.Goals as goal
use Rattle.answers.proofs.judge.Goals.{In_ok-judged}

-- the cells are as many as the array has
margin_of : (c : In_ok-judged) → {m : MarginOutcome} → m ≡ margin_judged (card_of c.args.recording.now) c.args.table (length c.verdict.new.work) → m ≡ margin_judged (card_of c.args.recording.now) c.args.table CELLS
margin_of c h = let l : length c.verdict.new.work ≡ CELLS = search rules in h ∙ ap (margin_judged (card_of c.args.recording.now) c.args.table) l

pub returns-in_err-judged : goal.returns-in_err-judged
returns-in_err-judged c =
    let a = c.args in
    ap outcome_of (handed_on c.from_residual.result c.from_residual.ensures.1)
    ∙ judge_refused (card_of a.recording.now) a.table a.step a.drift a.filled _ (ap (λ (o : VerdictOutcome). o.number) c.in_err-judged.ensures.answer) (not_none _)

pub returns-in_err-margin : goal.returns-in_err-margin
returns-in_err-margin c =
    let a = c.args in
    let o : (verdict_judged (card_of a.recording.now) a.table a.step a.drift CELLS).number ≡ 0 = sym (ap (λ (o : VerdictOutcome). o.number) c.in_ok-judged.ensures.answer) in
    let m = margin_of (goal.at.returns-in_err-margin c).In_ok-judged c.in_err-margin.ensures.answer in
    absurd (not_none _ (ap (λ (x : MarginOutcome). x.number) m ∙ margin_accepts (card_of a.recording.now) a.table a.step a.drift a.filled o))

pub returns : goal.returns
returns c =
    let a = c.args in
    let j = c.in_ok-judged.judged in
    let e = c.in_ok-judged.ensures.answer in
    let h : back j.hold ≡ j.hold = search rules in
    let f : back j.fail ≡ j.fail = search rules in
    let p : back c.in_ok-margin.margin ≡ c.in_ok-margin.margin = search rules in
    let m = margin_of (goal.at.returns c).In_ok-judged c.in_ok-margin.ensures.answer in
    judge_accepted (card_of a.recording.now) a.table a.step a.drift a.filled (sym (ap (λ (o : VerdictOutcome). o.number) e)) _ _ _ _
    (p ∙ ap (λ (x : MarginOutcome). x.margin) m)
    (h ∙ ap (λ (o : VerdictOutcome). o.hold) e)
    (f ∙ ap (λ (o : VerdictOutcome). o.fail) e)
    (ap (λ (o : VerdictOutcome). o.verdict) e)
