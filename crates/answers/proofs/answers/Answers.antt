-- The sheet first, then its requirements.
-- Assumes nothing.
use Rattle.std.proofs.Common.{sym, ap, subst, ◌∙◌, List}
use Rattle.refusals.proofs.Number.{not_none, handed_on}
use Rattle.sheets.specs.Form.{SheetAnswer}
use Rattle.outcomes.specs.declared.Outcome.{Outcome}
use Rattle.outcomes.specs.Outcome.{text_outcome_of, text_refused_by}
use Rattle.answers.specs.Answers.{all_answered, Placed}
use Rattle.answers.proofs.Wholes.{answers_refused, answers_read, placed}
use Rattle.answers.proofs.answers.Goals as goal

pub returns-in_err-sheet : goal.returns-in_err-sheet
returns-in_err-sheet c =
    let n = ap (λ (x : SheetAnswer). x.number) c.in_err-sheet.ensures in
    ap text_outcome_of (handed_on c.from_residual.result c.from_residual.ensures.1)
    ∙ ap text_refused_by n
    ∙ answers_refused _ (λ z. not_none _ (n ∙ z))

pub answer_all-requires : goal.answer_all-requires
answer_all-requires c =
    let e = c.in_ok-sheet.ensures in
    subst (Placed c.args.text.now) (sym e) (placed _ (ap (λ (x : SheetAnswer). x.number) (sym e)))

pub returns : goal.returns
returns c =
    let e = c.in_ok-sheet.ensures in
    ap (λ (all : List Outcome). record { number = 0; entries = all }) c.answer_all.ensures
    ∙ (ap (all_answered c.args.text.now) e
    ∙ answers_read c.args.text.now (ap (λ (x : SheetAnswer). x.number) (sym e)))
