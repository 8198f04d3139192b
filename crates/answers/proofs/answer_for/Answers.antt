-- The requirement first; then the row reader's answer decides whether no rows are judged or those that it stored.
-- Assumes nothing.
use Rattle.std.proofs.Common.{◌≡◌, refl, sym, ap, ◌∙◌, ◌≤◌, ◌*◌, Result, Ok, Err, arith, rules}
use Rattle.std.specs.Result.{result_and}
use lib.Seq.{length-take-le}
use Rattle.refusals.specs.declared.Refusal.{Refusal}
use Rattle.refusals.specs.declared.Refusal.TheVariants.{Samples}
use Rattle.refusals.specs.Number.{number, number_of}
use Rattle.refusals.proofs.Number.{not_none, handed_on}
use Rattle.requirements.specs.Requirement.{Requirement, outcome as requirement_outcome, requirement_of}
use Rattle.sheet_rows.specs.Answer.{Answer as RowsAnswer, outcome as rows_outcome, answer_of}
use Rattle.sheets.specs.Form.{SheetAnswer, outcome as sheet_outcome}
use Rattle.outcomes.specs.Outcome.{outcome_of, refused_by}
use Rattle.answers.specs.Answers.{ROWS, VALUES, rows_part, requirement_part, listing, measured, Stored}
use Rattle.answers.proofs.Rows.{none_judged, rows_few, values_few, rows_judged}
use Rattle.answers.proofs.Wholes.{requirement_refused, requirement_two, table_read}
use Rattle.answers.proofs.Runs.{none_refused}
use Rattle.answers.proofs.answer_for.Goals as goal
use Rattle.answers.proofs.answer_for.Goals.{Start, In-Ok}

-- the sheet as the definitions have it
abbrev sheet_in : Start → SheetAnswer
sheet_in c = sheet_outcome (Ok c.args.sheet)

-- the rows that were read, and as many of them and of values as there is room for
read_now : (c : In-Ok) → Stored c.args.text.now (sheet_in (goal.at.In-Ok c).Start) (rows_outcome (Ok c.in-Ok.counts)) c.args.times.now c.args.values.now
read_now c = rw c.in-Ok.is at c.requires.2

few_rows : (c : In-Ok) → c.in-Ok.counts.rows ≤ ROWS
few_rows c = let x = sheet_in (goal.at.In-Ok c).Start in let k = read_now c in rows_few (rows_part c.args.text.now x) x.head c.requires.1.checked _ k.answer refl

few_values : (c : In-Ok) → c.in-Ok.counts.rows * c.args.sheet.head.setup.channels ≤ VALUES
few_values c = let x = sheet_in (goal.at.In-Ok c).Start in let k = read_now c in values_few (rows_part c.args.text.now x) x.head c.requires.1.checked _ k.answer refl

-- no rows are refused, and what they are refused by is the answer
refused_anyway : {A : Type 0} (o : Result A Refusal) → (number_of o ≡ 0 → ⊥) → outcome_of (result_and o (Err Samples)) ≡ refused_by (number_of o)
refused_anyway (Ok x) h = absurd (h refl)
refused_anyway (Err e) h = refl

pub slice_bounds-read_requirement-count : goal.slice_bounds-read_requirement-count
slice_bounds-read_requirement-count c = c.requires.1.ordered _ c.requires.0

pub slice_bounds-read_requirement-start : goal.slice_bounds-read_requirement-start
slice_bounds-read_requirement-start c = omega (arith, c.requires.1.ordered _ c.requires.0, c.requires.1.inside _ c.requires.0)

pub slice_bounds-read_requirement-end : goal.slice_bounds-read_requirement-end
slice_bounds-read_requirement-end c = c.requires.1.inside _ c.requires.0

pub returns-in_err-table : goal.returns-in_err-table
returns-in_err-table c =
    let x = sheet_in (goal.at.returns-in_err-table c).Start in
    let n : (requirement_of (requirement_part c.args.text.now x c.args.k)).refusal ≡ number c.in_err-table.field-0.0 = sym (ap (λ (q : Requirement). q.refusal) c.in_err-table.ensures) in
    ap outcome_of (handed_on c.from_residual.result c.from_residual.ensures.1)
    ∙ ap refused_by (requirement_two x.head (listing c.args.text.now x) _ _ n (not_none _))
    ∙ requirement_refused x.head (listing c.args.text.now x) _ (λ z. not_none _ (sym n ∙ z))

pub returns-in_default : goal.returns-in_default
returns-in_default c =
    let x = sheet_in (goal.at.returns-in_default c).Start in
    let s = c.args.text.now in
    let t = c.in_ok-table.table in
    let none : (answer_of (rows_part s x) x.head.setup.channels ROWS VALUES).number ≡ 0 → ⊥ = λ z. not_none _ (ap (λ (a : RowsAnswer). a.number) (rw c.in_default.is at c.requires.2.answer) ∙ z) in
    ap outcome_of c.and.ensures
    ∙ (refused_anyway c.refusal.result (λ z. none_refused (measured x.head (listing s x)) t x.head.step x.head.drift (sym c.refusal.ensures ∙ z))
    ∙ (ap refused_by c.refusal.ensures
    ∙ (none_judged (rows_part s x) x.head c.requires.1.checked none t
    ∙ table_read x.head (listing s x) (requirement_part s x c.args.k) (requirement_outcome (Ok t)) c.in_ok-table.ensures refl)))

pub overflow_mul-recording : goal.overflow_mul-recording
overflow_mul-recording c = search (rules, few_values (goal.at.overflow_mul-recording c).In-Ok)

pub slice_bounds-recording-end : goal.slice_bounds-recording-end
slice_bounds-recording-end c = sym (length-take-le _ _ (omega (arith, few_rows (goal.at.slice_bounds-recording-end c).In-Ok, c.requires.2.times_long)))

pub slice_bounds-recording-end-2 : goal.slice_bounds-recording-end-2
slice_bounds-recording-end-2 c = sym (length-take-le _ _ (omega (arith, few_values (goal.at.slice_bounds-recording-end-2 c).In-Ok, c.requires.2.values_long)))

pub returns : goal.returns
returns c =
    let x = sheet_in (goal.at.returns c).Start in
    let s = c.args.text.now in
    let t = c.in_ok-table.table in
    let k = read_now (goal.at.returns c).In-Ok in
    c.judge.ensures
    ∙ (rows_judged (rows_part s x) x.head c.requires.1.checked _ k.answer refl c.args.times.now c.args.values.now (k.times_read refl) (k.values_read refl) t
    ∙ table_read x.head (listing s x) (requirement_part s x c.args.k) (requirement_outcome (Ok t)) c.in_ok-table.ensures refl)
