-- The rows are read once, and each turn of the loop puts one answer more behind the others.
-- Assumes nothing.
use Rattle.std.proofs.Common.{◌≡◌, map, Ok}
use Rattle.lists.specs.Each.{each_below}
use Rattle.outcomes.specs.Outcome.{outcome_of}
use Rattle.sheet_rows.specs.Answer.{outcome as rows_outcome}
use Rattle.sheets.specs.Form.{SheetAnswer, outcome as sheet_outcome}
use Rattle.answers.specs.Answers.{listing, requirement_part, answer_for, Placed, Stored}
use Rattle.answers.proofs.answer_all.Given as goal

abbrev pub invariant-loop-k : goal.invariant-loop-k
invariant-loop-k l =
    let x : SheetAnswer = sheet_outcome (Ok l.sheet) in
    record {
      placed : Placed l.text x;
      stored : Stored l.text x (rows_outcome l.read) l.times l.values;
      answered : map outcome_of l.all ≡ each_below (λ i. answer_for x.head (listing l.text x) (requirement_part l.text x i)) l.k;
    }
