-- The answer that a requirement gets is a function of the head, of its bytes and of the lines behind the requirements: whatever else a text that is written as a sheet holds.
-- Assumes nothing.
use mathlib.Core.Path.{◌≡◌, sym, ap, ◌∙◌}
use mathlib.Core.List.{List, []}
use Prim.Native.Nat.{ℕ, ◌≤◌, ◌<◌}
use native.Mathlib.Omega.{arith}
use lib.ListN.{length, get_or}
use Rattle.lines.specs.Lines.{joined}
use Rattle.row_lines.specs.Reading.{rows_of}
use Rattle.heads.specs.declared.Head.{Head}
use Rattle.requirement_lines.specs.Form.{MOST_REQUIREMENTS}
use Rattle.sheets.specs.Form.{SheetAnswer, Written}
use Rattle.sheets.specs.Only.{only}
use Rattle.sheets.specs.Sheets.{sheet_of}
use Rattle.sheets.proofs.Exact.{contents, written_read, written_form, rows_text}
use Rattle.sheets.proofs.Behind.{requirement_stands}
use Rattle.sheets.proofs.Only.{only_written}
use Rattle.answers.specs.Answers.{listing, requirement_part, answer_for, answer_to}
use Rattle.answers.proofs.Wholes.{answer_read}

module _ {s : List ℕ} {h : Head} {rs rows : List (List ℕ)} (w : Written s h rs rows) where
  module _ (few : length rs ≤ MOST_REQUIREMENTS) (k : ℕ) (l : k < length rs) where
    -- a place holds its requirement
    pub requirement_text : requirement_part s (contents w) k ≡ get_or rs k []
    requirement_text = (requirement_stands s (contents w) (written_form w few) k l).bytes

    pub answer_written : answer_to s k ≡ answer_for h (rows_of h.setup.channels (joined rows)) (get_or rs k [])
    answer_written =
        let x : SheetAnswer = contents w in
        let e : sheet_of s ≡ x = written_read w few in
        sym (answer_read s k (ap (λ (y : SheetAnswer). y.number) e))
        ∙ (ap (λ (y : SheetAnswer). answer_for y.head (listing s y) (requirement_part s y k)) e
        ∙ (ap (λ (t : List ℕ). answer_for h (rows_of h.setup.channels t) (requirement_part s x k)) (rows_text w)
        ∙ ap (answer_for h (rows_of h.setup.channels (joined rows))) requirement_text))

-- what a requirement gets is what the text gets that keeps it alone
pub answer_only : {s : List ℕ} {h : Head} {rs rows : List (List ℕ)} → Written s h rs rows → length rs ≤ MOST_REQUIREMENTS → (k : ℕ) → k < length rs → answer_to s k ≡ answer_to (only k s) 0
answer_only w few k l = answer_written w few k l ∙ sym (answer_written (only_written w k l) (omega arith) 0 (omega arith))
