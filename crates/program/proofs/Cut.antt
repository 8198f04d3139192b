-- One byte more than a text may have shows that it is too long, so that its first 65,537 bytes get the answers of all of it.
-- Assumes nothing.
use Rattle.std.proofs.Common.{◌≡◌, ◌<◌, List, ℕ, length, take, arith, sym, ap, ◌∙◌, take_all, length-take-le, lt-ltb}
use native.Mathlib.Decide.{dec_lt}
use Rattle.row_lines.specs.Reading.{limit}
use Rattle.sheets.specs.Form.{SheetAnswer}
use Rattle.sheets.proofs.Chain.{sheet_long}
use Rattle.refusals.specs.First.{unless_refused}
use Rattle.answers.specs.Answers.{answers_of, all_answered}
use Rattle.outcomes.specs.Outcome.{text_refused_by}

too_long : (xs : List ℕ) → limit < length xs → answers_of xs ≡ text_refused_by 1
unfolding answers_of
too_long xs h = ap (λ (x : SheetAnswer). unless_refused x.number (all_answered xs x) (text_refused_by x.number)) (sym (sheet_long xs (lt-ltb limit (length xs) h)))

pub answers_cut : (xs : List ℕ) → answers_of (take 65_537 xs) ≡ answers_of xs
answers_cut xs = elim (dec_lt limit (length xs)) [
  | yes h ↦ too_long (take 65_537 xs) (rw (length-take-le 65_537 xs h) (omega arith)) ∙ sym (too_long xs h)
  | no h ↦ ap answers_of (take_all 65_537 xs (omega arith))
]
