-- The examples, computed: each answer is what the definition gives.
-- Assumes nothing.
use mathlib.Core.Path.{◌≡◌, refl}
use mathlib.Core.List.{map}
use Rattle.text.specs.Mark.{prefix_of, mark_at}
use Rattle.text.specs.Number.{digits, value, number_at, field_at, signed_at, signed_field_at}
use Rattle.refusals.specs.First.{first}
use Rattle.row_lines.specs.Reading.{value_at, values_from, rest_at, row_at, rows_from}
use Rattle.sheet_rows.specs.Examples.{asked, questions, answers}

pub answers_given : map asked questions ≡ answers
unfolding prefix_of mark_at digits value number_at field_at signed_at signed_field_at value_at values_from rest_at row_at rows_from first
answers_given = refl
