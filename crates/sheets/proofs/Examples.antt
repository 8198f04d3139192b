-- The examples, computed: each text's number is what the definition gives.
-- Assumes nothing.
use mathlib.Core.Path.{◌≡◌, refl}
use mathlib.Core.List.{List, [], ◌∷◌, ◌++◌, map}
use mathlib.Core.Bool.{false}
use native.Mathlib.Omega.{arith}
use Prim.Native.Nat.{ℕ}
use Prim.Native.String.{String}
use lib.ListN.{replicate}
use lib.IntN.{pos, neg_ℤ}
use Rattle.text.specs.Bytes.{bytes}
use Rattle.text.specs.Mark.{prefix_of, mark_at}
use Rattle.text.specs.Number.{digits, value, number_at, field_at, signed_at, signed_field_at}
use Rattle.text.specs.Numeral.{Numeral, digit, longer, plain, minus}
use Rattle.lines.specs.Lines.{lines}
use Rattle.row_lines.specs.Form.{Row, no_field, next}
use Rattle.row_lines.specs.Same.{SameButFilled, no_line, same, filled}
use Rattle.row_lines.specs.Reading.{value_at, values_from, rest_at, row_at, rows_from}
use Rattle.recordings.specs.Card.{passed}
use Rattle.predicate_lines.specs.Reading.{end_at, line_at, lines_from, lines_at}
use Rattle.number_lines.specs.Reading.{number_line_at}
use Rattle.scale_lines.specs.Form.{due}
use Rattle.scale_lines.specs.Reading.{line_at as scale_line_at, lines_from as scale_lines_from, scales_at}
use Rattle.heads.specs.Reading.{head_of}
use Rattle.requirement_lines.specs.Reading.{until_feed, requirement_at, requirements_from}
use Rattle.sheets.specs.Sheets.{behind_head, sheet_of}
use Rattle.sheets.specs.Examples.{example, contents, damaged, accepted, scaled, misscaled, with_predicates, rising, unordered, crowded, with_third, filled_row, other_filled_row}
use Rattle.sheets.proofs.Exact.{sheet_alike}

pub example_read : sheet_of example ≡ contents
unfolding prefix_of mark_at digits value number_at field_at signed_at signed_field_at value_at values_from rest_at row_at rows_from end_at line_at lines_from lines_at number_line_at due scale_line_at scale_lines_from scales_at head_of until_feed requirement_at requirements_from behind_head sheet_of
example_read = refl

pub damaged_refused : map (λ (s : List ℕ). (sheet_of s).number) damaged ≡ replicate 26 1
unfolding prefix_of mark_at digits value number_at field_at signed_at signed_field_at value_at values_from rest_at row_at rows_from end_at line_at lines_from lines_at number_line_at due scale_line_at scale_lines_from scales_at head_of until_feed requirement_at requirements_from behind_head sheet_of
damaged_refused = refl

pub accepted_read : map (λ (s : List ℕ). (sheet_of s).number) accepted ≡ replicate 7 0
unfolding prefix_of mark_at digits value number_at field_at signed_at signed_field_at value_at values_from rest_at row_at rows_from end_at line_at lines_from lines_at number_line_at due scale_line_at scale_lines_from scales_at head_of until_feed requirement_at requirements_from behind_head sheet_of
accepted_read = refl

-- scale lines are read where they are the ones due, and otherwise break the form
pub scales_read : map (λ (s : List ℕ). (sheet_of s).number) (scaled ++ misscaled) ≡ replicate 8 0 ++ replicate 18 1
unfolding prefix_of mark_at digits value number_at field_at signed_at signed_field_at value_at values_from rest_at row_at rows_from end_at line_at lines_from lines_at number_line_at due scale_line_at scale_lines_from scales_at head_of until_feed requirement_at requirements_from behind_head sheet_of
scales_read = refl

-- and the head keeps what they say
pub scales_kept : map (λ (s : List ℕ). (sheet_of s).head.setup.scales) scaled
    ≡ passed (1 ∷ []) ∷ passed (7 ∷ 1000 ∷ []) ∷ passed (1 ∷ 2 ∷ 3 ∷ 4 ∷ 5 ∷ 6 ∷ 7 ∷ 8 ∷ []) ∷ passed [] ∷ passed [] ∷ passed (0 ∷ []) ∷ passed (1001 ∷ []) ∷ passed (4294967295 ∷ []) ∷ []
unfolding prefix_of mark_at digits value number_at field_at signed_at signed_field_at value_at values_from rest_at row_at rows_from end_at line_at lines_from lines_at number_line_at due scale_line_at scale_lines_from scales_at head_of until_feed requirement_at requirements_from behind_head sheet_of
scales_kept = refl

-- predicates in number order are read; in any other order they break the form
pub orders_read : map (λ (ns : List String). (sheet_of (with_predicates ns)).number) (rising ++ unordered) ≡ replicate 6 0 ++ replicate 11 1
unfolding prefix_of mark_at digits value number_at field_at signed_at signed_field_at value_at values_from rest_at row_at rows_from end_at line_at lines_from lines_at number_line_at due scale_line_at scale_lines_from scales_at head_of until_feed requirement_at requirements_from behind_head sheet_of
orders_read = refl

-- sixteen requirements are read, a seventeenth is refused by 12, unless 1 applies
pub crowded_refused : map (λ (s : List ℕ). (sheet_of s).number) crowded ≡ 0 ∷ 12 ∷ 12 ∷ 12 ∷ 1 ∷ []
unfolding prefix_of mark_at digits value number_at field_at signed_at signed_field_at value_at values_from rest_at row_at rows_from end_at line_at lines_from lines_at number_line_at due scale_line_at scale_lines_from scales_at head_of until_feed requirement_at requirements_from behind_head sheet_of
crowded_refused = refl

-- ---- two sheets that differ in a filled row alone

ten : Numeral (bytes "10") 10
ten = longer {d = 0} (digit {d = 1} (omega arith)) (omega arith) (omega arith)

row : Row 1 (bytes filled_row) false 2 (pos 10 ∷ [])
row = record {
  digits = bytes "2";
  fields = bytes " v0=10";
  numeral = digit {d = 2} (omega arith);
  bound = omega arith;
  valued = next {c = 0} (omega arith) (digit {d = 0} (omega arith)) (plain ten (omega arith)) no_field;
  spelled = refl;
}

other_row : Row 1 (bytes other_filled_row) false 40 (neg_ℤ (pos 250) ∷ [])
other_row = record {
  digits = bytes "40";
  fields = bytes " v0=-250";
  numeral = longer {d = 0} (digit {d = 4} (omega arith)) (omega arith) (omega arith);
  bound = omega arith;
  valued = next {c = 0} (omega arith) (digit {d = 0} (omega arith)) (minus (longer {d = 0} (longer {d = 5} (digit {d = 2} (omega arith)) (omega arith) (omega arith)) (omega arith) (omega arith)) (omega arith) (omega arith)) no_field;
  spelled = refl;
}

pub filled_alike : SameButFilled (with_third filled_row) (with_third other_filled_row)
unfolding lines
filled_alike = same (same (same (same (same (same (same (same (filled row other_row (same (same no_line))))))))))

-- so they give one sheet
pub filled_same : sheet_of (with_third filled_row) ≡ sheet_of (with_third other_filled_row)
filled_same = sheet_alike (with_third filled_row) (with_third other_filled_row) (omega arith) (omega arith) filled_alike

-- the one that document 01's example gives, computed of both
pub filled_read : (sheet_of (with_third filled_row) ≡ contents) × (sheet_of (with_third other_filled_row) ≡ contents)
unfolding prefix_of mark_at digits value number_at field_at signed_at signed_field_at value_at values_from rest_at row_at rows_from end_at line_at lines_from lines_at number_line_at due scale_line_at scale_lines_from scales_at head_of until_feed requirement_at requirements_from behind_head sheet_of
filled_read = (refl, refl)
