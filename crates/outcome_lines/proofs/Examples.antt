-- The definitions compute: the lines of the example's five requirements, of one alone, and of a text refused as a whole.
-- Assumes nothing.
use mathlib.Core.Path.{◌≡◌, refl}
use mathlib.Core.List.{[], ◌∷◌}
use lib.IntN.{pos}
use Rattle.text.specs.Bytes.{bytes}
use Rattle.printing.specs.Decimal.{digits}
use Rattle.outcomes.specs.Order.{precedes}
use Rattle.outcomes.specs.Arrangement.{insert, arrange_below, arrangement}
use Rattle.outcomes.specs.Examples.{outcome, outcomes}
use Rattle.outcome_lines.specs.Printed.{line_of, lines_in, entry_lines, lines_of}

pub several : entry_lines outcomes ≡ bytes "req=2 rows=4 filled=1 margin=-3 hold=-6 fail=-6 verdict=unshown\nreq=1 rows=4 filled=1 margin=5 hold=-6 fail=-6 verdict=unshown\nreq=3 rows=4 filled=1 margin=5 hold=-6 fail=-6 verdict=unshown\nreq=0 refused=3\nreq=4 refused=2\n"
unfolding entry_lines lines_in line_of arrangement arrange_below insert precedes digits
several = refl

pub single : entry_lines (outcome 0 (pos 5) ∷ []) ≡ bytes "rows=4 filled=1 margin=5 hold=-6 fail=-6 verdict=unshown\n"
unfolding entry_lines line_of digits
single = refl

pub refused_whole : lines_of (record { number = 12; entries = outcomes }) ≡ bytes "refused=12\n"
unfolding lines_of digits
refused_whole = refl
