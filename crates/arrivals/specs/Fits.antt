-- A recording as document 01 asks for it, however many rows it has; what a temporal operator carries along while it grows, and when its next row may come.
-- Assumes nothing.
use Rattle.std.specs.Prelude.{◌≡◌, Bool, ◌&&◌, cond, ℕ, suc, ◌*◌, leb, eqb, length, ℤ}
use Rattle.logic.specs.declared.Extremum.{Extremum}
use Rattle.logic.specs.Formula.{dual, Formula}
use Rattle.logic.specs.Reading.{extremum, margins}
use Rattle.recordings.specs.Card.{Card, rows, last_time}
use Rattle.recordings.specs.Distance.{TOP}
use Rattle.recordings.specs.Margin.{margin}
use Rattle.recordings.specs.Accepted.{LATEST, Measured, Times}

-- refusals 4, 13, 5 to 7 do not apply, but for the count of rows
pub record Fits (c : Card) : Type 0 where
  pub measured : Measured c
  pub all_values : length c.values ≡ rows c * c.setup.channels
  pub times : Times c

-- left's extremum over all samples, with which right is joined at the next one
abbrev pub carried : Card → Extremum → Formula ℕ → ℤ
carried c e φ = extremum (margins TOP) (dual e) (margin c φ) (rows c)

-- the least time that the next row may have: 0 before the first
abbrev pub next_time : Card → ℕ
next_time c = cond (eqb (rows c) 0) 0 (suc (last_time c))

-- refusal 6 of a row, asked by that time alone: equal to `follows`, which speaks of the row before
abbrev pub in_time : ℕ → ℕ → Bool
in_time next t = leb next t && leb t LATEST
