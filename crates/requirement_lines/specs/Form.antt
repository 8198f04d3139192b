-- The form of a sheet's requirement lines: `req=` and any bytes up to the line feed, one after another. The first line that does not begin with `req=` ends them.
-- Assumes nothing.
use Rattle.std.specs.Prelude.{ℕ, ◌+◌, ◌-◌, ◌≤◌, ◌≡◌, Bool, false, List, [], ◌∷◌, ◌++◌, length, take, drop, replicate}
use Rattle.text.specs.Bytes.{bytes}
use Rattle.text.specs.Mark.{prefix_of}
use Rattle.requirement_lines.specs.declared.Place.{Place}

-- a requirement's line: `req=`, its bytes and a line feed
abbrev pub requirement_line : List ℕ → List ℕ
requirement_line r = bytes "req=" ++ r ++ bytes "\n"

-- the lines of requirements one after the other
unfoldable pub requirement_lines : List (List ℕ) → List (List ℕ)
requirement_lines [] = []
requirement_lines (r ∷ rs) = requirement_line r ∷ requirement_lines rs

-- where each requirement stands, whose first line begins at a place: behind the equals sign, up to the line feed
unfoldable pub places_from : ℕ → List (List ℕ) → List Place
places_from at [] = []
places_from at (r ∷ rs) = record { from = at + 4; to = at + 4 + length r } ∷ places_from (at + 4 + length r + 1) rs

-- a requirement stands at a place of a text
pub record StandsAt (s : List ℕ) (p : Place) (r : List ℕ) : Type 0 where
  pub bytes : take (p.to - p.from) (drop p.from s) ≡ r
  pub ordered : p.from ≤ p.to
  pub inside : p.to ≤ length s

-- whether a line begins as a requirement's does
abbrev pub is_requirement : List ℕ → Bool
is_requirement l = prefix_of (bytes "req=") l

-- lines that the requirements' do not go on with
abbrev pub Over : List (List ℕ) → Type 0
Over [] = Unit
Over (l ∷ ls) = is_requirement l ≡ false

-- a sheet has at most sixteen requirements
abbrev pub MOST_REQUIREMENTS : ℕ
MOST_REQUIREMENTS = 16

-- sixteen places of no requirement
abbrev pub no_place : Place
no_place = record { from = 0; to = 0 }

abbrev pub nowhere : List Place
nowhere = replicate MOST_REQUIREMENTS no_place

-- the first sixteen of some places, in sixteen places; the ones behind the last are 0
abbrev pub sixteen : List Place → List Place
sixteen ps = take MOST_REQUIREMENTS (ps ++ nowhere)
