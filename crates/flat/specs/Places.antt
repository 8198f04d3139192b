-- Sixteen requirements' places as flat numbers.
-- Assumes nothing.
use Rattle.std.specs.Prelude.{List, ℕ}
use Rattle.requirement_lines.specs.declared.Place.{Place}
use Rattle.flat.specs.Predicates.{pairs}

-- of each its first place, and the place behind its last
abbrev pub places_of : List Place → List ℕ
places_of ps = pairs (λ p. p.from) (λ p. p.to) ps
