-- The margin of a requirement at a sample, and its truth there: one reading, into whole numbers and into true and false.
-- Assumes nothing.
use Rattle.std.specs.Prelude.{Bool, ℕ, ℤ}
use Rattle.logic.specs.Formula.{Formula}
use Rattle.logic.specs.Reading.{read, booleans, margins}
use Rattle.recordings.specs.Card.{Card, scale, value, predicate, samples}
use Rattle.recordings.specs.Distance.{TOP, scaled_distance, contains}

-- a predicate at a sample: its distance in its channel's unit, its truth
abbrev pub distance_at : ℕ → Card → ℕ → ℕ → ℤ
distance_at top c p i = scaled_distance top (scale c (predicate c p).channel) (predicate c p).range (value c (predicate c p).channel i)

abbrev pub true_at : Card → ℕ → ℕ → Bool
true_at c p i = contains (predicate c p).range (value c (predicate c p).channel i)

-- the source's robust semantics, with margins from -top to top
unfoldable pub robustness : ℕ → Card → Formula ℕ → ℕ → ℤ
robustness top c φ i = read (margins top) (samples c) (distance_at top c) φ i

-- the margin at sample i; the recording's margin is that at sample 0
abbrev pub margin : Card → Formula ℕ → ℕ → ℤ
margin c φ i = robustness TOP c φ i

-- truth over samples: the same table with true and false
unfoldable pub true_of : Card → Formula ℕ → ℕ → Bool
true_of c φ i = read booleans (samples c) (true_at c) φ i
