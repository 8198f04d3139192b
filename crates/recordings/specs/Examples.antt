-- Two recordings: the program's example of document 01, and one that is accepted although no history follows it.
-- Assumes nothing.
use Rattle.std.specs.Prelude.{[], ◌∷◌, pos}
use Rattle.recordings.specs.declared.Range.TheVariants.{AtLeast}
use Rattle.recordings.specs.Card.{Card, sixteen, passed}

-- p0 is "at least 5"; step 1, drift 2
abbrev pub example : Card
example = record {
  setup = record { channels = 1; scales = passed (1 ∷ []); predicates = sixteen (record { channel = 0; range = AtLeast (pos 5) } ∷ []) };
  times = 0 ∷ 1 ∷ 2 ∷ 3 ∷ 4 ∷ [];
  values = pos 10 ∷ pos 11 ∷ pos 10 ∷ pos 9 ∷ pos 10 ∷ [];
}

-- a steep ramp; step 1, drift 1
abbrev pub ramp : Card
ramp = record { setup = record { channels = 1; scales = passed (1 ∷ []); predicates = sixteen [] }; times = 0 ∷ 1 ∷ 2 ∷ []; values = pos 5 ∷ pos 7 ∷ pos 9 ∷ [] }
