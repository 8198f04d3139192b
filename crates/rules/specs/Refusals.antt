-- Refusals 3, 4, 13 and 5 to 7, in this order, in which they count: what a table and a card are judged by before any margin is taken.
-- Assumes nothing.
use Rattle.std.specs.Prelude.{List, [], ◌∷◌, ◌++◌, length}
use Rattle.recordings.specs.Card.{Card, rows}
use Rattle.recordings.specs.Accepted.{Channels, Scaled, Lengths, Times, Values, Recorded}
use Rattle.tables.specs.declared.Table.{Table}
use Rattle.tables.specs.Rules.{TableRules}
use Rattle.refusals.specs.First.{Check}
use Rattle.predicates.specs.Predicates.{requirement_obeys, Named, channels_obey}
use Rattle.scales.specs.Scales.{scales_obey}
use Rattle.rules.specs.Recording.{lengths_obey, times_obey, values_obey}

-- 3 and 4: the table, the channels and the predicates; 13: the scales
abbrev pub table_checks : Card → Table → List Check
table_checks c t =
    record { number = 3; sentence = TableRules t × Named c t; passes = requirement_obeys t c.setup.predicates }
    ∷ record { number = 4; sentence = Channels c; passes = channels_obey c.setup.predicates c.setup.channels }
    ∷ record { number = 13; sentence = Scaled c; passes = scales_obey c.setup.scales }
    ∷ []

-- 5 to 7: the samples
abbrev pub sample_checks : Card → List Check
sample_checks c =
    record { number = 5; sentence = Lengths c; passes = lengths_obey c.setup.scales.count c.setup.channels (rows c) (length c.values) }
    ∷ record { number = 6; sentence = Times c; passes = times_obey c.times }
    ∷ record { number = 7; sentence = Values c.values; passes = values_obey c.values }
    ∷ []

abbrev pub checks : Card → Table → List Check
checks c t = table_checks c t ++ sample_checks c

-- none of them applies
pub record Sound (c : Card) (t : Table) : Type 0 where
  pub ruled : TableRules t
  pub named : Named c t
  pub recorded : Recorded c
