-- All that a requirement is read against: a card's recording, and its setup: the channels, their scales and the predicates that the requirement names.
-- Assumes nothing.
use Rattle.std.specs.Prelude.{List, ◌++◌, ℕ, suc, ◌+◌, ◌-◌, ◌*◌, length, get_or, replicate, ℤ, pos}
use Rattle.logic.specs.Reading.{Places}
use Rattle.recordings.specs.declared.Predicate.{Predicate}
use Rattle.recordings.specs.declared.Scales.{Scales}
use Rattle.recordings.specs.declared.Setup.{Setup}
use Rattle.recordings.specs.declared.Recording.{Recording}
use Rattle.recordings.specs.declared.Range.TheVariants.{Unset}

pub record Card : Type 0 where
  pub setup : Setup
  pub times : List ℕ
  pub values : List ℤ

abbrev pub rows : Card → ℕ
rows c = length c.times

abbrev pub time : Card → ℕ → ℕ
time c i = get_or c.times i 0

-- sample i, channel ch stands at place i × channels + ch
abbrev pub value : Card → ℕ → ℕ → ℤ
value c ch i = get_or c.values (i * c.setup.channels + ch) (pos 0)

-- channel ch's scale
abbrev pub scale : Card → ℕ → ℕ
scale c ch = get_or c.setup.scales.each ch 0

-- a number that no predicate has is unset
abbrev pub unset_predicate : Predicate
unset_predicate = record { channel = 0; range = Unset }

-- as a caller passes them: the first are given, the others of the sixteen are unset
abbrev pub sixteen : List Predicate → List Predicate
sixteen ps = ps ++ replicate (16 - length ps) unset_predicate

-- scales as a caller passes them: the first of the eight are given, the others are 0
abbrev pub eight : List ℕ → List ℕ
eight ks = ks ++ replicate (8 - length ks) 0

abbrev pub passed : List ℕ → Scales
passed ks = record { count = length ks; each = eight ks }

abbrev pub predicate_at : List Predicate → ℕ → Predicate
predicate_at ps p = get_or ps p unset_predicate

abbrev pub predicate : Card → ℕ → Predicate
predicate c p = predicate_at c.setup.predicates p

abbrev pub first_time : Card → ℕ
first_time c = time c 0

abbrev pub last_time : Card → ℕ
last_time c = time c (rows c - 1)

-- the samples, each at its time
abbrev pub samples : Card → Places
samples c = record { first = 0; end = rows c; time = time c }

-- the recording's span: the seconds from its first time to its last, both counted
abbrev pub span : Card → Places
span c = record { first = first_time c; end = suc (last_time c); time = λ t. t }

-- what the library's callers hand over, as a card
abbrev pub card : Setup → List ℕ → List ℤ → Card
card setup times values = record { setup = setup; times = times; values = values }

-- the card of a recording as its caller lends it
abbrev pub card_of : Recording → Card
card_of r = card r.setup r.times.now r.values.now
