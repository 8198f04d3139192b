-- Rows as they arrive, one at a time: which are accepted, the recording made of them, and the margin that is answered meanwhile. There is no limit of rows.
-- Assumes nothing.
use Rattle.std.specs.Prelude.{◌≡◌, Bool, ◌&&◌, ◌||◌, ◌⊎◌, List, [], ◌∷◌, ◌++◌, ℕ, ◌≤◌, ◌<◌, leb, ltb, eqb, length, ℤ, pos}
use Rattle.recordings.specs.declared.Predicate.{Predicate}
use Rattle.recordings.specs.declared.Scales.{Scales}
use Rattle.recordings.specs.declared.Setup.{Setup}
use Rattle.recordings.specs.Card.{Card, card, rows, last_time}
use Rattle.recordings.specs.Margin.{margin}
use Rattle.recordings.specs.Accepted.{LATEST, Values}
use Rattle.tables.specs.declared.Table.{Table}
use Rattle.tables.specs.Tree.{root}
use Rattle.refusals.specs.First.{Check, first, unless_refused}
use Rattle.rules.specs.Recording.{values_obey}
use Rattle.rules.specs.Refusals.{table_checks}
use Rattle.nesting.specs.Nesting.{nodes_unnested, Unnested}
use Rattle.margins.specs.Answers.{MarginOutcome}

-- a row that is offered
pub record Row : Type 0 where
  pub time : ℕ
  pub values : List ℤ

-- the count of scales is the channel count
abbrev pub watch_setup : List Predicate → Scales → Setup
watch_setup ps ks = record { channels = ks.count; scales = ks; predicates = ps }

-- a fresh watch has seen no row
abbrev pub no_rows : Setup → Card
no_rows s = card s [] []

-- a recording with one row more
abbrev pub with_row : Card → Row → Card
with_row c r = card c.setup (c.times ++ (r.time ∷ [])) (c.values ++ r.values)

-- ---- at the making: 3, 4, 13, then 16, a temporal operator inside another
abbrev pub nesting_check : Table → Check
nesting_check t = record { number = 16; sentence = Unnested t; passes = nodes_unnested t.nodes t.count }

abbrev pub making_checks : Card → Table → List Check
making_checks c t = table_checks c t ++ (nesting_check t ∷ [])

-- ---- of a row: 5, 6, 7
-- 6: its time is at most 2,000,000,000, and later than that of the row that was accepted last
pub record Later (c : Card) (t : ℕ) : Type 0 where
  pub early : t ≤ LATEST
  pub rising : (rows c ≡ 0) ⊎ (last_time c < t)

abbrev pub follows : ℕ → ℕ → ℕ → Bool
follows n last t = leb t LATEST && (eqb n 0 || ltb last t)

-- 5: one value for each channel; 7: no value out of range
abbrev pub row_checks : Card → Row → List Check
row_checks c r =
    record { number = 5; sentence = length r.values ≡ c.setup.channels; passes = eqb (length r.values) c.setup.channels }
    ∷ record { number = 6; sentence = Later c r.time; passes = follows (rows c) (last_time c) r.time }
    ∷ record { number = 7; sentence = Values r.values; passes = values_obey r.values }
    ∷ []

-- where the making was refused, every row is, by its number
abbrev pub offer_checks : Card → Table → Row → List Check
offer_checks c t r = making_checks c t ++ row_checks c r

abbrev pub offer_refusal : Card → Table → Row → ℕ
offer_refusal c t r = first (offer_checks c t r)

-- a refused row changes nothing
abbrev pub accepted : Table → Card → Row → Card
accepted t c r = unless_refused (offer_refusal c t r) (with_row c r) c

-- the recording made of the rows accepted so far
abbrev pub recorded : Table → Card → List Row → Card
recorded t c [] = c
recorded t c (r ∷ rs) = recorded t (accepted t c r) rs

-- ---- the margin: before the first accepted row it is refused by 5
abbrev pub some_row_check : Card → Check
some_row_check c = record { number = 5; sentence = 1 ≤ rows c; passes = leb 1 (rows c) }

abbrev pub asked_checks : Card → Table → List Check
asked_checks c t = making_checks c t ++ (some_row_check c ∷ [])

abbrev pub asked_refusal : Card → Table → ℕ
asked_refusal c t = first (asked_checks c t)

unfoldable pub margin_so_far : Card → Table → MarginOutcome
margin_so_far c t = record { number = asked_refusal c t; margin = unless_refused (asked_refusal c t) (margin c (root t) 0) (pos 0) }
