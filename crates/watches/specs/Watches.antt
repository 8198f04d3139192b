-- A watch of a table that has taken the rows of a recording: what each of its numbers and cells is. A refused making gives one too, of no row, whose first number is that refusal.
-- Assumes nothing.
use Rattle.std.specs.Prelude.{◌≡◌, ◌&&◌, cond, List, [], ◌∷◌, ◌++◌, map, ℕ, ◌*◌, ◌≤◌, ◌<◌, leb, eqb, length, get_or, set, replicate, ℤ, pos}
use Rattle.lists.specs.Fill.{fill, fill_rows}
use Rattle.lists.specs.Front.{written}
use Rattle.recordings.specs.declared.Predicate.{Predicate}
use Rattle.recordings.specs.declared.Scales.{Scales}
use Rattle.recordings.specs.declared.Setup.{Setup}
use Rattle.recordings.specs.Card.{Card, first_time}
use Rattle.tables.specs.declared.Node.{Node}
use Rattle.tables.specs.declared.Table.{Table}
use Rattle.tables.specs.Tree.{NODES}
use Rattle.refusals.specs.First.{Check, first}
use Rattle.building.specs.Storing.{cells_of}
use Rattle.flat.specs.Predicates.{ranges_of, ends_of}
use Rattle.arrivals.specs.Arrivals.{no_rows, making_checks}
use Rattle.arrivals.specs.Fits.{Fits, next_time}
use Rattle.watch_cells.specs.State.{NUMBERS, CELLS, SCALES_AT, RANGES_AT, NODES_AT, HELD_AT, kept_node, cell_of, Planned, Clock, Held}

-- ---- its numbers: what its making was refused by, the count of nodes, the first time, the least time that the next row may have, the count of channels;
-- then the scales, each predicate's range and channel, and the nodes, their windows closed
abbrev pub head_of : Table → Card → List ℕ
head_of t c = first (making_checks c t) ∷ t.count ∷ first_time c ∷ next_time c ∷ c.setup.channels ∷ []

abbrev pub plan_of : List Node → List Predicate → Scales → List ℕ
plan_of ns ps ks = written ks.each (replicate 8 0) ++ (written (ranges_of ps) (replicate 32 0) ++ cells_of (map kept_node ns))

abbrev pub watch_numbers : Table → Card → List ℕ
watch_numbers t c = head_of t c ++ plan_of t.nodes c.setup.predicates c.setup.scales

-- ---- its cells: each predicate's ends, then three runs of one cell for each node
abbrev pub watch_cells : Table → Card → List ℤ
watch_cells t c = ends_of c.setup.predicates ++ fill_rows NODES (cell_of t c) 3 (replicate (3 * NODES) (pos 0))

-- a table and predicates are arrays of 64 and 16, and a recording that is watched is as document 01 asks for it
pub record Watches (numbers : List ℕ) (cells : List ℤ) (t : Table) (c : Card) : Type 0 where
  pub long : NUMBERS ≤ length numbers
  pub wide : CELLS ≤ length cells
  pub numbers_are : (i : ℕ) → i < NUMBERS → get_or numbers i 0 ≡ get_or (watch_numbers t c) i 0
  pub cells_are : (i : ℕ) → i < CELLS → get_or cells i (pos 0) ≡ get_or (watch_cells t c) i (pos 0)
  pub nodes_are : length t.nodes ≡ NODES
  pub predicates_are : length c.setup.predicates ≡ 16
  pub fits : first (making_checks c t) ≡ 0 → Fits c

-- so, where the making was not refused, the slices hold the table, the setup, the times, and of each node what is to be held of it
pub record Kept (numbers : List ℕ) (cells : List ℤ) (t : Table) (c : Card) : Type 0 where
  pub planned : Planned numbers cells t c.setup
  pub fits : Fits c
  pub clock : Clock numbers c
  pub each : (q : ℕ) → q < NODES → Held cells t c q

-- ---- a watch that is lent: 8, where a slice is too short for one
pub record Roomy (numbers cells : ℕ) : Type 0 where
  pub long : NUMBERS ≤ numbers
  pub wide : CELLS ≤ cells

abbrev pub room_check : ℕ → ℕ → Check
room_check numbers cells = record { number = 8; sentence = Roomy numbers cells; passes = leb NUMBERS numbers && leb CELLS cells }

-- 8 comes after the making's refusals
abbrev pub lent_checks : Setup → Table → ℕ → ℕ → List Check
lent_checks s t numbers cells = making_checks (no_rows s) t ++ (room_check numbers cells ∷ [])

-- places behind a watch keep their contents
pub record SameBehind {X : Type 0} (from : ℕ) (none : X) (before after : List X) : Type 0 where
  pub same : (i : ℕ) → from ≤ i → get_or after i none ≡ get_or before i none

-- ---- how a fresh watch is written: run after run
abbrev pub put_at : {X : Type 0} → ℕ → X → List X → List X → List X
put_at at none new old = fill at (length new) (λ i. get_or new i none) old

abbrev pub setup_numbers : List Predicate → Scales → List ℕ → List ℕ
setup_numbers ps ks old = put_at SCALES_AT 0 (written ks.each (replicate 8 0)) (put_at RANGES_AT 0 (written (ranges_of ps) (replicate 32 0)) old)

abbrev pub fresh_numbers : ℕ → Table → List Predicate → Scales → List ℕ → List ℕ
fresh_numbers number t ps ks old = put_at 0 0 (number ∷ t.count ∷ 0 ∷ 0 ∷ ks.count ∷ []) (setup_numbers ps ks (put_at NODES_AT 0 (cells_of (map kept_node t.nodes)) old))

abbrev pub fresh_cells : List Predicate → List ℤ → List ℤ
fresh_cells ps old = fill HELD_AT (3 * NODES) (λ i. pos 0) (written (ends_of ps) old)

-- ---- the first row's time is kept as the first time
abbrev pub begun : ℕ → List ℕ → List ℕ
begun time numbers = cond (eqb (get_or numbers 3 0) 0) (set numbers 2 time) numbers
