-- What a watch answers while rows are offered to it, one after the other: each row goes to the watch that the row before handed back.
-- Assumes nothing.
use Rattle.std.specs.Prelude.{◌≡◌, List, [], ◌∷◌, ℕ, ℤ, pos, Result, Ok, Err}
use Rattle.recordings.specs.Card.{Card}
use Rattle.tables.specs.declared.Table.{Table}
use Rattle.margins.specs.Answers.{MarginOutcome}
use Rattle.arrivals.specs.Arrivals.{Row, offer_refusal, accepted, margin_so_far}
use Rattle.watches.specs.declared.Watch.{Watch}
use Rattle.watches.specs.Watches.{Watches}

-- a watch that is lent as two slices, as they are at a call's entry or exit
abbrev pub lent : List ℕ → List ℤ → Watch
lent numbers cells = record { numbers = numbers; cells = cells }

-- w has taken the rows of c
abbrev pub Watching : Watch → Table → Card → Type 0
Watching w t c = Watches w.numbers w.cells t c

-- a watch answers by numbers, 0 for no refusal: its making's stands in it as any other of its numbers
abbrev pub number_in : {A : Type 0} → Result A ℕ → ℕ
number_in (Ok a) = 0
number_in (Err n) = n

-- the number and margin of an answer to the margin
abbrev pub told_outcome : Result ℤ ℕ → MarginOutcome
told_outcome (Ok m) = record { number = 0; margin = m }
told_outcome (Err n) = record { number = n; margin = pos 0 }

-- the answer to a row: its number, and the watch afterwards
pub record Taken : Type 0 where
  pub number : ℕ
  pub watch : Watch

-- a refused row leaves the watch equal
pub record Took (w : Watch) (r : Row) (a : Taken) : Type 0 where
  pub equal : (a.number ≡ 0 → ⊥) → a.watch ≡ w
  pub number : (t : Table) (c : Card) → Watching w t c → a.number ≡ offer_refusal c t r
  pub watch : (t : Table) (c : Card) → Watching w t c → Watching a.watch t (accepted t c r)

-- the answer to the margin
abbrev pub Told : Watch → Result ℤ ℕ → Type 0
Told w a = (t : Table) (c : Card) → Watching w t c → told_outcome a ≡ margin_so_far c t

-- w becomes v while rows are offered to it
pub data Run : Watch → List Row → Watch → Type 0 where
  rest : (w : Watch) → Run w [] w
  offer : (w v : Watch) (r : Row) (rs : List Row) (a : Taken) → Took w r a → Run a.watch rs v → Run w (r ∷ rs) v
