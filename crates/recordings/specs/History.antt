-- Histories: the courses that the channels may have taken between the samples, and the truth of a requirement over one.
-- Assumes nothing.
use Rattle.std.specs.Prelude.{Bool, ℕ, ◌+◌, ◌*◌, ◌≤◌, ◌<◌, ℤ, ◌-ℤ◌, nat_abs}
use Rattle.logic.specs.Formula.{Formula}
use Rattle.logic.specs.Reading.{read, booleans}
use Rattle.recordings.specs.Card.{Card, rows, time, scale, value, predicate, first_time, last_time, span}
use Rattle.recordings.specs.Distance.{contains}

-- a second of the recording's span
pub record Second (c : Card) (t : ℕ) : Type 0 where
  pub from_first : first_time c ≤ t
  pub to_last : t ≤ last_time c

-- second t is at most one step from sample i, before or after
pub record OneStep (c : Card) (step i t : ℕ) : Type 0 where
  pub after : time c i ≤ t + step
  pub before : t ≤ time c i + step

-- h gives each channel a whole number at each second; in a history it differs, in the scaled unit, by at most the drift from that channel's value at every sample at most one step off
pub record History (c : Card) (step drift : ℕ) (h : ℕ → ℕ → ℤ) : Type 0 where
  pub follows : (ch i t : ℕ) → ch < c.setup.channels → i < rows c → Second c t → OneStep c step i t → scale c ch * nat_abs (h ch t -ℤ value c ch i) ≤ drift

-- a predicate is true at a second where its channel's number then is inside its range
abbrev pub true_when : Card → (ℕ → ℕ → ℤ) → ℕ → ℕ → Bool
true_when c h p t = contains (predicate c p).range (h (predicate c p).channel t)

-- truth over a history: the table's readings with seconds for samples
unfoldable pub true_over : Card → (ℕ → ℕ → ℤ) → Formula ℕ → ℕ → Bool
true_over c h φ t = read booleans (span c) (true_when c h) φ t
