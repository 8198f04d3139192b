-- The extremum over a run of places, and what is known of it while the run's two ends move forward.
-- Assumes nothing.
use Rattle.std.specs.Prelude.{cond, List, ℕ, ◌+◌, ◌-◌, ltb, ℤ}
use Rattle.lists.specs.Fill.{fill}
use Rattle.logic.specs.declared.Extremum.{Extremum}
use Rattle.logic.specs.Reading.{extremum, margins, margin_nothing}
use Rattle.recordings.specs.Distance.{TOP}
use Rattle.sliding.specs.declared.SlidingExtremum.{SlidingExtremum}

-- the largest, or the smallest, of f over the places from a up to, not including, b
abbrev pub over : Extremum → (ℕ → ℤ) → ℕ → ℕ → ℤ
over e f a b = extremum (margins TOP) e (λ m. f (a + m)) (b - a)

-- before the first place
abbrev pub at_start : Extremum → SlidingExtremum
at_start e = record { cut = 0; high = 0; tail = margin_nothing TOP e; value = margin_nothing TOP e }

-- what is known of the run from low up to high, parted at cut
abbrev pub sliding_over : Extremum → (ℕ → ℤ) → ℕ → ℕ → ℕ → SlidingExtremum
sliding_over e f low cut high = record { cut = cut; high = high; tail = over e f cut high; value = over e f low high }

-- a run stays parted where it was until its low end has come there; then it is parted at its high end
abbrev pub next_cut : ℕ → ℕ → ℕ → ℕ
next_cut cut low high = cond (ltb low cut) cut high

-- the cells w, in which each place from low up to cut of the row that begins at cell b holds the extremum from it up to cut
abbrev pub suffixed : Extremum → (ℕ → ℤ) → ℕ → ℕ → ℕ → List ℤ → List ℤ
suffixed e f b low cut w = fill (b + low) (cut - low) (λ m. over e f (low + m) cut) w
