-- The loop's invariant: what was handed in is joined with the places from `from` up to j.
-- Assumes nothing.
use mathlib.Core.Path.{◌≡◌}
use Prim.Native.Nat.{◌+◌, ◌-◌, ◌≤◌, max}
use Rattle.lists.specs.Fold.{fold}
use Rattle.logic.specs.Reading.{margin_extreme}
use Rattle.rows.specs.Cells.{cell}
use Rattle.sliding.proofs.joined_on.Given as goal

abbrev pub invariant-loop-j : goal.invariant-loop-j
invariant-loop-j l =
    (l.j ≤ max l.from l.high) × (l.joined ≡ fold (margin_extreme l.e) l.tail (λ m. cell l.cells l.rows l.source (l.from + m)) (l.j - l.from))
