-- What slides along with the window: before it left's extremum, with which until and release begin; with no left operand, right's over the window.
-- Assumes nothing.
use Rattle.std.specs.Option.{unwrap_or}
use Rattle.std.specs.Prelude.{Option, Some, None, List, ℕ, ℤ}
use Rattle.logic.specs.declared.Extremum.{Extremum}
use Rattle.logic.specs.Formula.{dual}
use Rattle.rows.specs.Cells.{cell}
use Rattle.sliding.specs.Run.{over}

-- of two, the one for until and release, or the one for eventually and always
abbrev pub if_left : {X : Type 0} → Option ℕ → X → X → X
if_left (Some r) a b = a
if_left None a b = b

-- left slides where there is one: its extremum over the run that belongs to place i, the window's places being those from first up to, not including, end
abbrev pub slid_at : Extremum → List ℤ → ℕ → Option ℕ → ℕ → ℕ → ℕ → ℕ → ℤ
slid_at e w n left right i first end = over (if_left left (dual e) e) (cell w n (unwrap_or left right)) (if_left left i first) (if_left left first end)
