-- The ends that a table's rules allow are at most the one that stands for no end, so a step can be added to them.
-- Assumes nothing.
use mathlib.Core.Bool.{Bool, true, false, cond}
use mathlib.Core.Logic.{inl, inr}
use Prim.Native.Nat.{ℕ, suc, ◌-◌, ◌≤◌}
use native.Mathlib.Omega.{arith}
use lib.Dec.{eqb}
use Rattle.logic.specs.declared.Stop.TheVariants.{Endless, Before}
use Rattle.tables.specs.declared.Span.{Span}
use Rattle.tables.specs.declared.Node.{Node}
use Rattle.tables.specs.Kind.{operator}
use Rattle.tables.specs.Tree.{NO_END, as_read, window}
use Rattle.tables.specs.Rules.{WindowRules, NodeRules, timed}
use Rattle.tables.proofs.Rules.{window_ruled}
use Rattle.windows.specs.Bounds.{Short, ShortStop}

pub end_known : {w : Span} → WindowRules w → w.hi ≤ NO_END
end_known r = elim r.high [ inl h ↦ omega (arith, h.0) | inr h ↦ omega (arith, h.0) ]

read_short : (w : Span) → WindowRules w → Short (as_read w)
read_short w r = record { from = omega (arith, r.low, r.marks.0); stop = stop (eqb w.hi NO_END) (end_known r) }
  where
    stop : (t : Bool) → w.hi ≤ NO_END → ShortStop (cond t Endless (Before (suc w.hi - w.openhi)))
    stop true h = tt
    stop false h = omega arith

module _ {n : Node} {k : ℕ} (r : NodeRules n k) where
  pub ruled_window : WindowRules n.span
  ruled_window = window_ruled (timed (operator n.kind)) n.span r.ends

  pub window_short : Short (window n)
  window_short = read_short n.span ruled_window
