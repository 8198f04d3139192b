-- Two kinds with a window tried in turn are the list of both.
-- Assumes nothing.
use mathlib.Core.Path.{◌≡◌, refl, sym, ap}
use mathlib.Core.List.{List, [], ◌∷◌}
use Prim.Native.Nat.{ℕ}
use Rattle.grammar.specs.declared.Operator.{Operator}
use Rattle.grammar.specs.declared.Operator.TheVariants.{Absent, Over, Bad}
use Rattle.grammar.specs.Reading.{timed_at, timed_among, or_else}

or_absent : (x : Operator) → or_else x Absent ≡ x
or_absent Absent = refl
or_absent (Over k r n) = refl
or_absent Bad = refl

pub two_kinds : (j k : ℕ) (s : List ℕ) (at : ℕ) → or_else (timed_at j s at) (timed_at k s at) ≡ timed_among (j ∷ k ∷ []) s at
unfolding timed_among
two_kinds j k s at = ap (or_else (timed_at j s at)) (sym (or_absent (timed_at k s at)))
