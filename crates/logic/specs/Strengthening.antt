-- Strengthening after Fainekos and Pappas: what must be found must be found a step inside its window, and what must be kept must be kept a step beyond it.
-- Assumes nothing.
use Rattle.std.specs.Prelude.{Bool, ℕ, zero, suc, ◌+◌, ◌-◌}
use Rattle.logic.specs.declared.Stop.{Stop}
use Rattle.logic.specs.declared.Stop.TheVariants.{Endless, Before}
use Rattle.logic.specs.declared.Window.{Window}
use Rattle.logic.specs.declared.Extremum.{Extremum}
use Rattle.logic.specs.declared.Extremum.TheVariants.{Largest, Smallest}
use Rattle.logic.specs.Formula.{Formula, truth, atom, negation, junction, temporal}
use Rattle.logic.specs.Negation.{push}

-- no end remains no end
abbrev pub sooner : ℕ → Stop → Stop
sooner s Endless = Endless
sooner s (Before e) = Before (e - s)

abbrev pub later : ℕ → Stop → Stop
later s Endless = Endless
later s (Before e) = Before (e + s)

-- the contraction's low end: lo + step, but 0 stays 0, since no time comes before zero
abbrev pub delayed : ℕ → ℕ → ℕ
delayed s zero = zero
delayed s (suc lo) = suc lo + s

-- the source's contraction of a window from lo to hi: from the delayed lo to hi - step, perhaps empty
abbrev pub contraction : ℕ → Window → Window
contraction s w = record { from = delayed s w.from; stop = sooner s w.stop }

-- the source's expansion: lo - step, not below 0, to hi + step
abbrev pub expansion : ℕ → Window → Window
expansion s w = record { from = w.from - s; stop = later s w.stop }

-- until and eventually contract their windows, release and always expand them
abbrev pub strengthen_window : Extremum → ℕ → Window → Window
strengthen_window Largest s w = contraction s w
strengthen_window Smallest s w = expansion s w

abbrev pub strengthen : {P : Type 0} → ℕ → Formula P → Formula P
strengthen s truth = truth
strengthen s (atom p) = atom p
strengthen s (negation φ) = negation φ
strengthen s (junction e l r) = junction e (strengthen s l) (strengthen s r)
strengthen s (temporal d e w l r) = temporal d e (strengthen_window e s w) (strengthen s l) (strengthen s r)

-- first "not" is pushed down, then windows change: at true the strengthened requirement, at false its strengthened negation
abbrev pub strengthened : {P : Type 0} → ℕ → Bool → Formula P → Formula P
strengthened s b φ = strengthen s (push b φ)
