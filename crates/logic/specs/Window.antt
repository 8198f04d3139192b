-- Windows, which src/ declares: the seconds from `from` on that stand before `stop`. Half-open, so that an empty window needs no negative number.
-- Assumes nothing.
use Rattle.std.specs.Prelude.{Bool, true, ◌&&◌, ℕ, leb, ltb}
use Rattle.logic.specs.declared.Stop.{Stop}
use Rattle.logic.specs.declared.Stop.TheVariants.{Endless, Before}
use Rattle.logic.specs.declared.Window.{Window}

abbrev pub reaches : Stop → ℕ → Bool
reaches Endless d = true
reaches (Before e) d = ltb d e

-- a sample is in the window of another when the time between them, d, is from lo to hi, both counted
abbrev pub inside : Window → ℕ → Bool
inside w d = leb w.from d && reaches w.stop d
