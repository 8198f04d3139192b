-- Eight places for scales: those that are set from the first on stand in front, and behind them is 0.
-- Assumes nothing.
use mathlib.Core.Path.{◌≡◌, ◌∙◌}
use mathlib.Core.List.{List, []}
use Prim.Native.Nat.{ℕ, ◌≤◌}
use native.Mathlib.Nat.{zero-add}
use native.Mathlib.Omega.{arith}
use lib.ListN.{length}
use Rattle.std.proofs.lemmas.List.{drop-replicate}
use lib.Seq.{sets, sets-eq}
use Rattle.recordings.specs.Accepted.{MOST_CHANNELS}
use Rattle.recordings.specs.Card.{eight}

pub eight_set : (scales : List ℕ) → length scales ≤ MOST_CHANNELS → sets (eight []) 0 scales ≡ eight scales
eight_set scales l = sets-eq scales (eight []) 0 (omega arith) ∙ rw (zero-add, drop-replicate {X = ℕ} (length scales) MOST_CHANNELS 0)
