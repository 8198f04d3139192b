-- The test of refusal 13. `proofs/Scales` shows it equal to its sentence, `Scaled` of `recordings/specs/Accepted`.
-- Assumes nothing.
use Rattle.std.specs.Prelude.{Bool, ◌&&◌, ◌||◌, ℕ, leb, get_or}
use Rattle.lists.specs.Fold.{all_below}
use Rattle.recordings.specs.declared.Scales.{Scales}
use Rattle.recordings.specs.Accepted.{MOST_CHANNELS, MOST_SCALE}

unfoldable pub scale_obeys : ℕ → Bool
scale_obeys k = leb 1 k && leb k MOST_SCALE

-- a place from the count on holds no scale that was passed
unfoldable pub passed_obeys : ℕ → ℕ → ℕ → Bool
passed_obeys count channel k = leb count channel || scale_obeys k

unfoldable pub scales_obey : Scales → Bool
scales_obey ks = all_below (λ ch. passed_obeys ks.count ch (get_or ks.each ch 0)) MOST_CHANNELS
