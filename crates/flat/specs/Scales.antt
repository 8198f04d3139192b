-- Scales as flat numbers: as many as the slice is long. A setup of flat numbers.
-- Assumes nothing.
use Rattle.std.specs.Prelude.{Bool, cond, List, ℕ, length, get_or, replicate, ℤ}
use Rattle.lists.specs.Fold.{all_below}
use Rattle.recordings.specs.declared.Scales.{Scales}
use Rattle.recordings.specs.declared.Setup.{Setup}
use Rattle.recordings.specs.Accepted.{MOST_CHANNELS}
use Rattle.scales.specs.Scales.{scale_obeys}
use Rattle.lists.specs.Front.{written}
use Rattle.flat.specs.Predicates.{predicates_from}

-- every one is in range
unfoldable pub each_obeys : List ℕ → Bool
each_obeys ks = all_below (λ i. scale_obeys (get_or ks i 0)) (length ks)

-- the first eight; where one of all is out of range they read as 0, which is out of range too, so that each one that was passed is judged
unfoldable pub scales_from : List ℕ → Scales
scales_from ks = record { count = length ks; each = cond (each_obeys ks) (written ks (replicate MOST_CHANNELS 0)) (replicate MOST_CHANNELS 0) }

abbrev pub setup_from : List ℕ → List ℤ → ℕ → List ℕ → Setup
setup_from ranges ends channels ks = record { channels = channels; scales = scales_from ks; predicates = predicates_from ranges ends }
