-- The tests of refusals 5 to 7. `proofs/Recording` shows each equal to its sentence in `recordings/specs/Accepted`.
-- Assumes nothing.
use Rattle.std.specs.Prelude.{Bool, ◌&&◌, List, ℕ, suc, ◌-◌, ◌*◌, leb, ltb, eqb, length, get_or, ℤ, pos}
use Rattle.lists.specs.Fold.{all_below}
use Rattle.recordings.specs.Accepted.{MOST_ROWS, LATEST}
use Rattle.predicates.specs.Predicates.{value_obeys}

-- ---- 5: not one scale for each channel; no sample, over 4,096, or values not rows × channels long
unfoldable pub samples_obey : ℕ → ℕ → ℕ → Bool
samples_obey channels rows values = leb rows MOST_ROWS && (leb 1 rows && eqb values (rows * channels))

unfoldable pub lengths_obey : ℕ → ℕ → ℕ → ℕ → Bool
lengths_obey scales channels rows values = eqb scales channels && samples_obey channels rows values

-- ---- 6: times not rising, or one too large
unfoldable pub all_rising : List ℕ → Bool
all_rising ts = all_below (λ i. ltb (get_or ts i 0) (get_or ts (suc i) 0)) (length ts - 1)

unfoldable pub all_early : List ℕ → Bool
all_early ts = all_below (λ i. leb (get_or ts i 0) LATEST) (length ts)

unfoldable pub times_obey : List ℕ → Bool
times_obey ts = all_rising ts && all_early ts

-- ---- 7: a value out of range
unfoldable pub values_obey : List ℤ → Bool
values_obey vs = all_below (λ m. value_obeys (get_or vs m (pos 0))) (length vs)
