-- The list of the first values of a function.
-- Assumes nothing.
use Rattle.std.specs.Prelude.{List, [], ◌∷◌, ◌++◌, ℕ}
use Rattle.lists.specs.Fold.{fold}

-- f 0, f 1, .., f (n - 1)
abbrev pub each_below : {X : Type 0} → (ℕ → X) → ℕ → List X
each_below f n = fold ◌++◌ [] (λ k. f k ∷ []) n
