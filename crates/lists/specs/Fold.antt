-- The first n values of a function put together, in the order in which a loop meets them.
-- Assumes nothing.
use Rattle.std.specs.Prelude.{Bool, true, false, ◌&&◌, ◌||◌, ℕ, zero, suc}

-- u, then f 0, f 1, .., f (n - 1), each joined by o
abbrev pub fold : {X : Type 0} → (X → X → X) → X → (ℕ → X) → ℕ → X
fold o u f zero = u
fold o u f (suc n) = o (fold o u f n) (f n)

-- p holds of every number below n
abbrev pub all_below : (ℕ → Bool) → ℕ → Bool
all_below p n = fold ◌&&◌ true p n

-- p holds of some number below n
abbrev pub any_below : (ℕ → Bool) → ℕ → Bool
any_below p n = fold ◌||◌ false p n
