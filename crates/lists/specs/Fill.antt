-- A run of places written from one place on, and rows of them.
-- Assumes nothing.
use Rattle.std.specs.Prelude.{ℕ, zero, suc, ◌+◌, ◌*◌, List, set}

-- w with f 0, f 1, .., f (n - 1) in the n places from b on, and its other places as they are
unfoldable pub fill : {X : Type 0} → ℕ → ℕ → (ℕ → X) → List X → List X
fill b zero f w = w
fill b (suc n) f w = set (fill b n f w) (b + n) (f n)

-- w with its first r rows of n places each filled: row q has f q 0, .., f q (n - 1)
unfoldable pub fill_rows : {X : Type 0} → ℕ → (ℕ → ℕ → X) → ℕ → List X → List X
fill_rows n f zero w = w
fill_rows n f (suc r) w = fill (r * n) n (f r) (fill_rows n f r w)
