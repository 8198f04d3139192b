-- The smaller and the larger of two whole numbers, and a bound on both sides of zero.
-- Assumes nothing.
use Rattle.std.specs.Prelude.{cond, ℕ, ◌≤◌, ℤ, nat_abs}
use Rattle.std.specs.Int.Signed.{lt_z}

abbrev pub smaller_of : ℤ → ℤ → ℤ
smaller_of a b = cond (lt_z b a) b a

abbrev pub larger_of : ℤ → ℤ → ℤ
larger_of a b = cond (lt_z a b) b a

-- z lies from -n to n
pub record Within (n : ℕ) (z : ℤ) : Type 0 where
  pub size : nat_abs z ≤ n
