-- The distance of a value from a predicate's range, over the whole numbers: signed and never zero; and the same in its channel's unit.
-- Assumes nothing.
use Rattle.std.specs.Prelude.{Bool, true, false, not, cond, ◌&&◌, ◌≡◌, ℕ, ◌≤◌, T, ℤ, pos, neg_ℤ, ◌-ℤ◌, ◌*ℤ◌, nat_abs}
use Rattle.std.proofs.Math.IntN.{suc_ℤ}
use Rattle.std.specs.Int.Signed.{le_z}
use Rattle.numbers.specs.Order.{smaller_of}
use Rattle.recordings.specs.declared.Range.{Range}
use Rattle.recordings.specs.declared.Range.TheVariants.{Unset, Free, AtLeast, AtMost, Between}

-- no margin is further from zero
abbrev pub TOP : ℕ
TOP = 4_000_000_000_000

-- the one range that sets no predicate
abbrev pub is_unset : Range → Bool
is_unset Unset = true
is_unset Free = false
is_unset (AtLeast lo) = false
is_unset (AtMost hi) = false
is_unset (Between lo hi) = false

-- a predicate is true inside its range; free takes every number, and so does unset, which no accepted table names
abbrev pub contains : Range → ℤ → Bool
contains Unset v = true
contains Free v = true
contains (AtLeast lo) v = le_z lo v
contains (AtMost hi) v = le_z v hi
contains (Between lo hi) v = le_z lo v && le_z v hi

-- how far b is from falling below a, counted from 1, or minus how far it is below
abbrev pub clearance : ℤ → ℤ → ℤ
clearance a b = cond (le_z a b) (suc_ℤ (b -ℤ a)) (b -ℤ a)

-- free gives the top; `Nearest` below says what the others give
abbrev pub distance : ℕ → Range → ℤ → ℤ
distance top Unset v = pos top
distance top Free v = pos top
distance top (AtLeast lo) v = clearance lo v
distance top (AtMost hi) v = clearance v hi
distance top (Between lo hi) v = smaller_of (clearance lo v) (clearance v hi)

-- free, or unset, which reads so
abbrev pub is_free : Range → Bool
is_free Unset = true
is_free Free = true
is_free (AtLeast lo) = false
is_free (AtMost hi) = false
is_free (Between lo hi) = false

-- a distance is multiplied by its channel's scale; free alone stays at the top
abbrev pub scaled_distance : ℕ → ℕ → Range → ℤ → ℤ
scaled_distance top k r v = cond (is_free r) (pos top) (pos k *ℤ distance top r v)

-- of the numbers that pass the test, the nearest to x is n away
pub record Nearest (test : ℤ → Bool) (x : ℤ) (n : ℕ) : Type 0 where
  pub nearest : ℤ
  pub passes : T (test nearest)
  pub away : nat_abs (nearest -ℤ x) ≡ n
  pub least : (y : ℤ) → T (test y) → n ≤ nat_abs (y -ℤ x)

-- inside, how far the nearest outside number is; outside, minus the distance to the nearest inside number
pub record Measures (r : Range) (x d : ℤ) : Type 0 where
  pub inside : T (contains r x) → (n : ℕ) × (d ≡ pos n) × Nearest (λ y. not (contains r y)) x n
  pub outside : T (not (contains r x)) → (n : ℕ) × (d ≡ neg_ℤ (pos n)) × Nearest (contains r) x n
