-- One clearance, taken from either end, makes every distance: what is shown of it over its two arguments serves at least, at most and between alike.
-- Assumes nothing.
use mathlib.Core.Path.{◌≡◌, refl}
use mathlib.Core.Bool.{Bool, true, false, not, cond}
use mathlib.Core.Logic.{◌⊎◌, inl, inr}
use Prim.Native.Nat.{ℕ, suc, ◌+◌, ◌*◌, ◌≤◌, ◌<◌}
use native.Mathlib.Omega.{arith}
use lib.Dec.{T}
use lib.IntN.{ℤ, pos, neg_ℤ, suc_ℤ, ◌-ℤ◌, ◌*ℤ◌, nat_abs}
use lib.Signed.{le_z, lt_z}
use Rattle.numbers.specs.Order.{Within}
use Rattle.numbers.proofs.Parts.{plus, minus, lt_parts, parts_lt, le_parts, parts_le, nle_parts, parts_nle, plus_neg, minus_neg, abs_parts, suc_parts, sub_parts, within_diff, within_suc, within_more, within_times, within_either}
use Rattle.lists.proofs.Below.{same_test}
use Rattle.logic.specs.declared.Extremum.TheVariants.{Smallest}
use Rattle.logic.proofs.Margins.{Sign, sign_step, sign_times, Decides, decides_step, decides_times}
use Rattle.recordings.specs.declared.Range.{Range}
use Rattle.recordings.specs.declared.Range.TheVariants.{Unset, Free, AtLeast, AtMost, Between}
use Rattle.recordings.specs.Distance.{contains, clearance, distance, is_free, scaled_distance}
use Rattle.recordings.specs.Accepted.{FARTHEST, MOST_SCALE, InRange, Ends}

-- ---- the clearance
-- from a to b, and from c to d: two differences at most e apart
record Moved (e : ℕ) (a b c d : ℤ) : Type 0 where
  down : (plus b + minus a) + (plus c + minus d) ≤ (plus a + minus b) + (plus d + minus c) + e
  up : (plus a + minus b) + (plus d + minus c) ≤ (plus b + minus a) + (plus c + minus d) + e

clearance_decides : (e : ℕ) (a b c d : ℤ) → Moved e a b c d → Decides e (clearance a b) (le_z c d)
clearance_decides e a b c d m = go (le_z a b) (le_parts a b) (nle_parts a b)
  where
    go : (t : Bool) → (T t → plus a + minus b ≤ plus b + minus a) → (T (not t) → plus b + minus a < plus a + minus b) → Decides e (cond t (suc_ℤ (b -ℤ a)) (b -ℤ a)) (le_z c d)
    go true h k = record {
      when_true = λ t. parts_le c d (omega (arith, lt_parts (pos e) (suc_ℤ (b -ℤ a)) t, suc_parts (b -ℤ a), sub_parts b a));
      when_false = λ t. absurd (omega (arith, lt_parts (pos e) (neg_ℤ (suc_ℤ (b -ℤ a))) t, plus_neg (suc_ℤ (b -ℤ a)), minus_neg (suc_ℤ (b -ℤ a)), suc_parts (b -ℤ a), sub_parts b a, h tt));
    }
    go false h k = record {
      when_true = λ t. absurd (omega (arith, lt_parts (pos e) (b -ℤ a) t, sub_parts b a, k tt));
      when_false = λ t. parts_nle c d (omega (arith, lt_parts (pos e) (neg_ℤ (b -ℤ a)) t, plus_neg (b -ℤ a), minus_neg (b -ℤ a), sub_parts b a));
    }

clearance_sign : (a b : ℤ) → Sign (clearance a b) (le_z a b)
clearance_sign a b = go (le_z a b) (le_parts a b) (nle_parts a b)
  where
    go : (t : Bool) → (T t → plus a + minus b ≤ plus b + minus a) → (T (not t) → plus b + minus a < plus a + minus b) → Sign (cond t (suc_ℤ (b -ℤ a)) (b -ℤ a)) t
    go true h k = record {
      when_true = same_test (λ t. tt) (λ t. parts_lt (pos 0) (suc_ℤ (b -ℤ a)) (omega (arith, h tt, suc_parts (b -ℤ a), sub_parts b a)));
      when_false = same_test (λ t. omega (arith, lt_parts (pos 0) (neg_ℤ (suc_ℤ (b -ℤ a))) t, h tt, plus_neg (suc_ℤ (b -ℤ a)), minus_neg (suc_ℤ (b -ℤ a)), suc_parts (b -ℤ a), sub_parts b a)) absurd;
    }
    go false h k = record {
      when_true = same_test (λ t. omega (arith, lt_parts (pos 0) (b -ℤ a) t, k tt, sub_parts b a)) absurd;
      when_false = same_test (λ t. tt) (λ t. parts_lt (pos 0) (neg_ℤ (b -ℤ a)) (omega (arith, k tt, plus_neg (b -ℤ a), minus_neg (b -ℤ a), sub_parts b a)));
    }

clearance_small : (n : ℕ) (a b : ℤ) → Within n a → Within n b → Within (suc (n + n)) (clearance a b)
clearance_small n a b h k = within_either (le_z a b) (within_more (omega arith) (within_diff k h)) (within_suc (within_diff k h))

-- ---- the distance from a range
-- a number at most e from the value: what the value's distance says of it
distance_decides : (e top : ℕ) (r : Range) (v x : ℤ) → nat_abs (x -ℤ v) ≤ e → Decides e (distance top r v) (contains r x)
distance_decides e top r v x h = go r
  where
    low : (lo : ℤ) → Decides e (clearance lo v) (le_z lo x)
    low lo = clearance_decides e lo v lo x (omega (arith, abs_parts (x -ℤ v), sub_parts x v))

    high : (hi : ℤ) → Decides e (clearance v hi) (le_z x hi)
    high hi = clearance_decides e v hi x hi (omega (arith, abs_parts (x -ℤ v), sub_parts x v))

    go : (r : Range) → Decides e (distance top r v) (contains r x)
    go Unset = (decides_step e top).nothing Smallest
    go Free = (decides_step e top).nothing Smallest
    go (AtLeast lo) = low lo
    go (AtMost hi) = high hi
    go (Between lo hi) = (decides_step e top).extremes Smallest (low lo) (high hi)

-- the sign is the predicate's truth
distance_sign : (top : ℕ) → 0 < top → (r : Range) (v : ℤ) → Sign (distance top r v) (contains r v)
distance_sign top h Unset v = (sign_step top h).nothing Smallest
distance_sign top h Free v = (sign_step top h).nothing Smallest
distance_sign top h (AtLeast lo) v = clearance_sign lo v
distance_sign top h (AtMost hi) v = clearance_sign v hi
distance_sign top h (Between lo hi) v = (sign_step top h).extremes Smallest (clearance_sign lo v) (clearance_sign v hi)

-- a range that takes every number
abbrev pub Open : Range → Type 0
Open r = T (is_free r)

-- the distance of a value in range is at most 2,000,000,001 from zero, unless the range is open
pub distance_small : (top : ℕ) (r : Range) (v : ℤ) → Ends r → InRange v → (Open r → ⊥) → Within 2_000_000_001 (distance top r v)
distance_small top Unset v h k o = absurd (o tt)
distance_small top Free v h k o = absurd (o tt)
distance_small top (AtLeast lo) v h k o = clearance_small FARTHEST lo v h k
distance_small top (AtMost hi) v h k o = clearance_small FARTHEST v hi k h
distance_small top (Between lo hi) v h k o = within_either (lt_z (clearance v hi) (clearance lo v)) (clearance_small FARTHEST lo v h.0 k) (clearance_small FARTHEST v hi k h.1)

-- ---- in the channel's unit
-- the top, or k times the distance: what holds of both holds of the scaled distance
scaled_case : (P : ℤ → Bool → Type 0) (top k : ℕ) (r : Range) (v x : ℤ) → P (pos top) true → P (pos k *ℤ distance top r v) (contains r x) → P (scaled_distance top k r v) (contains r x)
scaled_case P top k Unset v x free other = free
scaled_case P top k Free v x free other = free
scaled_case P top k (AtLeast lo) v x free other = other
scaled_case P top k (AtMost hi) v x free other = other
scaled_case P top k (Between lo hi) v x free other = other

-- a number at most e from the value in the scaled unit: what the value's scaled distance says of it
pub scaled_decides : (e top k : ℕ) (r : Range) (v x : ℤ) → k * nat_abs (x -ℤ v) ≤ e → Decides e (scaled_distance top k r v) (contains r x)
scaled_decides e top k r v x h = scaled_case (Decides e) top k r v x ((decides_step e top).nothing Smallest) (decides_times k (nat_abs (x -ℤ v)) e h (distance_decides (nat_abs (x -ℤ v)) top r v x (omega arith)))

pub scaled_sign : (top k : ℕ) → 0 < top → 0 < k → (r : Range) (v : ℤ) → Sign (scaled_distance top k r v) (contains r v)
scaled_sign top k h s r v = scaled_case Sign top k r v v ((sign_step top h).nothing Smallest) (sign_times k s (distance_sign top h r v))

-- free apart, it is the scale times the distance
pub scaled_times : (top k : ℕ) (r : Range) (v : ℤ) → (Open r → ⊥) → scaled_distance top k r v ≡ pos k *ℤ distance top r v
scaled_times top k Unset v o = absurd (o tt)
scaled_times top k Free v o = absurd (o tt)
scaled_times top k (AtLeast lo) v o = refl
scaled_times top k (AtMost hi) v o = refl
scaled_times top k (Between lo hi) v o = refl

pub free_or_not : (r : Range) → Open r ⊎ (Open r → ⊥)
free_or_not r = go (is_free r)
  where
    go : (b : Bool) → T b ⊎ (T b → ⊥)
    go true = inl tt
    go false = inr (λ t. t)

-- and, for a value in range, at most 1,000 × 2,000,000,001 from zero
pub scaled_small : (top k : ℕ) → k ≤ MOST_SCALE → (r : Range) (v : ℤ) → Ends r → InRange v → Open r ⊎ Within 2_000_000_001_000 (scaled_distance top k r v)
scaled_small top k m r v h n = elim (free_or_not r) [ inl o ↦ inl o | inr o ↦ inr (rw (scaled_times top k r v o) (within_times k m (distance_small top r v h n o))) ]

pub scaled_open : (top k : ℕ) (r : Range) (v : ℤ) → Open r → scaled_distance top k r v ≡ pos top
scaled_open top k Unset v o = refl
scaled_open top k Free v o = refl
scaled_open top k (AtLeast lo) v o = absurd o
scaled_open top k (AtMost hi) v o = absurd o
scaled_open top k (Between lo hi) v o = absurd o
