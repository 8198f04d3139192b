-- A whole number is its positive part less its negative part, and one of the two is 0. Each fact on whole numbers is turned into one on these
-- parts, which are natural numbers, so that `omega` decides it.
-- Assumes nothing.
use mathlib.Core.Path.{◌≡◌, refl, sym, ap, subst}
use mathlib.Core.Bool.{Bool, true, false, not, cond}
use Prim.Native.Nat.{ℕ, zero, suc, ◌+◌, ◌-◌, ◌*◌, ◌^◌, ◌≤◌, ◌<◌, min, max}
use native.Mathlib.Omega.{arith}
use native.Mathlib.Nat.{mul-add, mul-le-mul_left, mul-le-mul_right}
use lib.Dec.{T, not_T, ltb, ltb→lt, lt→ltb, leb→le, le→leb, nltb→le, nleb→lt}
use lib.IntN.{ℤ, pos, negsuc, neg_ℤ, suc_ℤ, ◌-ℤ◌, ◌+ℤ◌, ◌*ℤ◌, sub_ℕ, nat_abs}
use lib.Signed.{lt_z, le_z, mag}
use mir.Syntax.{w64}
use mir.Val.{SFits}
use Rattle.numbers.specs.Order.{smaller_of, larger_of, Within}

abbrev pub plus : ℤ → ℕ
plus (pos n) = n
plus (negsuc n) = 0

abbrev pub minus : ℤ → ℕ
minus (pos n) = 0
minus (negsuc n) = suc n

-- ---- the tests: what each says of the parts, and the parts that make it
pub lt_parts : (a b : ℤ) → T (lt_z a b) → plus a + minus b < plus b + minus a
lt_parts (pos a) (pos b) t = omega (arith, ltb→lt a b t)
lt_parts (pos a) (negsuc b) t = absurd t
lt_parts (negsuc a) (pos b) t = omega arith
lt_parts (negsuc a) (negsuc b) t = omega (arith, ltb→lt b a t)

pub parts_lt : (a b : ℤ) → plus a + minus b < plus b + minus a → T (lt_z a b)
parts_lt (pos a) (pos b) h = lt→ltb a b (omega arith)
parts_lt (pos a) (negsuc b) h = absurd (omega arith)
parts_lt (negsuc a) (pos b) h = tt
parts_lt (negsuc a) (negsuc b) h = lt→ltb b a (omega arith)

pub nlt_parts : (a b : ℤ) → T (not (lt_z a b)) → plus b + minus a ≤ plus a + minus b
nlt_parts (pos a) (pos b) t = omega (arith, nltb→le a b t)
nlt_parts (pos a) (negsuc b) t = omega arith
nlt_parts (negsuc a) (pos b) t = absurd t
nlt_parts (negsuc a) (negsuc b) t = omega (arith, nltb→le b a t)

pub parts_nlt : (a b : ℤ) → plus b + minus a ≤ plus a + minus b → T (not (lt_z a b))
parts_nlt a b h = not_T (lt_z a b) (λ t. omega (arith, lt_parts a b t))

pub le_parts : (a b : ℤ) → T (le_z a b) → plus a + minus b ≤ plus b + minus a
le_parts (pos a) (pos b) t = omega (arith, leb→le a b t)
le_parts (pos a) (negsuc b) t = absurd t
le_parts (negsuc a) (pos b) t = omega arith
le_parts (negsuc a) (negsuc b) t = omega (arith, leb→le b a t)

pub parts_le : (a b : ℤ) → plus a + minus b ≤ plus b + minus a → T (le_z a b)
parts_le (pos a) (pos b) h = le→leb a b (omega arith)
parts_le (pos a) (negsuc b) h = absurd (omega arith)
parts_le (negsuc a) (pos b) h = tt
parts_le (negsuc a) (negsuc b) h = le→leb b a (omega arith)

pub nle_parts : (a b : ℤ) → T (not (le_z a b)) → plus b + minus a < plus a + minus b
nle_parts (pos a) (pos b) t = omega (arith, nleb→lt a b t)
nle_parts (pos a) (negsuc b) t = omega arith
nle_parts (negsuc a) (pos b) t = absurd t
nle_parts (negsuc a) (negsuc b) t = omega (arith, nleb→lt b a t)

pub parts_nle : (a b : ℤ) → plus b + minus a < plus a + minus b → T (not (le_z a b))
parts_nle a b h = not_T (le_z a b) (λ t. omega (arith, le_parts a b t))

pub parts_eq : (a b : ℤ) → plus a + minus b ≡ plus b + minus a → a ≡ b
parts_eq (pos a) (pos b) h = ap pos (omega arith)
parts_eq (pos a) (negsuc b) h = let z : ◌≡◌ {A = ℕ} 0 1 = omega arith in cc
parts_eq (negsuc a) (pos b) h = let z : ◌≡◌ {A = ℕ} 0 1 = omega arith in cc
parts_eq (negsuc a) (negsuc b) h = ap negsuc (omega arith)

-- a test that a flag of the code answers
pub holds : {b : Bool} → b ≡ true → T b
holds e = subst T (sym e) tt

pub fails : {b : Bool} → b ≡ false → T (not b)
fails e = subst (λ (x : Bool). T (not x)) (sym e) tt

-- what a choice takes
pub taken : {X : Type 0} (t : Bool) (a b : X) → T t → cond t b a ≡ b
taken true a b h = refl
taken false a b h = absurd h

pub not_taken : {X : Type 0} (t : Bool) (a b : X) → T (not t) → cond t b a ≡ a
not_taken true a b h = absurd h
not_taken false a b h = refl

-- ---- the operations
pub parts_apart : (a : ℤ) → min (plus a) (minus a) ≡ 0
parts_apart (pos n) = omega arith
parts_apart (negsuc n) = omega arith

pub abs_parts : (a : ℤ) → nat_abs a ≡ plus a + minus a
abs_parts (pos n) = omega arith
abs_parts (negsuc n) = omega arith

pub plus_neg : (a : ℤ) → plus (neg_ℤ a) ≡ minus a
plus_neg (pos zero) = refl
plus_neg (pos (suc n)) = refl
plus_neg (negsuc n) = refl

pub minus_neg : (a : ℤ) → minus (neg_ℤ a) ≡ plus a
minus_neg (pos zero) = refl
minus_neg (pos (suc n)) = refl
minus_neg (negsuc n) = refl

pub suc_parts : (a : ℤ) → plus (suc_ℤ a) + minus a ≡ suc (plus a + minus (suc_ℤ a))
suc_parts (pos n) = omega arith
suc_parts (negsuc zero) = omega arith
suc_parts (negsuc (suc n)) = omega arith

diff_parts : (a b : ℕ) → plus (sub_ℕ a b) + b ≡ minus (sub_ℕ a b) + a
diff_parts a b = go (ltb a b) (ltb→lt a b) (nltb→le a b)
  where
    go : (c : Bool) → (T c → a < b) → (T (not c) → b ≤ a) → plus (cond c (negsuc (b - suc a)) (pos (a - b))) + b ≡ minus (cond c (negsuc (b - suc a)) (pos (a - b))) + a
    go true h k = omega (arith, h tt)
    go false h k = omega (arith, k tt)

pub add_parts : (a b : ℤ) → plus (a +ℤ b) + (minus a + minus b) ≡ minus (a +ℤ b) + (plus a + plus b)
add_parts (pos a) (pos b) = omega arith
add_parts (pos a) (negsuc b) = omega (arith, diff_parts a (suc b))
add_parts (negsuc a) (pos b) = omega (arith, diff_parts b (suc a))
add_parts (negsuc a) (negsuc b) = omega arith

pub sub_parts : (a b : ℤ) → plus (a -ℤ b) + (minus a + plus b) ≡ minus (a -ℤ b) + (plus a + minus b)
sub_parts a b = omega (arith, add_parts a (neg_ℤ b), plus_neg b, minus_neg b)

-- a natural number of times a whole number
pub plus_times : (k : ℕ) (a : ℤ) → plus (pos k *ℤ a) ≡ k * plus a
plus_times k (pos n) = refl
plus_times k (negsuc n) = rw (plus_neg (pos (k * suc n))) (omega arith)

pub minus_times : (k : ℕ) (a : ℤ) → minus (pos k *ℤ a) ≡ k * minus a
minus_times k (pos n) = omega arith
minus_times k (negsuc n) = minus_neg (pos (k * suc n))

pub times_neg : (k : ℕ) (a : ℤ) → neg_ℤ (pos k *ℤ a) ≡ pos k *ℤ neg_ℤ a
times_neg k a =
    parts_eq (neg_ℤ (pos k *ℤ a)) (pos k *ℤ neg_ℤ a)
    (rw (plus_neg (pos k *ℤ a), minus_neg (pos k *ℤ a), plus_times k a, minus_times k a, plus_times k (neg_ℤ a), minus_times k (neg_ℤ a), plus_neg a, minus_neg a) refl)

pub times_one : (a : ℤ) → pos 1 *ℤ a ≡ a
times_one a = parts_eq (pos 1 *ℤ a) a (omega (arith, plus_times 1 a, minus_times 1 a))

-- the smaller and the larger: the positive part rises with the number and the negative part falls
pub record Smaller (a b c : ℤ) : Type 0 where
  pub up : plus c ≡ min (plus a) (plus b)
  pub down : minus c ≡ max (minus a) (minus b)

pub record Larger (a b c : ℤ) : Type 0 where
  pub up : plus c ≡ max (plus a) (plus b)
  pub down : minus c ≡ min (minus a) (minus b)

order : (a b : ℤ) → plus a + minus b ≤ plus b + minus a → (plus a ≤ plus b) × (minus b ≤ minus a)
order (pos a) (pos b) h = omega arith
order (pos a) (negsuc b) h = omega arith
order (negsuc a) (pos b) h = omega arith
order (negsuc a) (negsuc b) h = omega arith

pub smaller_parts : (a b : ℤ) → Smaller a b (smaller_of a b)
smaller_parts a b = go (lt_z b a) (lt_parts b a) (nlt_parts b a)
  where
    go : (t : Bool) → (T t → plus b + minus a < plus a + minus b) → (T (not t) → plus a + minus b ≤ plus b + minus a) → Smaller a b (cond t b a)
    go true h k = let x = h tt in omega (arith, order b a (omega arith))
    go false h k = omega (arith, order a b (k tt))

pub larger_parts : (a b : ℤ) → Larger a b (larger_of a b)
larger_parts a b = go (lt_z a b) (lt_parts a b) (nlt_parts a b)
  where
    go : (t : Bool) → (T t → plus a + minus b < plus b + minus a) → (T (not t) → plus b + minus a ≤ plus a + minus b) → Larger a b (cond t b a)
    go true h k = let x = h tt in omega (arith, order a b (omega arith))
    go false h k = omega (arith, order b a (k tt))

-- ---- bounds on both sides of zero
pub within_neg : {n : ℕ} {a : ℤ} → Within n a → Within n (neg_ℤ a)
within_neg {a} h = record { size = omega (arith, abs_parts (neg_ℤ a), abs_parts a, plus_neg a, minus_neg a) }

pub within_more : {m n : ℕ} {a : ℤ} → m ≤ n → Within m a → Within n a
within_more h k = record { size = omega arith }

pub within_diff : {m n : ℕ} {a b : ℤ} → Within m a → Within n b → Within (m + n) (a -ℤ b)
within_diff {a} {b} h k = record { size = omega (arith, abs_parts (a -ℤ b), parts_apart (a -ℤ b), sub_parts a b, abs_parts a, abs_parts b) }

pub within_suc : {n : ℕ} {a : ℤ} → Within n a → Within (suc n) (suc_ℤ a)
within_suc {a} h = record { size = omega (arith, abs_parts (suc_ℤ a), parts_apart (suc_ℤ a), suc_parts a, abs_parts a) }

pub within_times : {m n : ℕ} {a : ℤ} (k : ℕ) → k ≤ m → Within n a → Within (m * n) (pos k *ℤ a)
within_times {m} {n} {a} k h w =
    let l : plus a + minus a ≤ n = omega (arith, abs_parts a, w.size) in
    record { size = omega (arith, abs_parts (pos k *ℤ a), plus_times k a, minus_times k a, mul-add k (plus a) (minus a), mul-le-mul_left k l, mul-le-mul_right n h) }

-- whichever of two a test takes: the smaller and the larger of two are such
pub within_either : {n : ℕ} {a b : ℤ} (t : Bool) → Within n a → Within n b → Within n (cond t b a)
within_either true h k = k
within_either false h k = h

-- what lies within less than 2^63 fits a signed 64-bit number
magnitude : (z : ℤ) → nat_abs z < 2 ^ 63 → mag z < 2 ^ 63
magnitude (pos n) h = h
magnitude (negsuc n) h = omega arith

pub within_fits : {n : ℕ} {z : ℤ} → n < 2 ^ 63 → Within n z → SFits w64 z
within_fits {z} h k = record { sfits = magnitude z (omega (arith, k.size)) }
