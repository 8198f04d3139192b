-- A number of 64 bits has at most twenty digits, one below 10,000,000,000 at most ten: each digit less divides it by ten.
-- Assumes nothing.
use mathlib.Core.Path.{◌≡◌, ap, ◌∙◌}
use mathlib.Core.List.{[], ◌∷◌}
use Prim.Native.Nat.{ℕ, zero, suc, ◌+◌, ◌*◌, ◌/◌, ◌^◌, ◌≤◌, ◌<◌}
use native.Mathlib.Omega.{arith}
use native.Mathlib.Decide.{dec_lt}
use lib.ListN.{length, length-append}
use lib.IntN.{ℤ, pos, negsuc}
use mir.Syntax.{w64}
use mir.Val.{SFits, Fits}
use Rattle.printing.specs.Decimal.{digit_of, decimal, decimal_signed}
use Rattle.printing.proofs.Decimal.{decimal_one, decimal_more}

-- the least number of more than k + 1 digits
beyond : ℕ → ℕ
beyond zero = 10
beyond (suc k) = 10 * beyond k

one_long : (n : ℕ) → n < 10 → length (decimal n) ≡ 1
one_long n h = ap length (decimal_one n h)

more_long : (n : ℕ) → 10 ≤ n → length (decimal n) ≡ length (decimal (n / 10)) + 1
more_long n h = ap length (decimal_more n h) ∙ length-append (decimal (n / 10)) (digit_of n ∷ [])

digits_few : (k n : ℕ) → n < beyond k → length (decimal n) ≤ suc k
unfolding beyond
digits_few zero n h = omega (arith, one_long n h)
digits_few (suc k) n h = elim (dec_lt n 10) [
  | yes s ↦ omega (arith, one_long n s)
  | no s ↦ let t : n / 10 < beyond k = omega arith in omega (arith, more_long n (omega arith), digits_few k (n / 10) t)
]

twenty : (n : ℕ) → n < 2 ^ 64 → length (decimal n) ≤ 20
unfolding beyond
twenty n h = digits_few 19 n (omega arith)

pub decimal_ten : (n : ℕ) → n < 10 ^ 10 → length (decimal n) ≤ 10
unfolding beyond
decimal_ten n h = digits_few 9 n (omega arith)

pub decimal_few : (n : ℕ) → Fits w64 n → length (decimal n) ≤ 20
decimal_few n f = twenty n f.fits

pub signed_few : (v : ℤ) → SFits w64 v → length (decimal_signed v) ≤ 21
signed_few (pos n) f = omega (arith, twenty n (omega (arith, f.sfits)))
signed_few (negsuc n) f = omega (arith, twenty (suc n) (omega (arith, f.sfits)))
