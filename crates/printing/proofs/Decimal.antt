-- As many turns as the number are enough for its digits, so a number of two digits or more is written as its tenth part and its last digit.
-- Assumes nothing.
use mathlib.Core.Path.{◌≡◌, refl, ap}
use mathlib.Core.List.{List, [], ◌∷◌, ◌++◌}
use Prim.Native.Nat.{ℕ, zero, suc, ◌/◌, ◌≤◌, ◌<◌}
use native.Mathlib.Omega.{arith}
use borrow.Author.Tests.{lt-ltb, le-ltb}
use Rattle.printing.specs.Decimal.{digit_of, digits, decimal}

tenth : (n f : ℕ) → n ≤ suc f → n / 10 ≤ f
tenth n f h = omega arith

enough : (f g n : ℕ) → n ≤ f → n ≤ g → digits f n ≡ digits g n
unfolding digits
enough zero zero n h k = refl
enough zero (suc g) n h k = let e : n ≡ 0 = omega arith in rw e refl
enough (suc f) zero n h k = let e : n ≡ 0 = omega arith in rw e refl
enough (suc f) (suc g) n h k = rw (enough f g (n / 10) (tenth n f h) (tenth n g k)) refl

pub decimal_one : (n : ℕ) → n < 10 → decimal n ≡ digit_of n ∷ []
unfolding digits
decimal_one zero h = refl
decimal_one (suc n) h = rw (lt-ltb (suc n) 10 h) refl

pub decimal_more : (n : ℕ) → 10 ≤ n → decimal n ≡ decimal (n / 10) ++ (digit_of n ∷ [])
unfolding digits
decimal_more zero h = absurd (omega arith)
decimal_more (suc n) h = rw (le-ltb (suc n) 10 h) (ap (λ (l : List ℕ). l ++ (digit_of (suc n) ∷ [])) (enough n (suc n / 10) (suc n / 10) (tenth (suc n) n (omega arith)) (omega arith)))
