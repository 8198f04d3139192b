-- What a test tells, alone, joined to another, or in a choice. Everything is by cases on it.
-- Assumes nothing.
use mathlib.Core.Path.{◌≡◌, refl}
use mathlib.Core.Bool.{Bool, true, false, cond, ◌&&◌}
use Prim.Native.Nat.{ℕ, ◌≤◌, ◌<◌}
use native.Mathlib.Omega.{arith}
use lib.Dec.{leb}
use borrow.Author.Tests.{leb-true, leb-false}

pub false_true : ◌≡◌ {A = Bool} false true → ⊥
false_true e = let z : ◌≡◌ {A = ℕ} 0 1 = cc in omega arith

pub both : (a b : Bool) → a && b ≡ true → (a ≡ true) × (b ≡ true)
both true b h = (refl, h)
both false b h = absurd (false_true h)

pub never : (t : Bool) → t && false ≡ false
never true = refl
never false = refl

pub ever : (t : Bool) → t && true ≡ t
ever true = refl
ever false = refl

-- a split by a test, with its equation
pub by_test : {A : Type 0} (t : Bool) → (t ≡ true → A) → (t ≡ false → A) → A
by_test {A} t f g = go t refl
  where
    go : (b : Bool) → t ≡ b → A
    go true e = f e
    go false e = g e

-- a split by an order
pub by_le : {A : Type 0} (m n : ℕ) → (m ≤ n → A) → (n < m → A) → A
by_le m n f g = by_test (leb m n) (λ e. f (leb-true m n e)) (λ e. g (leb-false m n e))

-- what holds of a choice, by its test
pub test_case : {A : Type 0} (P : A → Type 0) (t : Bool) (x y : A) → (t ≡ true → P x) → (t ≡ false → P y) → P (cond t x y)
test_case P true x y h k = h refl
test_case P false x y h k = k refl

pub above_zero : (v : ℕ) → (v ≡ 0 → ⊥) → 0 < v
above_zero v f = omega arith
