-- The tests "of every number below n" and "of some number below n" say what their names say, both ways; and the steps of a loop that makes such a test.
-- Assumes nothing.
use mathlib.Core.Path.{◌≡◌, refl}
use mathlib.Core.Bool.{Bool, true, false, ◌||◌}
use mathlib.Core.Logic.{◌⊎◌, inl, inr}
use Prim.Native.Nat.{ℕ, zero, suc, ◌≤◌, ◌<◌}
use native.Mathlib.Omega.{arith}
use native.Mathlib.Decide.{ℕ_discrete}
use lib.Dec.{T}
use mir.Facts.{and_yes, yes_and, or_yes}
use Rattle.lists.specs.Fold.{all_below, any_below}

pub yes_or : (a b : Bool) → T a ⊎ T b → T (a || b)
yes_or true b h = tt
yes_or false b (inl h) = absurd h
yes_or false b (inr h) = h

-- two tests that imply each other are one
pub same_test : {a b : Bool} → (T a → T b) → (T b → T a) → a ≡ b
same_test {a = true} {b = true} f g = refl
same_test {a = true} {b = false} f g = absurd (f tt)
same_test {a = false} {b = true} f g = absurd (g tt)
same_test {a = false} {b = false} f g = refl

module _ (p : ℕ → Bool) where
  pub all_at : (n : ℕ) → T (all_below p n) → (j : ℕ) → j < n → T (p j)
  all_at zero t j h = absurd (omega arith)
  all_at (suc n) t j h =
      let g = and_yes (all_below p n) (p n) t in
      elim (ℕ_discrete j n) [ yes e ↦ rw e g.1 | no e ↦ all_at n g.0 j (omega arith) ]

  pub at_all : (n : ℕ) → ((j : ℕ) → j < n → T (p j)) → T (all_below p n)
  at_all zero h = tt
  at_all (suc n) h = yes_and (all_below p n) (p n) (at_all n (λ j i. h j (omega arith))) (h n (omega arith))

  pub any_at : (n : ℕ) → T (any_below p n) → (j : ℕ) × (j < n) × T (p j)
  any_at zero t = absurd t
  any_at (suc n) t = elim (or_yes (any_below p n) (p n) t) [ inl h ↦ let g = any_at n h in (g.0, omega arith, g.2) | inr h ↦ (n, omega arith, h) ]

  pub at_any : (n j : ℕ) → j < n → T (p j) → T (any_below p n)
  at_any zero j h t = absurd (omega arith)
  at_any (suc n) j h t = elim (ℕ_discrete j n) [
    | yes e ↦ yes_or (any_below p n) (p n) (inr (rw e at t))
    | no e ↦ yes_or (any_below p n) (p n) (inl (at_any n j (omega arith) t))
  ]

-- ---- a loop `ok = ok & b; n += 1` that tests the numbers below `count` one after the other
-- before the test of n, `ok` says whether p holds of every number below n
pub record Tested (p : ℕ → Bool) (count n : ℕ) (ok : Bool) : Type 0 where
  pub inside : n ≤ count
  pub so_far : ok ≡ all_below p n

module _ {p : ℕ → Bool} {count : ℕ} where
  pub tested_all : {n : ℕ} {ok : Bool} → Tested p count n ok → count ≤ n → ok ≡ all_below p count
  tested_all {n} t h = let e : n ≡ count = omega arith in rw (← e) t.so_far
