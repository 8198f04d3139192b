-- The list of the first n values of a function: as long as n, at each place the value of that place, and the same for functions that agree there.
-- Assumes nothing.
use Rattle.std.proofs.Common.{◌≡◌, refl, ap, ap₂, ◌∙◌, ℕ, zero, suc, ◌<◌, List, [], ◌∷◌, ◌++◌, length, get_or, arith, length-append}
use native.Mathlib.Decide.{dec_lt}
use lib.ListN.{get_or-append}
use lib.Seq.{get_or-append_seam}
use Rattle.lists.specs.Each.{each_below}

module _ {X : Type 0} where
  pub length_each : (f : ℕ → X) (n : ℕ) → length (each_below f n) ≡ n
  length_each f zero = refl
  length_each f (suc n) = omega (arith, length-append (each_below f n) (f n ∷ []), length_each f n)

  pub each_at : (f : ℕ → X) (n k : ℕ) (d : X) → k < n → get_or (each_below f n) k d ≡ f k
  each_at f zero k d h = absurd (omega arith)
  each_at f (suc n) k d h = elim (dec_lt k n) [
    | yes p ↦ get_or-append (each_below f n) (f n ∷ []) d k (omega (arith, length_each f n)) ∙ each_at f n k d p
    | no p ↦
        let e : k ≡ length (each_below f n) = omega (arith, length_each f n) in
        let m : n ≡ k = omega (arith, length_each f n) in
        ap (λ (i : ℕ). get_or (each_below f n ++ f n ∷ []) i d) e ∙ get_or-append_seam (each_below f n) (f n) [] d ∙ ap f m
  ]

  pub each_same : (f g : ℕ → X) (n : ℕ) → ((k : ℕ) → k < n → f k ≡ g k) → each_below f n ≡ each_below g n
  each_same f g zero h = refl
  each_same f g (suc n) h = ap₂ (λ (l : List X) (x : X). l ++ x ∷ []) (each_same f g n (λ k p. h k (omega arith))) (h n (omega arith))
