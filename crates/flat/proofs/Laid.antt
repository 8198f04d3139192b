-- Numbers laid out two by two. And what a range's number 0 or above 4 says.
-- Assumes nothing.
use mathlib.Core.Path.{◌≡◌, refl}
use mathlib.Core.List.{List, [], ◌∷◌}
use Prim.Native.Nat.{ℕ, zero, suc, ◌<◌}
use native.Mathlib.Omega.{arith}
use lib.IntN.{ℤ}
use lib.ListN.{length, get_or}
use Rattle.std.specs.List.{flat_map}
use Rattle.recordings.specs.declared.Range.TheVariants.{Unset}
use Rattle.flat.specs.Predicates.{pairs, range_from}

-- ---- two numbers for each

-- an array of pairs, one for each of a list, read as one list
module _ {A X : Type 0} (f g : A → X) where
  pub pairs_mapped : (xs : List A) (ps : List (List X)) → length ps ≡ length xs
      → ((i : ℕ) (d : A) (e : List X) → i < length xs → get_or ps i e ≡ f (get_or xs i d) ∷ g (get_or xs i d) ∷ []) → flat_map (λ p. p) ps ≡ pairs f g xs
  unfolding pairs
  pairs_mapped [] [] l h = refl
  pairs_mapped [] (p ∷ ps) l h = absurd (omega arith)
  pairs_mapped (x ∷ xs) [] l h = absurd (omega arith)
  pairs_mapped (x ∷ xs) (p ∷ ps) l h = rw (h 0 x p (omega arith), pairs_mapped xs ps (omega arith) (λ i d e k. h (suc i) d e (omega arith)))

-- ---- a number that no range has

pub no_range : (n : ℕ) (lo hi : ℤ) → (n ≡ 1 → ⊥) → (n ≡ 2 → ⊥) → (n ≡ 3 → ⊥) → (n ≡ 4 → ⊥) → range_from n lo hi ≡ Unset
unfolding range_from
no_range zero lo hi a b c d = refl
no_range (suc zero) lo hi a b c d = absurd (a refl)
no_range (suc (suc zero)) lo hi a b c d = absurd (b refl)
no_range (suc (suc (suc zero))) lo hi a b c d = absurd (c refl)
no_range (suc (suc (suc (suc zero)))) lo hi a b c d = absurd (d refl)
no_range (suc (suc (suc (suc (suc n))))) lo hi a b c d = refl
