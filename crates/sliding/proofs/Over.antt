-- The extremum over a run of places: one place more in front or behind, a run that goes on, two runs one after the other.
-- Assumes nothing.
use mathlib.Core.Path.{◌≡◌, refl, sym, ap, ◌∙◌}
use Prim.Native.Nat.{ℕ, suc, ◌+◌, ◌-◌, ◌≤◌, ◌<◌}
use native.Mathlib.Omega.{arith}
use lib.IntN.{ℤ}
use Rattle.lists.specs.Fold.{fold}
use Rattle.lists.proofs.Folds.{fold_on, fold_split, fold_front}
use Rattle.logic.specs.declared.Extremum.{Extremum}
use Rattle.logic.specs.Reading.{margins, margin_extreme, margin_nothing}
use Rattle.logic.proofs.Steps.{extremum_step, same}
use Rattle.logic.proofs.Extremes.{extremes}
use Rattle.recordings.specs.Distance.{TOP}
use Rattle.sliding.specs.Run.{over}

module _ (e : Extremum) (f : ℕ → ℤ) where
  pub over_cong : (g : ℕ → ℤ) (a b : ℕ) → ((j : ℕ) → a ≤ j → j < b → f j ≡ g j) → over e f a b ≡ over e g a b
  over_cong g a b h = extremum_step (same (margins TOP)) e (b - a) (λ k p. h (a + k) (omega arith) (omega arith))

  pub over_empty : (a b : ℕ) → b ≤ a → over e f a b ≡ margin_nothing TOP e
  over_empty a b h = let z : b - a ≡ 0 = omega arith in rw z refl

  module _ (a b c : ℕ) (h : a ≤ b) (k : b ≤ c) where
    -- place b is place b - a of those from a on
    behind : (m : ℕ) → f (a + (b - a + m)) ≡ f (b + m)
    behind m = ap f (omega arith)

    pub over_on : fold (margin_extreme e) (over e f a b) (λ m. f (b + m)) (c - b) ≡ over e f a c
    over_on =
        let p : c - a ≡ b - a + (c - b) = omega arith in
        rw p (sym (fold_on (margin_extreme e) (margin_nothing TOP e) (λ m. f (a + m)) (λ m. f (b + m)) (b - a) (c - b) (λ m q. behind m)))

    pub over_split : over e f a c ≡ margin_extreme e (over e f a b) (over e f b c)
    over_split =
        let p : c - a ≡ b - a + (c - b) = omega arith in
        rw p (fold_split (extremes e) (margin_nothing TOP e) (λ m. f (a + m)) (λ m. f (b + m)) (b - a) (c - b) (λ m q. behind m))

  pub over_front : (a b : ℕ) → a < b → over e f a b ≡ margin_extreme e (over e f (a + 1) b) (f a)
  over_front a b h =
      let p : b - a ≡ 1 + (b - (a + 1)) = omega arith in
      let q : a + 0 ≡ a = omega arith in
      rw p (fold_front (extremes e) (margin_nothing TOP e) (λ m. f (a + m)) (λ m. f (a + 1 + m)) (b - (a + 1)) (λ m r. ap f (omega arith)) ∙ (rw q refl))

-- ---- one turn of a loop that joins one place more to u, or to nothing: x and out are what is read back of a cell and of a result
pub joined_next : (e : Extremum) (u : ℤ) (f : ℕ → ℤ) (a j : ℕ) {old x res out : ℤ} → a ≤ j → old ≡ fold (margin_extreme e) u (λ m. f (a + m)) (j - a) → x ≡ f j → res ≡ margin_extreme e old x → out ≡ res → out ≡ fold (margin_extreme e) u (λ m. f (a + m)) (j + 1 - a)
joined_next e u f a j h p q r o =
    let y : j + 1 - a ≡ suc (j - a) = omega arith in
    let z : a + (j - a) ≡ j = omega arith in
    o ∙ r ∙ rw (p, q, y) (sym (ap (λ (k : ℕ). margin_extreme e (fold (margin_extreme e) u (λ m. f (a + m)) (j - a)) (f k)) z))
