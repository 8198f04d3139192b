-- What a verdict says, as demand 3 has it.
-- Assumes nothing.
use Rattle.std.specs.Prelude.{◌≡◌, Bool, ℕ, ℤ}
use Rattle.logic.specs.Formula.{Formula}
use Rattle.recordings.specs.Card.{Card}
use Rattle.recordings.specs.Margin.{true_of}
use Rattle.recordings.specs.History.{Second, OneStep, History, true_over}

-- of the samples, and of every history at every second of it within one step of the first sample, the requirement has the truth b: true for "holds", false for "fails"
pub record Shown (c : Card) (step drift : ℕ) (b : Bool) (φ : Formula ℕ) : Type 0 where
  pub of_samples : true_of c φ 0 ≡ b
  pub of_histories : (h : ℕ → ℕ → ℤ) → History c step drift h → (t : ℕ) → Second c t → OneStep c step 0 t → true_over c h φ t ≡ b
