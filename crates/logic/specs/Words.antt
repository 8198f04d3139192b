-- The temporal operators in plain words, over places with times: "there is a j .. with, at every k, ..". `proofs/Words` shows each equal to the reading.
-- Assumes nothing.
use Rattle.std.specs.Prelude.{Bool, ◌⊎◌, ℕ, ◌-◌, ◌≤◌, ◌<◌, T}
use Rattle.logic.specs.declared.Window.{Window}
use Rattle.logic.specs.Window.{inside}
use Rattle.logic.specs.Reading.{Places}

-- place j stands at i or later and is in the window of i
pub record Ahead (F : Places) (w : Window) (i j : ℕ) : Type 0 where
  pub not_before : i ≤ j
  pub in_places : j < F.end
  pub in_window : T (inside w (F.time j - F.time i))

module _ (F : Places) (w : Window) (left right : ℕ → Bool) (i : ℕ) where
  -- until: at some j in the window right is true, and left is true at every k from i up to, not including, j
  pub record Until : Type 0 where
    pub j : ℕ
    pub ahead : Ahead F w i j
    pub right_at : T (right j)
    pub left_before : (k : ℕ) → i ≤ k → k < j → T (left k)

  -- release: at every j in the window right is true, or left is true at some k from i up to, not including, j
  pub record Release : Type 0 where
    pub each : (j : ℕ) → Ahead F w i j → T (right j) ⊎ ((k : ℕ) × (i ≤ k) × (k < j) × T (left k))

module _ (F : Places) (w : Window) (operand : ℕ → Bool) (i : ℕ) where
  -- eventually: at some j in the window
  pub record Eventually : Type 0 where
    pub j : ℕ
    pub ahead : Ahead F w i j
    pub there : T (operand j)

  -- always: at every j in the window
  pub record Always : Type 0 where
    pub each : (j : ℕ) → Ahead F w i j → T (operand j)
