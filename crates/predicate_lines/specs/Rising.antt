-- "`p=` lines stand by rising number" as a sentence on any two lines. `Rising` in proofs/ shows that lines have the form of Form.antt exactly where it is true of them.
-- Assumes nothing.
use Rattle.std.specs.Prelude.{ℕ, ◌<◌, List, [], length, get_or}
use Rattle.recordings.specs.declared.Predicate.{Predicate}
use Rattle.predicate_lines.specs.Form.{PredicateLine}

-- a line is a predicate's, of this number
abbrev pub Numbered : List ℕ → ℕ → Type 0
Numbered l number = (predicate : Predicate) × PredicateLine l number predicate

-- each line is a predicate's, and of any two the earlier one has the smaller number
pub record Rising (ls : List (List ℕ)) : Type 0 where
  pub each : (i : ℕ) → i < length ls → (number : ℕ) × Numbered (get_or ls i []) number
  pub rise : (i j : ℕ) → i < j → j < length ls → (m n : ℕ) → Numbered (get_or ls i []) m → Numbered (get_or ls j []) n → m < n
