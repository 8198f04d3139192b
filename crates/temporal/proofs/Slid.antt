-- What slides along: both ends of its run move forward with the place, and its operand's row stands before the row that is filled.
-- Assumes nothing.
use mathlib.Core.Path.{◌≡◌, refl}
use Prim.Native.Nat.{ℕ, ◌≤◌, ◌<◌}
use Rattle.std.specs.Option.{unwrap_or}
use Rattle.std.specs.Prelude.{Option, Some, None}
use Rattle.temporal.specs.Reading.{LeftEarlier}
use Rattle.temporal.specs.Slid.{if_left}

-- what holds of both holds of the one that is taken
pub if_left_holds : {X : Type 0} (P : X → Type 0) (left : Option ℕ) {a b : X} → P a → P b → P (if_left left a b)
if_left_holds P (Some r) h k = h
if_left_holds P None h k = k

pub if_left_le : (left : Option ℕ) {a b c d : ℕ} → a ≤ c → b ≤ d → if_left left a b ≤ if_left left c d
if_left_le (Some r) h k = h
if_left_le None h k = k

pub if_left_same : (left : Option ℕ) (a : ℕ) → a ≡ if_left left a a
if_left_same (Some r) a = refl
if_left_same None a = refl

pub operand_earlier : (left : Option ℕ) {right row : ℕ} → LeftEarlier row left → right < row → unwrap_or left right < row
operand_earlier (Some r) h k = h
operand_earlier None h k = k
