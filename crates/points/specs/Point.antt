-- One node's value at one place, or the value of its negation.
-- Assumes nothing.
use Rattle.std.specs.Prelude.{Bool, true, false, ℤ, neg_ℤ}

-- a value, or, where it is denied, its negative
abbrev pub signed : Bool → ℤ → ℤ
signed true z = z
signed false z = neg_ℤ z
