-- A signed local holds bits: what is read back from them, `back z`, is z where z fits 64 bits.
-- Assumes nothing.
use mathlib.Core.Path.{◌≡◌}
use lib.IntN.{ℤ}
use lib.Signed.{mag}
use Prim.Native.Nat.{◌<◌, ◌^◌}
use mir.Syntax.{w64}
use mir.Val.{SFits, to_z, of_z}
use mir.Facts.{to_z-of_z}

abbrev pub back : ℤ → ℤ
back z = to_z w64 (of_z w64 z)

pub back_is : {z : ℤ} → SFits w64 z → back z ≡ z
back_is f = to_z-of_z f

-- of a call's result: `back_ok _ c.f.ok`
pub back_ok : (z : ℤ) → mag z < 2 ^ 63 → back z ≡ z
back_ok z h = to_z-of_z {w = w64} (record { sfits = h })
