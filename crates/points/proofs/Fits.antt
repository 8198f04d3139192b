-- Values lie within 1,000,000,000 and scales within 1,000, so distances lie within TOP: each product and negative that is taken of them fits 64 bits.
-- Assumes nothing.
use mathlib.Core.Path.{◌≡◌, subst}
use mathlib.Core.Logic.{⊎_elim}
use mathlib.Core.Bool.{Bool, false, cond}
use Prim.Native.Nat.{ℕ, ◌≤◌}
use native.Mathlib.Omega.{arith}
use lib.IntN.{ℤ, pos, ◌*ℤ◌}
use mir.Syntax.{w64}
use mir.Val.{SFits}
use Rattle.numbers.specs.Order.{Within}
use Rattle.numbers.proofs.Parts.{within_more, within_fits}
use Rattle.numbers.proofs.Bits.{back, back_is}
use Rattle.recordings.specs.declared.Range.{Range}
use Rattle.recordings.specs.Distance.{TOP, distance, is_free, scaled_distance}
use Rattle.recordings.specs.Accepted.{MOST_SCALE, InRange, Ends}
use Rattle.recordings.proofs.Distances.{Open, scaled_small, scaled_open}

pub fit : {z : ℤ} → InRange z → SFits w64 z
fit h = within_fits (omega arith) h

pub in_back : {z : ℤ} → InRange z → InRange (back z)
in_back h = rw (back_is (fit h)) h

pub top_fits : {z : ℤ} → Within TOP z → SFits w64 z
top_fits h = within_fits (omega arith) h

-- no distance is further from zero than TOP in its channel's unit
pub scaled_within : (k : ℕ) → k ≤ MOST_SCALE → (r : Range) (v : ℤ) → Ends r → InRange v → Within TOP (scaled_distance TOP k r v)
scaled_within k m r v e h =
    ⊎_elim (λ (o : Open r). rw (scaled_open TOP k r v o) (record { size = omega arith })) (λ w. within_more (omega arith) w) (scaled_small TOP k m r v e h)

-- nor is the product that is taken where the range is not free
pub times_fits : (k : ℕ) → k ≤ MOST_SCALE → (r : Range) (v : ℤ) → Ends r → InRange v → is_free r ≡ false → SFits w64 (pos k *ℤ distance TOP r v)
times_fits k m r v e h f = top_fits (subst (λ (b : Bool). Within TOP (cond b (pos TOP) (pos k *ℤ distance TOP r v))) f (scaled_within k m r v e h))
