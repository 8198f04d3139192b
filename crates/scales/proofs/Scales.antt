-- The test of the scales holds exactly where its sentence does: a place from the count on passes it.
-- Assumes nothing.
use mathlib.Core.Bool.{Bool}
use mathlib.Core.Logic.{inl, inr}
use Prim.Native.Nat.{ℕ}
use native.Mathlib.Omega.{arith}
use native.Mathlib.Decide.{dec_lt}
use lib.Dec.{T, leb, leb→le, le→leb}
use mir.Facts.{and_yes, yes_and, or_yes}
use Rattle.lists.proofs.Below.{yes_or, all_at, at_all}
use Rattle.recordings.specs.Card.{Card, scale}
use Rattle.recordings.specs.Accepted.{MOST_CHANNELS, MOST_SCALE, ScaleInRange, Scaled}
use Rattle.scales.specs.Scales.{scale_obeys, passed_obeys, scales_obey}

pub scale_is : (k : ℕ) → T (scale_obeys k) → ScaleInRange k
unfolding scale_obeys
scale_is k t = let a = and_yes (leb 1 k) (leb k MOST_SCALE) t in record { some = leb→le 1 k a.0; most = leb→le k MOST_SCALE a.1 }

pub scale_passes : (k : ℕ) → ScaleInRange k → T (scale_obeys k)
unfolding scale_obeys
scale_passes k r = yes_and (leb 1 k) (leb k MOST_SCALE) (le→leb 1 k r.some) (le→leb k MOST_SCALE r.most)

module _ (c : Card) where
  abbrev obeys : ℕ → Bool
  obeys ch = passed_obeys c.setup.scales.count ch (scale c ch)

  pub scales_are : T (scales_obey c.setup.scales) → Scaled c
  unfolding scales_obey passed_obeys
  scales_are t = record {
    each = λ ch h k. elim (or_yes (leb c.setup.scales.count ch) (scale_obeys (scale c ch)) (all_at obeys MOST_CHANNELS t ch k)) [
      | inl s ↦ absurd (omega (arith, leb→le c.setup.scales.count ch s))
      | inr s ↦ scale_is (scale c ch) s
    ];
  }

  pub scales_pass : Scaled c → T (scales_obey c.setup.scales)
  unfolding scales_obey passed_obeys
  scales_pass r = at_all obeys MOST_CHANNELS (λ ch k. yes_or (leb c.setup.scales.count ch) (scale_obeys (scale c ch)) (elim (dec_lt ch c.setup.scales.count) [
    | yes h ↦ inr (scale_passes (scale c ch) (r.each ch h k))
    | no h ↦ inl (le→leb c.setup.scales.count ch (omega arith))
  ]))
