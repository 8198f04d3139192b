-- Demand 3 on the definitions. "Holds" and "fails" are one statement, with true and with false: a strengthened margin above the drift fixes the truth of the
-- samples, because strengthening only lowers, and of every history, because the margin carries past the samples.
-- Assumes nothing.
use mathlib.Core.Path.{◌≡◌, refl, subst}
use mathlib.Core.Bool.{Bool, true, false, cond}
use Prim.Native.Nat.{ℕ, ◌<◌}
use native.Mathlib.Omega.{arith}
use lib.Dec.{T}
use lib.IntN.{ℤ, pos}
use lib.Signed.{◌≤ℤ◌}
use Rattle.numbers.proofs.Parts.{lt_parts, parts_lt, le_parts}
use Rattle.logic.specs.Formula.{Formula}
use Rattle.logic.specs.Reading.{booleans, margins}
use Rattle.logic.specs.Strengthening.{strengthened}
use Rattle.logic.proofs.Duality.{signed}
use Rattle.logic.proofs.Margins.{Sign, above}
use Rattle.recordings.specs.declared.Verdict.TheVariants.{Holds, Fails, NotShown}
use Rattle.recordings.specs.Card.{Card}
use Rattle.recordings.specs.Distance.{TOP}
use Rattle.recordings.specs.Margin.{margin, true_of}
use Rattle.recordings.specs.Verdict.{hold, fail, verdict}
use Rattle.recordings.specs.Accepted.{Accepted}
use Rattle.recordings.specs.Shown.{Shown}
use Rattle.recordings.proofs.Margins.{robustness_sign, top_positive, measured, measured_positive, measured_bounded}
use Rattle.recordings.proofs.Strengthened.{strengthening_lowers}
use Rattle.recordings.proofs.Between.{Sampled, carries}

truth_is : (b c : Bool) → T (signed booleans b c) → c ≡ b
truth_is true true t = refl
truth_is true false t = absurd t
truth_is false true t = absurd t
truth_is false false t = refl

module _ {c : Card} {step drift : ℕ} (ok : Accepted c step drift) where
  sampled : Sampled c step
  sampled = record {
    some_row = ok.recorded.lengths.some_row;
    rising = ok.recorded.times.rising;
    no_gap = ok.gapless.no_gap;
    some_step = ok.stepped.some_step;
    known = λ p. (ok.recorded.channels.proper p).known;
  }

  drift_below : drift < TOP
  drift_below = omega (arith, ok.stepped.small_drift)

  -- what a strengthened margin is above, the margin itself is above, so its sign is positive
  samples_agree : (b : Bool) (φ : Formula ℕ) → T (above (pos drift) (margin c (strengthened step b φ) 0)) → T (signed booleans b (true_of c φ 0))
  samples_agree b φ m = told b (robustness_sign TOP top_positive (measured_positive (measured ok.recorded)) φ 0) (lower _ _ m (strengthening_lowers TOP c step (measured_bounded (measured ok.recorded)) b φ 0))
    where
      lower : (s z : ℤ) → T (above (pos drift) s) → s ≤ℤ z → T (above (pos 0) z)
      lower s z t l = parts_lt (pos 0) z (omega (arith, lt_parts (pos drift) s t, le_parts s z l.le))

      told : (b : Bool) {z : ℤ} {v : Bool} → Sign z v → T (above (pos 0) (signed (margins TOP) b z)) → T (signed booleans b v)
      told true s t = subst T s.when_true t
      told false s t = subst T s.when_false t

  shown : (b : Bool) (φ : Formula ℕ) → T (above (pos drift) (margin c (strengthened step b φ) 0)) → Shown c step drift b φ
  shown b φ m = record {
    of_samples = truth_is b _ (samples_agree b φ m);
    of_histories = λ h history t s o. truth_is b _ (carries sampled TOP drift drift_below h history b φ 0 t ok.recorded.lengths.some_row s o m);
  }

  -- When the verdict is "holds", the requirement is true of the samples, and of every history at every second of it within one step of the first sample.
  pub holds_shown : (φ : Formula ℕ) → verdict c step drift φ ≡ Holds → Shown c step drift true φ
  holds_shown φ v = shown true φ (go (above (pos drift) (hold c step φ)) (above (pos drift) (fail c step φ)) v)
    where
      go : (a b : Bool) → cond a Holds (cond b Fails NotShown) ≡ Holds → T a
      go true b e = tt
      go false true e = let z : ◌≡◌ {A = ℕ} 0 1 = cc in omega arith
      go false false e = let z : ◌≡◌ {A = ℕ} 0 1 = cc in omega arith

  -- When the verdict is "fails", it is false of the samples, and of every history at all of these seconds.
  pub fails_shown : (φ : Formula ℕ) → verdict c step drift φ ≡ Fails → Shown c step drift false φ
  fails_shown φ v = shown false φ (go (above (pos drift) (hold c step φ)) (above (pos drift) (fail c step φ)) v)
    where
      go : (a b : Bool) → cond a Holds (cond b Fails NotShown) ≡ Fails → T b
      go true b e = let z : ◌≡◌ {A = ℕ} 0 1 = cc in absurd (omega arith)
      go false true e = tt
      go false false e = let z : ◌≡◌ {A = ℕ} 0 1 = cc in omega arith
