-- Hold, fail and the verdict.
-- Assumes nothing.
use Rattle.std.specs.Prelude.{true, false, cond, ℕ, ℤ, pos}
use Rattle.std.specs.Int.Signed.{lt_z}
use Rattle.logic.specs.Formula.{Formula}
use Rattle.logic.specs.Strengthening.{strengthened}
use Rattle.recordings.specs.declared.Verdict.{Verdict}
use Rattle.recordings.specs.declared.Verdict.TheVariants.{Holds, Fails, NotShown}
use Rattle.recordings.specs.Card.{Card}
use Rattle.recordings.specs.Margin.{margin}

-- hold is the margin of the strengthened requirement, fail that of its strengthened negation
abbrev pub hold : Card → ℕ → Formula ℕ → ℤ
hold c step φ = margin c (strengthened step true φ) 0

abbrev pub fail : Card → ℕ → Formula ℕ → ℤ
fail c step φ = margin c (strengthened step false φ) 0

-- "holds" if hold > drift, else "fails" if fail > drift, else "not shown"
abbrev pub decide : ℕ → ℤ → ℤ → Verdict
decide drift h f = cond (lt_z (pos drift) h) Holds (cond (lt_z (pos drift) f) Fails NotShown)

abbrev pub verdict : Card → ℕ → ℕ → Formula ℕ → Verdict
verdict c step drift φ = decide drift (hold c step φ) (fail c step φ)
