-- Document 01 as it was before there were scales, for the sentence "With all scales 1 only TOP differs from before".
-- Assumes nothing.
use Rattle.std.specs.Prelude.{◌≡◌, Bool, true, false, cond, List, [], ◌∷◌, ◌++◌, ℕ, suc, ◌-◌, ◌*◌, ◌≤◌, ◌<◌, leb, length, take, drop, ℤ, pos, neg_ℤ, ◌-ℤ◌, nat_abs}
use Rattle.std.specs.Int.Signed.{le_z}
use Rattle.lists.specs.Fold.{all_below}
use Rattle.logic.specs.Formula.{Formula}
use Rattle.logic.specs.Reading.{read, margins}
use Rattle.logic.specs.Strengthening.{strengthened}
use Rattle.recordings.specs.declared.Verdict.{Verdict}
use Rattle.recordings.specs.Card.{Card, rows, scale, value, predicate, samples}
use Rattle.recordings.specs.Distance.{TOP, distance}
use Rattle.recordings.specs.Verdict.{decide}
use Rattle.recordings.specs.Accepted.{MOST_ROWS}
use Rattle.tables.specs.declared.Table.{Table}
use Rattle.refusals.specs.First.{Check}
use Rattle.rules.specs.Recording.{samples_obey}
use Rattle.rules.specs.Refusals.{table_checks, sample_checks}
use Rattle.sampling.specs.Sampling.{checks as sampling_checks}
use Rattle.margins.specs.Answers.{margin_room}
use Rattle.verdicts.specs.Answer.{verdict_room}

-- one scale for each channel, all of them 1
pub record OneUnit (c : Card) : Type 0 where
  pub all_scales : c.setup.scales.count ≡ c.setup.channels
  pub each : (ch : ℕ) → ch < c.setup.channels → scale c ch ≡ 1

-- ---- margins
abbrev pub TOP_BEFORE : ℕ
TOP_BEFORE = 4_000_000_000

abbrev pub distance_before : Card → ℕ → ℕ → ℤ
distance_before c p i = distance TOP_BEFORE (predicate c p).range (value c (predicate c p).channel i)

unfoldable pub margin_before : Card → Formula ℕ → ℕ → ℤ
margin_before c φ i = read (margins TOP_BEFORE) (samples c) (distance_before c) φ i

-- hold at true, fail at false
abbrev pub strong_before : Card → ℕ → Bool → Formula ℕ → ℤ
strong_before c step b φ = margin_before c (strengthened step b φ) 0

abbrev pub verdict_before : Card → ℕ → ℕ → Formula ℕ → Verdict
verdict_before c step drift φ = decide drift (strong_before c step true φ) (strong_before c step false φ)

-- the TOP of before, either sign, read as the new one; no margin of before is further from zero
abbrev pub raised : ℤ → ℤ
raised z = cond (le_z (pos TOP_BEFORE) z) (pos TOP) (cond (le_z z (neg_ℤ (pos TOP_BEFORE))) (neg_ℤ (pos TOP)) z)

-- ---- refusals
-- 5: no sample, over 4,096, or values not rows × channels long
pub record LengthsBefore (c : Card) : Type 0 where
  pub some_row : 1 ≤ rows c
  pub few_rows : rows c ≤ MOST_ROWS
  pub all_values : length c.values ≡ rows c * c.setup.channels

-- 11: neighbouring values of a channel differ by more than 2 × drift
pub record SteadyBefore (c : Card) (drift : ℕ) : Type 0 where
  pub no_jump : (i ch : ℕ) → suc i < rows c → ch < c.setup.channels → nat_abs (value c ch (suc i) -ℤ value c ch i) ≤ 2 * drift

unfoldable pub near_before : Card → ℕ → Bool
near_before c drift = all_below (λ ch. all_below (λ i. leb (nat_abs (value c ch (suc i) -ℤ value c ch i)) (2 * drift)) (rows c - 1)) c.setup.channels

-- the lists of today without 13, and with these two in the places of today's 5 and 11
abbrev pub checks_before : Card → Table → List Check
checks_before c t =
    take 2 (table_checks c t)
    ++ (record { number = 5; sentence = LengthsBefore c; passes = samples_obey c.setup.channels (rows c) (length c.values) } ∷ drop 1 (sample_checks c))

abbrev pub sampling_before : Card → ℕ → ℕ → List Check
sampling_before c step drift = take 2 (sampling_checks c step drift) ++ (record { number = 11; sentence = SteadyBefore c drift; passes = near_before c drift } ∷ [])

abbrev pub margin_checks_before : Card → Table → ℕ → List Check
margin_checks_before c t cells = checks_before c t ++ (margin_room c t cells ∷ [])

abbrev pub verdict_checks_before : Card → Table → ℕ → ℕ → ℕ → List Check
verdict_checks_before c t step drift size = checks_before c t ++ (verdict_room c t size ∷ sampling_before c step drift)
