-- The order of refusals over a run is the order of its parts: a test that passes may be left out, and what stands behind a test that fails doesn't count.
-- Assumes nothing.
use mathlib.Core.Path.{◌≡◌, refl}
use mathlib.Core.Bool.{Bool, true, false, cond, ◌&&◌}
use mathlib.Core.List.{List, [], ◌∷◌, ◌++◌}
use Prim.Native.Nat.{ℕ, suc, ◌≤◌}
use lib.Dec.{eqb}
use native.Mathlib.Omega.{arith}
use borrow.Author.Tests.{le-leb, lt-leb}
use Rattle.recordings.specs.Card.{Card, rows, card}
use Rattle.tables.specs.declared.Table.{Table}
use Rattle.predicates.specs.Predicates.{requirement_obeys, channels_obey}
use Rattle.scales.specs.Scales.{scales_obey}
use Rattle.refusals.specs.First.{Check, first}
use Rattle.rules.specs.Recording.{samples_obey, lengths_obey}
use Rattle.rules.specs.Refusals.{table_checks, sample_checks, checks}
use Rattle.refusals.proofs.First.{first_passes}
use Rattle.sampling.specs.Sampling.{checks as sampling_checks}
use Rattle.verdicts.specs.Answer.{verdict_room, verdict_refusal}
use Rattle.answers.specs.Answers.{ROWS, CELLS, rows_check, table_run}

-- a test that passes, among others
first_without : (cs : List Check) (d : Check) (ds : List Check) → d.passes ≡ true → first (cs ++ (d ∷ ds)) ≡ first (cs ++ ds)
unfolding first
first_without [] d ds e = first_passes d ds e
first_without (c ∷ cs) d ds e = rw (first_without cs d ds e) refl

-- no sample is 5, however many scales there are
no_samples : (scales channels : ℕ) → lengths_obey scales channels 0 0 ≡ false
unfolding samples_obey lengths_obey
no_samples scales channels = go (eqb scales channels)
  where
    go : (b : Bool) → (b && false) ≡ false
    go true = refl
    go false = refl

-- 3, 4, 13 or 5
early_some : (p q r : Bool) → ◌≡◌ {A = ℕ} (cond p (cond q (cond r 5 13) 4) 3) 0 → ⊥
early_some true true true h = omega arith
early_some true true false h = omega arith
early_some true false r h = omega arith
early_some false q r h = omega arith

module _ (c : Card) (t : Table) (step drift : ℕ) where
  -- measured rows that there is room for are judged as any recording
  pub run_fits : rows c ≤ ROWS → first (table_run c t step drift) ≡ verdict_refusal c t step drift CELLS
  unfolding verdict_refusal
  run_fits h = first_without (table_checks c t) (rows_check c) (sample_checks c ++ (verdict_room c t CELLS ∷ sampling_checks c step drift)) (le-leb (rows c) ROWS h)

  -- without the rows, the table, the channels, the predicates and the scales are judged as with them; and no sample is 5 too
  pub run_wide : channels_obey c.setup.predicates c.setup.channels ≡ false → first (checks (card c.setup [] []) t) ≡ first (table_run c t step drift)
  unfolding first
  run_wide h = rw h refl

  pub run_many : suc ROWS ≤ rows c → first (checks (card c.setup [] []) t) ≡ first (table_run c t step drift)
  unfolding first
  run_many h = rw (lt-leb (rows c) ROWS h, no_samples c.setup.scales.count c.setup.channels) refl

  -- and something is refused
  pub none_refused : first (checks (card c.setup [] []) t) ≡ 0 → ⊥
  unfolding first
  none_refused h = early_some (requirement_obeys t c.setup.predicates) (channels_obey c.setup.predicates c.setup.channels) (scales_obey c.setup.scales) (rw (no_samples c.setup.scales.count c.setup.channels) at h)
