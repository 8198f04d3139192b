-- Number 0 of refusals 3, 4, 13 and 5 to 7 says that every table rule and every sentence of `Recorded` holds, and the other way round: each entry of the list by its own law.
-- Assumes nothing.
use mathlib.Core.Path.{◌≡◌, refl}
use mathlib.Core.List.{List, []}
use Prim.Native.Nat.{ℕ, zero, suc, ◌<◌}
use native.Mathlib.Omega.{arith}
use mir.Facts.{and_yes, yes_and}
use lib.IntN.{ℤ}
use Rattle.recordings.specs.declared.Setup.{Setup}
use Rattle.recordings.specs.Card.{Card, card}
use Rattle.tables.specs.declared.Table.{Table}
use Rattle.tables.specs.Rules.{table_obeys}
use Rattle.tables.proofs.Rules.{table_rules, table_passes}
use Rattle.refusals.specs.First.{first, Exact, AllExact, check_at, Passed}
use Rattle.predicates.specs.Predicates.{requirement_obeys, all_named}
use Rattle.predicates.proofs.Predicates.{named, named_passes, channels_are, channels_pass}
use Rattle.scales.proofs.Scales.{scales_are, scales_pass}
use Rattle.rules.specs.Refusals.{table_checks, sample_checks, checks, Sound}
use Rattle.refusals.proofs.First.{passed, none_fails, exact_parts}
use Rattle.rules.proofs.Recording.{lengths_are, lengths_pass, times_are, times_pass, values_are, values_pass}

pub exact : (c : Card) (t : Table) → AllExact (checks c t)
unfolding requirement_obeys
exact c t = (three, λ _. (record { sound = channels_are c; complete = channels_pass c }, λ _. (record { sound = scales_are c; complete = scales_pass c }, λ _. (record { sound = lengths_are c; complete = lengths_pass c }, λ _. (record { sound = times_are c; complete = times_pass c }, λ _. (record { sound = values_are c.values; complete = values_pass c.values }, λ _. tt))))))
  where
    three : Exact (check_at (checks c t) 0)
    three = record {
      sound = λ h. let a = and_yes (table_obeys t) (all_named t.nodes t.count c.setup.predicates) h in (table_rules t a.0, named c t a.1);
      complete = λ s. yes_and (table_obeys t) (all_named t.nodes t.count c.setup.predicates) (table_passes t s.0) (named_passes c t s.1);
    }

-- ---- 3, 4 and 13 alone
pub table_exact : (c : Card) (t : Table) → AllExact (table_checks c t)
table_exact c t = (exact_parts (table_checks c t) (sample_checks c) (exact c t)).0

-- they look at no sample
pub table_same : (s : Setup) (times : List ℕ) (values : List ℤ) (t : Table) → first (table_checks (card s [] []) t) ≡ first (table_checks (card s times values) t)
unfolding first
table_same s times values t = refl

pub table_passed : (c : Card) (t : Table) → first (table_checks c t) ≡ 0 → Passed (table_checks c t)
table_passed c t e = passed (table_checks c t) tt (table_exact c t) e

-- the number is 0 exactly when the table is ruled, what it names is set, and the recording is as the semantics ask
passed_sound : {c : Card} {t : Table} → Passed (checks c t) → Sound c t
passed_sound p = record {
  ruled = (p.each 0 (omega arith)).0;
  named = (p.each 0 (omega arith)).1;
  recorded = record { channels = p.each 1 (omega arith); scaled = p.each 2 (omega arith); lengths = p.each 3 (omega arith); times = p.each 4 (omega arith); values = p.each 5 (omega arith) };
}

pub sound : (c : Card) (t : Table) → first (checks c t) ≡ 0 → Sound c t
sound c t e = passed_sound (passed (checks c t) tt (exact c t) e)

pub sound_passes : (c : Card) (t : Table) → Sound c t → first (checks c t) ≡ 0
sound_passes c t s = none_fails (checks c t) (exact c t) (record { each = each })
  where
    each : (j : ℕ) → j < 6 → (check_at (checks c t) j).sentence
    each zero h = (s.ruled, s.named)
    each (suc zero) h = s.recorded.channels
    each (suc (suc zero)) h = s.recorded.scaled
    each (suc (suc (suc zero))) h = s.recorded.lengths
    each (suc (suc (suc (suc zero)))) h = s.recorded.times
    each (suc (suc (suc (suc (suc zero))))) h = s.recorded.values
    each (suc (suc (suc (suc (suc (suc j)))))) h = absurd (omega arith)
