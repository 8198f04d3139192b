-- In one unit 13 never applies, 5 judges the samples alone and 11 the differences as they are: the refusals of before, whose tests are exact too.
-- Assumes nothing.
use mathlib.Core.Path.{◌≡◌, refl}
use mathlib.Core.Bool.{true}
use mathlib.Core.List.{[], ◌∷◌}
use Prim.Native.Nat.{ℕ, suc, ◌-◌, ◌*◌, ◌≤◌, ◌<◌}
use native.Mathlib.Omega.{arith}
use native.Mathlib.Nat.{one-mul}
use lib.Dec.{T, leb, eqb, leb→le, le→leb, lit≤}
use lib.ListN.{length}
use lib.IntN.{◌-ℤ◌, nat_abs}
use mir.Facts.{yes_eqb}
use Rattle.lists.proofs.Below.{same_test}
use Rattle.recordings.specs.Card.{Card, rows, scale, value}
use Rattle.recordings.specs.Accepted.{Steady}
use Rattle.tables.specs.declared.Table.{Table}
use Rattle.refusals.specs.First.{first, Exact, AllExact}
use Rattle.refusals.proofs.First.{exact_append}
use Rattle.scales.specs.Scales.{scales_obey}
use Rattle.scales.proofs.Scales.{scales_pass}
use Rattle.rules.specs.Recording.{samples_obey, lengths_obey}
use Rattle.rules.proofs.Recording.{samples_are, samples_pass, times_are, times_pass, values_are, values_pass}
use Rattle.rules.proofs.Refusals.{exact}
use Rattle.sampling.specs.Sampling.{values_near}
use Rattle.sampling.proofs.Sampling.{bounded_at, at_bounded, steady, steady_passes, exact as sampling_exact}
use Rattle.margins.specs.Answers.{margin_room, margin_refusal}
use Rattle.verdicts.specs.Answer.{verdict_room, verdict_refusal}
use Rattle.one_unit.specs.Before.{OneUnit, LengthsBefore, SteadyBefore, near_before, checks_before, sampling_before, margin_checks_before, verdict_checks_before}

-- ---- in one unit
module _ {c : Card} (u : OneUnit c) where
  thirteen : scales_obey c.setup.scales ≡ true
  thirteen = same_test (λ _. tt) (λ _. scales_pass c (record { each = λ ch h k. rw (u.each ch (omega (arith, u.all_scales))) (record { some = lit≤ tt; most = lit≤ tt }) }))

  five : eqb c.setup.scales.count c.setup.channels ≡ true
  five = same_test (λ _. tt) (λ _. yes_eqb u.all_scales)

  as_it_was : (ch : ℕ) (n : ℕ) → ch < c.setup.channels → scale c ch * n ≡ n
  as_it_was ch n h = rw (u.each ch h) (one-mul n)

  steady_alike : (drift : ℕ) → Steady c drift → SteadyBefore c drift
  steady_alike drift r = record { no_jump = λ i ch h k. rw (as_it_was ch _ k) at (r.no_jump i ch h k) }

  alike_steady : (drift : ℕ) → SteadyBefore c drift → Steady c drift
  alike_steady drift r = record { no_jump = λ i ch h k. rw (as_it_was ch _ k) (r.no_jump i ch h k) }

-- ---- the tests of before are exact
samples_exact : (c : Card) → Exact (record { number = 5; sentence = LengthsBefore c; passes = samples_obey c.setup.channels (rows c) (length c.values) })
samples_exact c = record {
  sound = λ t. let s = samples_are c.setup.channels (rows c) (length c.values) t in record { some_row = s.0; few_rows = s.1; all_values = s.2 };
  complete = λ r. samples_pass c.setup.channels (rows c) (length c.values) r.some_row r.few_rows r.all_values;
}

module _ (c : Card) (drift : ℕ) where
  abbrev apart : ℕ → ℕ → ℕ
  apart ch i = nat_abs (value c ch (suc i) -ℤ value c ch i)

  near_is : T (near_before c drift) → SteadyBefore c drift
  unfolding near_before
  near_is t = record { no_jump = λ i ch h k. bounded_at apart (2 * drift) c.setup.channels (rows c - 1) t ch i k (omega arith) }

  near_passes : SteadyBefore c drift → T (near_before c drift)
  unfolding near_before
  near_passes r = at_bounded apart (2 * drift) c.setup.channels (rows c - 1) (λ ch i k h. r.no_jump i ch (omega arith) k)

module _ (c : Card) (t : Table) where
  -- 3 and 4 as today; 6 and 7 likewise
  checks_exact : AllExact (checks_before c t)
  checks_exact =
      let e = exact c t in
      (e.0, λ p. ((e.1 p).0, λ q. (samples_exact c, λ _. (record { sound = times_are c; complete = times_pass c }, λ _. (record { sound = values_are c.values; complete = values_pass c.values }, λ _. tt)))))

  pub margin_exact : (cells : ℕ) → AllExact (margin_checks_before c t cells)
  margin_exact cells = exact_append (checks_before c t) (margin_room c t cells ∷ []) checks_exact (λ _. (record { sound = leb→le _ _; complete = le→leb _ _ }, λ _. tt))

  pub verdict_exact : (step drift size : ℕ) → AllExact (verdict_checks_before c t step drift size)
  verdict_exact step drift size =
      let e = sampling_exact c step drift in
      exact_append (checks_before c t) (verdict_room c t size ∷ sampling_before c step drift) checks_exact
      (λ _. (record { sound = leb→le _ _; complete = le→leb _ _ }, λ _. (e.0, λ p. ((e.1 p).0, λ _. (record { sound = near_is c drift; complete = near_passes c drift }, λ _. tt)))))

-- ---- in one unit they give today's numbers
module _ {c : Card} (u : OneUnit c) (t : Table) where
  pub margin_number : (cells : ℕ) → margin_refusal c t cells ≡ first (margin_checks_before c t cells)
  unfolding first lengths_obey
  margin_number cells = rw (thirteen u, five u) refl

  pub verdict_number : (step drift size : ℕ) → verdict_refusal c t step drift size ≡ first (verdict_checks_before c t step drift size)
  unfolding first lengths_obey verdict_refusal
  verdict_number step drift size = rw (thirteen u, five u, eleven) refl
    where
      eleven : values_near c drift ≡ near_before c drift
      eleven = same_test (λ h. near_passes c drift (steady_alike u drift (steady c drift h))) (λ h. steady_passes c drift (alike_steady u drift (near_is c drift h)))
