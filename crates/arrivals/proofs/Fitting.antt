-- The rows that are accepted make a recording as document 01 asks for it, but for their count: none has none, and each that passes 5, 6 and 7 keeps it so.
-- Assumes nothing.
use mathlib.Core.Path.{◌≡◌}
use mathlib.Core.Logic.{inl, inr}
use mathlib.Core.List.{◌++◌}
use Prim.Native.Nat.{ℕ, suc, ◌+◌, ◌-◌, ◌≤◌, ◌<◌}
use native.Mathlib.Omega.{arith}
use native.Mathlib.Decide.{dec_lt, ℕ_discrete}
use lib.ListN.{length, get_or, length-append, get_or-append}
use lib.IntN.{pos}
use Rattle.recordings.specs.declared.Setup.{Setup}
use Rattle.recordings.specs.Card.{Card, rows, time}
use Rattle.recordings.specs.Accepted.{InRange}
use Rattle.tables.specs.declared.Table.{Table}
use Rattle.refusals.specs.First.{first, Passed}
use Rattle.refusals.proofs.First.{passed}
use Rattle.arrivals.specs.Arrivals.{Row, no_rows, with_row, making_checks, Later, offer_checks, offer_refusal}
use Rattle.arrivals.specs.Fits.{Fits}
use Rattle.arrivals.proofs.Refusals.{making_exact, offer_exact}
use Rattle.arrivals.proofs.Growth.{getD_behind, rows_next, time_before, time_newest}

-- nothing applied at the making
pub made : (c : Card) (t : Table) → first (making_checks c t) ≡ 0 → Passed (making_checks c t)
made c t e = passed (making_checks c t) tt (making_exact c t) e

-- nothing applies to a row
pub offered : (c : Card) (t : Table) (r : Row) → offer_refusal c t r ≡ 0 → Passed (offer_checks c t r)
offered c t r e = passed (offer_checks c t r) tt (offer_exact c t r) e

pub fits_none : (s : Setup) (t : Table) → s.scales.count ≡ s.channels → first (making_checks (no_rows s) t) ≡ 0 → Fits (no_rows s)
fits_none s t k e =
    let p = made (no_rows s) t e in
    record {
      measured = record { channels = p.each 1 (omega arith); scaled = p.each 2 (omega arith); all_scales = k; values = record { each = λ m h. absurd (omega arith) } };
      all_values = omega arith;
      times = record { rising = λ i h. absurd (omega arith); small_times = λ i h. absurd (omega arith) };
    }

module _ (c : Card) (t : Table) (r : Row) (ok : Fits c) (e : offer_refusal c t r ≡ 0) where
  row_passed : Passed (offer_checks c t r)
  row_passed = offered c t r e

  later : Later c r.time
  later = row_passed.each 5 (omega arith)

  times_rise : (i : ℕ) → suc i < rows (with_row c r) → time (with_row c r) i < time (with_row c r) (suc i)
  times_rise i h = elim (ℕ_discrete (suc i) (rows c)) [
    | yes s ↦
        let a = time_before c r i (omega arith) in
        let b : time (with_row c r) (suc i) ≡ r.time = rw s (time_newest c r) in
        elim later.rising [
          | inl z ↦ absurd (omega arith)
          | inr l ↦ let m : rows c - 1 ≡ i = omega arith in let k : time c i < r.time = rw m at l in omega (arith, a, b, k)
        ]
    | no s ↦
        let n = rows_next c r in
        let k : suc i < rows c = omega arith in
        omega (arith, time_before c r i (omega arith), time_before c r (suc i) k, ok.times.rising i k)
  ]

  times_small : (i : ℕ) → i < rows (with_row c r) → time (with_row c r) i ≤ 2_000_000_000
  times_small i h = elim (ℕ_discrete i (rows c)) [
    | yes s ↦ let b : time (with_row c r) i ≡ r.time = rw s (time_newest c r) in omega (arith, b, later.early)
    | no s ↦ let n = rows_next c r in let k : i < rows c = omega arith in omega (arith, time_before c r i k, ok.times.small_times i k)
  ]

  values_fit : (m : ℕ) → m < length (c.values ++ r.values) → InRange (get_or (c.values ++ r.values) m (pos 0))
  values_fit m h = elim (dec_lt m (length c.values)) [
    | yes k ↦ rw (get_or-append c.values r.values (pos 0) m k) (ok.measured.values.each m k)
    | no k ↦
        let n = length-append c.values r.values in
        let i : m ≡ length c.values + (m - length c.values) = omega arith in
        rw (i, getD_behind c.values r.values (m - length c.values) (pos 0)) ((row_passed.each 6 (omega arith)).each (m - length c.values) (omega arith))
  ]

  pub fits_next : Fits (with_row c r)
  fits_next = record {
    measured = let m = ok.measured in record {
      channels = record { some_channel = m.channels.some_channel; few_channels = m.channels.few_channels; proper = m.channels.proper };
      scaled = record { each = m.scaled.each };
      all_scales = m.all_scales;
      values = record { each = values_fit };
    };
    all_values = rw (rows_next c r, length-append) (omega (arith, ok.all_values, row_passed.each 4 (omega arith)));
    times = record { rising = times_rise; small_times = times_small };
  }
