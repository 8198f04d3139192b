-- Each test of refusals 5 to 7 holds exactly where its sentence does. A test is taken apart into its parts and put together from them.
-- Assumes nothing.
use mathlib.Core.Path.{◌≡◌}
use mathlib.Core.Bool.{◌&&◌}
use mathlib.Core.List.{List}
use Prim.Native.Nat.{ℕ, suc, ◌-◌, ◌*◌, ◌≤◌}
use native.Mathlib.Omega.{arith}
use lib.Dec.{T, leb, ltb, eqb, leb→le, le→leb, ltb→lt, lt→ltb, eqb→eq}
use lib.ListN.{length, get_or}
use lib.IntN.{ℤ, pos}
use mir.Facts.{and_yes, yes_and, yes_eqb}
use Rattle.lists.proofs.Below.{all_at, at_all}
use Rattle.recordings.specs.Card.{Card, rows, time}
use Rattle.recordings.specs.Accepted.{MOST_ROWS, LATEST, Lengths, Times, Values}
use Rattle.predicates.specs.Predicates.{value_obeys}
use Rattle.predicates.proofs.Predicates.{value_in_range, in_range_passes}
use Rattle.rules.specs.Recording.{samples_obey, lengths_obey, all_rising, all_early, times_obey, values_obey}

-- ---- 5
pub samples_are : (channels rows values : ℕ) → T (samples_obey channels rows values) → (1 ≤ rows) × (rows ≤ MOST_ROWS) × (values ≡ rows * channels)
unfolding samples_obey
samples_are channels rows values t =
    let a = and_yes (leb rows MOST_ROWS) (leb 1 rows && eqb values (rows * channels)) t in
    let b = and_yes (leb 1 rows) (eqb values (rows * channels)) a.1 in
    (leb→le 1 rows b.0, leb→le rows MOST_ROWS a.0, eqb→eq values (rows * channels) b.1)

pub samples_pass : (channels rows values : ℕ) → 1 ≤ rows → rows ≤ MOST_ROWS → values ≡ rows * channels → T (samples_obey channels rows values)
unfolding samples_obey
samples_pass channels rows values some few all =
    yes_and (leb rows MOST_ROWS) (leb 1 rows && eqb values (rows * channels)) (le→leb rows MOST_ROWS few) (yes_and (leb 1 rows) (eqb values (rows * channels)) (le→leb 1 rows some) (yes_eqb all))

module _ (c : Card) where
  pub lengths_are : T (lengths_obey c.setup.scales.count c.setup.channels (rows c) (length c.values)) → Lengths c
  unfolding lengths_obey
  lengths_are t =
      let k = and_yes (eqb c.setup.scales.count c.setup.channels) (samples_obey c.setup.channels (rows c) (length c.values)) t in
      let s = samples_are c.setup.channels (rows c) (length c.values) k.1 in
      record { all_scales = eqb→eq c.setup.scales.count c.setup.channels k.0; some_row = s.0; few_rows = s.1; all_values = s.2 }

  pub lengths_pass : Lengths c → T (lengths_obey c.setup.scales.count c.setup.channels (rows c) (length c.values))
  unfolding lengths_obey
  lengths_pass r =
      yes_and (eqb c.setup.scales.count c.setup.channels) (samples_obey c.setup.channels (rows c) (length c.values)) (yes_eqb r.all_scales)
      (samples_pass c.setup.channels (rows c) (length c.values) r.some_row r.few_rows r.all_values)

-- ---- 6
pub times_are : (c : Card) → T (times_obey c.times) → Times c
unfolding all_rising all_early times_obey
times_are c t =
    let a = and_yes (all_rising c.times) (all_early c.times) t in
    record {
      rising = λ i h. ltb→lt (time c i) (time c (suc i)) (all_at (λ j. ltb (time c j) (time c (suc j))) (rows c - 1) a.0 i (omega arith));
      small_times = λ i h. leb→le (time c i) LATEST (all_at (λ j. leb (time c j) LATEST) (rows c) a.1 i h);
    }

pub times_pass : (c : Card) → Times c → T (times_obey c.times)
unfolding all_rising all_early times_obey
times_pass c r =
    yes_and (all_rising c.times) (all_early c.times)
    (at_all (λ j. ltb (time c j) (time c (suc j))) (rows c - 1) (λ i h. lt→ltb (time c i) (time c (suc i)) (r.rising i (omega arith))))
    (at_all (λ j. leb (time c j) LATEST) (rows c) (λ i h. le→leb (time c i) LATEST (r.small_times i h)))

-- ---- 7
pub values_are : (vs : List ℤ) → T (values_obey vs) → Values vs
unfolding values_obey
values_are vs t = record { each = λ m h. value_in_range (get_or vs m (pos 0)) (all_at (λ j. value_obeys (get_or vs j (pos 0))) (length vs) t m h) }

pub values_pass : (vs : List ℤ) → Values vs → T (values_obey vs)
unfolding values_obey
values_pass vs r = at_all (λ j. value_obeys (get_or vs j (pos 0))) (length vs) (λ m h. in_range_passes (get_or vs m (pos 0)) (r.each m h))
