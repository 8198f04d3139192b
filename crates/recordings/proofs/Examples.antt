-- Demand 3 is not empty, and acceptance gives no history: the program's example has one, the ramp has none. Both are accepted; each sentence of acceptance is
-- one test that computes over the recording.
-- Assumes nothing.
use mathlib.Core.Path.{◌≡◌, refl, sym, ◌∙◌}
use mathlib.Core.Bool.{Bool}
use mathlib.Core.Logic.{inl, inr}
use Prim.Native.Nat.{ℕ, zero, suc, ◌+◌, ◌-◌, ◌*◌, ◌≤◌, ◌<◌}
use native.Mathlib.Omega.{arith}
use lib.Dec.{T, leb, ltb, leb→le, ltb→lt, lit≤, lit<}
use lib.ListN.{length, get_or, replicate}
use lib.IntN.{ℤ, pos, ◌-ℤ◌, nat_abs}
use Rattle.numbers.proofs.Parts.{abs_parts, sub_parts}
use Rattle.lists.specs.Fold.{all_below}
use Rattle.lists.proofs.Below.{all_at}
use Rattle.recordings.specs.Card.{Card, rows, time, scale, value, unset_predicate, predicate_at, predicate}
use Rattle.recordings.specs.History.{OneStep, History}
use Rattle.recordings.specs.Accepted.{MOST_ROWS, LATEST, FARTHEST, MOST_SCALE, LONGEST_STEP, LARGEST_DRIFT, Proper, Accepted}
use Rattle.recordings.specs.Examples.{example, ramp}

-- the sentences of acceptance for a recording of one channel, as tests that compute
record Computed (c : Card) (step drift : ℕ) : Type 0 where
  one_channel : c.setup.channels ≡ 1
  proper : (p : ℕ) → Proper (predicate c p) c.setup.channels
  one_scale : c.setup.scales.count ≡ 1
  some_scale : T (leb 1 (scale c 0))
  small_scale : T (leb (scale c 0) MOST_SCALE)
  some_row : T (leb 1 (rows c))
  few_rows : T (leb (rows c) MOST_ROWS)
  all_values : length c.values ≡ rows c * c.setup.channels
  rising : T (all_below (λ i. ltb (time c i) (time c (suc i))) (rows c - 1))
  small_times : T (all_below (λ i. leb (time c i) LATEST) (rows c))
  in_range : T (all_below (λ m. leb (nat_abs (get_or c.values m (pos 0))) FARTHEST) (length c.values))
  some_step : T (leb 1 step)
  short_step : T (leb step LONGEST_STEP)
  small_drift : T (leb drift LARGEST_DRIFT)
  no_gap : T (all_below (λ i. leb (time c (suc i)) (time c i + step)) (rows c - 1))
  no_jump : T (all_below (λ i. leb (scale c 0 * nat_abs (value c 0 (suc i) -ℤ value c 0 i)) (2 * drift)) (rows c - 1))

accepted : {c : Card} {step drift : ℕ} → Computed c step drift → Accepted c step drift
accepted {c} {step} {drift} t = record {
  recorded = record {
    channels = record { some_channel = omega (arith, t.one_channel); few_channels = omega (arith, t.one_channel); proper = t.proper };
    scaled = record {
      each = λ ch h k.
          let e : ch ≡ 0 = omega (arith, t.one_scale) in
          rw e (record { some = leb→le 1 (scale c 0) t.some_scale; most = leb→le (scale c 0) MOST_SCALE t.small_scale });
    };
    lengths = record { all_scales = t.one_scale ∙ sym t.one_channel; some_row = leb→le 1 (rows c) t.some_row; few_rows = leb→le (rows c) MOST_ROWS t.few_rows; all_values = t.all_values };
    times = record {
      rising = λ i h. ltb→lt _ _ (all_at (λ j. ltb (time c j) (time c (suc j))) (rows c - 1) t.rising i (omega arith));
      small_times = λ i h. leb→le _ _ (all_at (λ j. leb (time c j) LATEST) (rows c) t.small_times i h);
    };
    values = record {
      each = λ m h. record { size = leb→le _ _ (all_at (λ j. leb (nat_abs (get_or c.values j (pos 0))) FARTHEST) (length c.values) t.in_range m h) };
    };
  };
  stepped = record { some_step = leb→le 1 step t.some_step; short_step = leb→le step LONGEST_STEP t.short_step; small_drift = leb→le drift LARGEST_DRIFT t.small_drift };
  gapless = record { no_gap = λ i h. leb→le _ _ (all_at (λ j. leb (time c (suc j)) (time c j + step)) (rows c - 1) t.no_gap i (omega arith)) };
  steady = record {
    no_jump = λ i ch h k.
        let e : ch ≡ 0 = omega (arith, t.one_channel) in
        rw e (leb→le _ _ (all_at (λ j. leb (scale c 0 * nat_abs (value c 0 (suc j) -ℤ value c 0 j)) (2 * drift)) (rows c - 1) t.no_jump i (omega arith)));
  };
}

-- predicates that are not given are unset
unset_proper : (n p : ℕ) → Proper (predicate_at (replicate n unset_predicate) p) 1
unset_proper zero p = record { known = inl refl; ends = tt }
unset_proper (suc n) zero = record { known = inl refl; ends = tt }
unset_proper (suc n) (suc p) = unset_proper n p

-- ---- the program's example
at_least_five : (p : ℕ) → Proper (predicate example p) 1
at_least_five zero = record { known = inr (lit< tt); ends = record { size = lit≤ tt } }
at_least_five (suc p) = unset_proper 15 p

pub example_accepted : Accepted example 1 2
example_accepted = accepted (record {
  one_channel = refl;
  proper = at_least_five;
  one_scale = refl;
  some_scale = tt;
  small_scale = tt;
  some_row = tt;
  few_rows = tt;
  all_values = refl;
  rising = tt;
  small_times = tt;
  in_range = tt;
  some_step = tt;
  short_step = tt;
  small_drift = tt;
  no_gap = tt;
  no_jump = tt;
})

-- the course that is at each second what was then sampled
abbrev pub course : ℕ → ℕ → ℤ
course ch t = value example 0 t

pub example_has_history : History example 1 2 course
example_has_history = record { follows = λ ch i t h k s o. let e : ch ≡ 0 = omega arith in rw e (omega (arith, near i t k (omega (arith, s.to_last)))) }
  where
    apart : ℕ → ℕ → Bool
    apart t i = leb (nat_abs (value example 0 t -ℤ value example 0 i)) 2

    near : (i t : ℕ) → i < 5 → t < 5 → nat_abs (value example 0 t -ℤ value example 0 i) ≤ 2
    near i t k l = leb→le _ _ (all_at (apart t) 5 (all_at (λ u. all_below (apart u) 5) 5 tt t l) i k)

-- ---- the ramp
pub ramp_accepted : Accepted ramp 1 1
ramp_accepted = accepted (record {
  one_channel = refl;
  proper = unset_proper 16;
  one_scale = refl;
  some_scale = tt;
  small_scale = tt;
  some_row = tt;
  few_rows = tt;
  all_values = refl;
  rising = tt;
  small_times = tt;
  in_range = tt;
  some_step = tt;
  short_step = tt;
  small_drift = tt;
  no_gap = tt;
  no_jump = tt;
})

-- second 1 is one step from all three samples: no number is within 1 of both 5 and 9
pub ramp_has_no_history : (h : ℕ → ℕ → ℤ) → History ramp 1 1 h → ⊥
ramp_has_no_history h history =
    omega (arith, at_one 0 (lit< tt) (record { after = lit≤ tt; before = lit≤ tt }), at_one 2 (lit< tt) (record { after = lit≤ tt; before = lit≤ tt }), abs_parts (h 0 1 -ℤ pos 5), sub_parts (h 0 1) (pos 5), abs_parts (h 0 1 -ℤ pos 9), sub_parts (h 0 1) (pos 9))
  where
    at_one : (i : ℕ) → i < 3 → OneStep ramp 1 i 1 → nat_abs (h 0 1 -ℤ value ramp 0 i) ≤ 1
    at_one i k o = omega (arith, history.follows 0 i 1 (lit< tt) k (record { from_first = lit≤ tt; to_last = lit≤ tt }) o)
