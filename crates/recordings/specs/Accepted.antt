-- What is accepted: the conditions of refusals 4, 13, 5 to 7 and 9 to 11, none of which applies, each as a sentence. Their tests stand in predicates, scales, rules and sampling.
-- Assumes nothing.
use Rattle.std.specs.Prelude.{◌≡◌, ◌⊎◌, List, ℕ, suc, ◌+◌, ◌*◌, ◌≤◌, ◌<◌, T, length, get_or, ℤ, pos, ◌-ℤ◌, nat_abs}
use Rattle.std.specs.Int.Signed.{le_z}
use Rattle.numbers.specs.Order.{Within}
use Rattle.recordings.specs.declared.Predicate.{Predicate}
use Rattle.recordings.specs.declared.Range.{Range}
use Rattle.recordings.specs.declared.Range.TheVariants.{Unset, Free, AtLeast, AtMost, Between}
use Rattle.recordings.specs.Card.{Card, rows, time, scale, value, predicate}

-- ---- the limits; `src/` has the same names
-- a recording has 1 to 4,096 samples and 1 to 8 channels
abbrev pub MOST_ROWS : ℕ
MOST_ROWS = 4_096

abbrev pub MOST_CHANNELS : ℕ
MOST_CHANNELS = 8

-- times are at most 2,000,000,000
abbrev pub LATEST : ℕ
LATEST = 2_000_000_000

-- values and ends of ranges lie from −1,000,000,000 to 1,000,000,000
abbrev pub FARTHEST : ℕ
FARTHEST = 1_000_000_000

-- a scale is 1 to 1,000
abbrev pub MOST_SCALE : ℕ
MOST_SCALE = 1_000

pub record ScaleInRange (k : ℕ) : Type 0 where
  pub some : 1 ≤ k
  pub most : k ≤ MOST_SCALE

abbrev pub InRange : ℤ → Type 0
InRange v = Within FARTHEST v

-- the step is 1 to 1,000,000,000 seconds, the drift 0 to 1,000,000,000
abbrev pub LONGEST_STEP : ℕ
LONGEST_STEP = 1_000_000_000

abbrev pub LARGEST_DRIFT : ℕ
LARGEST_DRIFT = 1_000_000_000

-- ---- a predicate
-- a range's ends obey the range of values, and lo ≤ hi
abbrev pub Ends : Range → Type 0
Ends Unset = Unit
Ends Free = Unit
Ends (AtLeast lo) = InRange lo
Ends (AtMost hi) = InRange hi
Ends (Between lo hi) = InRange lo × InRange hi × T (le_z lo hi)

-- a set predicate's channel is below the channel count; an unset one's is not judged
pub record Proper (p : Predicate) (channels : ℕ) : Type 0 where
  pub known : (p.range ≡ Unset) ⊎ (p.channel < channels)
  pub ends : Ends p.range

-- ---- the sentence of each refusal that looks at a recording, step or drift: what holds where the refusal does not apply
-- 4: 1 to 8 channels, and every predicate proper
pub record Channels (c : Card) : Type 0 where
  pub some_channel : 1 ≤ c.setup.channels
  pub few_channels : c.setup.channels ≤ MOST_CHANNELS
  pub proper : (p : ℕ) → Proper (predicate c p) c.setup.channels

-- 13: no scale that was passed is out of range; there are eight at most, whatever their count
pub record Scaled (c : Card) : Type 0 where
  pub each : (ch : ℕ) → ch < c.setup.scales.count → ch < MOST_CHANNELS → ScaleInRange (scale c ch)

-- 5: one scale for each channel, 1 to 4,096 samples, and the values rows × channels long, rows being the count of times
pub record Lengths (c : Card) : Type 0 where
  pub all_scales : c.setup.scales.count ≡ c.setup.channels
  pub some_row : 1 ≤ rows c
  pub few_rows : rows c ≤ MOST_ROWS
  pub all_values : length c.values ≡ rows c * c.setup.channels

-- 6: times strictly rising, at most 2,000,000,000
pub record Times (c : Card) : Type 0 where
  pub rising : (i : ℕ) → suc i < rows c → time c i < time c (suc i)
  pub small_times : (i : ℕ) → i < rows c → time c i ≤ LATEST

-- 7: no value out of range
pub record Values (values : List ℤ) : Type 0 where
  pub each : (m : ℕ) → m < length values → InRange (get_or values m (pos 0))

-- 9: the step is 1 to 1,000,000,000 seconds, the drift 0 to 1,000,000,000
pub record Step (step drift : ℕ) : Type 0 where
  pub some_step : 1 ≤ step
  pub short_step : step ≤ LONGEST_STEP
  pub small_drift : drift ≤ LARGEST_DRIFT

-- 10: no two neighbouring times differ by more than the step
pub record Gapless (c : Card) (step : ℕ) : Type 0 where
  pub no_gap : (i : ℕ) → suc i < rows c → time c (suc i) ≤ time c i + step

-- 11: no neighbouring values of a channel differ, in the scaled unit, by more than 2 × drift
pub record Steady (c : Card) (drift : ℕ) : Type 0 where
  pub no_jump : (i ch : ℕ) → suc i < rows c → ch < c.setup.channels → scale c ch * nat_abs (value c ch (suc i) -ℤ value c ch i) ≤ 2 * drift

-- ---- what distances rest on: 4 and 13 do not apply, each channel has its scale, and no value is out of range; however many rows there are
pub record Measured (c : Card) : Type 0 where
  pub channels : Channels c
  pub scaled : Scaled c
  pub all_scales : c.setup.scales.count ≡ c.setup.channels
  pub values : Values c.values

-- ---- refusals 4, 13 and 5 to 7 do not apply
pub record Recorded (c : Card) : Type 0 where
  pub channels : Channels c
  pub scaled : Scaled c
  pub lengths : Lengths c
  pub times : Times c
  pub values : Values c.values

-- nor do refusals 9 to 11
pub record Accepted (c : Card) (step drift : ℕ) : Type 0 where
  pub recorded : Recorded c
  pub stepped : Step step drift
  pub gapless : Gapless c step
  pub steady : Steady c drift
