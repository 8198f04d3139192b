-- How many lines are due, and the lines one by one: those that are left from a channel on give what all of them give.
-- Assumes nothing.
use mathlib.Core.Path.{◌≡◌}
use mathlib.Core.List.{List, []}
use Prim.Native.Nat.{ℕ, suc, ◌+◌, ◌-◌, ◌≤◌, ◌<◌}
use native.Mathlib.Nat.{sub-zero}
use native.Mathlib.Omega.{arith}
use lib.ListN.{set}
use borrow.Author.Tests.{le-leb, lt-leb}
use Rattle.std.specs.Prelude.{Some, None}
use Rattle.text.specs.declared.Read.{Read}
use Rattle.text.proofs.Tests.{by_le}
use Rattle.recordings.specs.Accepted.{MOST_CHANNELS}
use Rattle.recordings.specs.Card.{eight}
use Rattle.scale_lines.specs.Form.{due}
use Rattle.scale_lines.specs.Reading.{line_at, scales_place, lines_from, scales_at}

-- ---- how many lines are due

pub due_each : (channels : ℕ) → channels ≤ MOST_CHANNELS → channels ≡ due channels
unfolding due
due_each channels l = rw (le-leb channels MOST_CHANNELS l)

pub due_none : (channels : ℕ) → MOST_CHANNELS < channels → 0 ≡ due channels
unfolding due
due_none channels l = rw (lt-leb channels MOST_CHANNELS l)

pub due_most : (channels : ℕ) → due channels ≤ MOST_CHANNELS
due_most channels = by_le channels MOST_CHANNELS (λ l. omega (arith, due_each channels l)) (λ l. omega (arith, due_none channels l))

-- ---- the lines, one by one

pub lines_start : (s : List ℕ) (at count channels : ℕ) → count ≡ due channels → lines_from (count - 0) s at 0 (eight []) ≡ scales_at s at channels
unfolding scales_at
lines_start s at count channels e = rw (sub-zero, e)

module _ (s : List ℕ) (at count channel : ℕ) (each : List ℕ) where
  pub lines_over : channel ≤ count → count ≤ channel → lines_from (count - channel) s at channel each ≡ scales_place count each at
  unfolding lines_from
  lines_over l m =
      let e : count - channel ≡ 0 = omega arith in
      let f : channel ≡ count = omega arith in
      rw (e, f)

  module _ (l : channel < count) where
    pub lines_bad : line_at s at channel ≡ None → lines_from (count - channel) s at channel each ≡ None
    unfolding lines_from
    lines_bad h = let e : count - channel ≡ suc (count - (channel + 1)) = omega arith in rw (e, h)

    pub lines_next : (r : Read ℕ) → line_at s at channel ≡ Some r
        → lines_from (count - channel) s at channel each ≡ lines_from (count - (channel + 1)) s r.next (channel + 1) (set each channel r.value)
    unfolding lines_from
    lines_next r h = let e : count - channel ≡ suc (count - (channel + 1)) = omega arith in rw (e, h)

-- what the reader's loop cites
pub ruleset turns = (due_most, lines_start, lines_over, lines_bad, lines_next)
