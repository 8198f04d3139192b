-- `scale_lines::read_scales` meets its contract: the lines that are left from a channel on give what all of them give.
-- Assumes nothing.
use mathlib.Core.Path.{◌≡◌}
use Prim.Native.Nat.{◌-◌, ◌≤◌}
use Rattle.recordings.specs.Accepted.{MOST_CHANNELS}
use Rattle.scale_lines.specs.Reading.{lines_from, scales_at}
use Rattle.scale_lines.proofs.read_scales.Given as goal

abbrev pub invariant-loop-channel : goal.invariant-loop-channel
invariant-loop-channel l =
    (lines_from (l.count - l.channel) l.s l.next l.channel l.each ≡ scales_at l.s l.at l.channels) × (l.count ≤ MOST_CHANNELS)
