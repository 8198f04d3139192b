-- `row_lines::read_values` meets its contract: the values that are left from a channel on end where all of them do.
-- Assumes nothing.
use mathlib.Core.Path.{◌≡◌}
use Prim.Native.Nat.{◌-◌}
use Rattle.row_lines.specs.Reading.{values_from, end_of}
use Rattle.row_lines.proofs.read_values.Given as goal

abbrev pub invariant-loop-channel : goal.invariant-loop-channel
invariant-loop-channel l = end_of (values_from (l.channels - l.channel) l.channel l.s l.next) ≡ end_of (values_from l.channels 0 l.s l.at)
