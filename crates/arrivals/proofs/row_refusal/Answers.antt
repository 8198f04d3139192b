-- The tests follow the list; what they are told of the rows before is all that the list asks of them.
-- Assumes nothing.
use Rattle.std.proofs.Common.{sym, refl}
use Rattle.numbers.proofs.Parts.{holds}
use Rattle.rules.proofs.Recording.{values_are}
use Rattle.arrivals.proofs.Refusals.{row_five, row_later}
use Rattle.arrivals.proofs.row_refusal.Goals as goal

pub returns-then-values-channels-clause-number : goal.returns-then-values-channels-clause-number
returns-then-values-channels-clause-number c = λ k hc hn. row_five k (record { time = c.args.time; values = c.args.values.now }) hc c.if-values-channels.true

pub returns-then-not-in_time-clause-number : goal.returns-then-not-in_time-clause-number
returns-then-not-in_time-clause-number c =
    λ k hc hn.
    row_later k (record { time = c.args.time; values = c.args.values.now }) hc hn c.if-values-channels.false c.if-not-in_time.ensures refl

pub returns-then-not-values_obey-clause-number : goal.returns-then-not-values_obey-clause-number
returns-then-not-values_obey-clause-number c =
    λ k hc hn.
    row_later k (record { time = c.args.time; values = c.args.values.now }) hc hn c.if-values-channels.false c.if-not-in_time.ensures c.if-not-values_obey.ensures

pub returns-clause-number : goal.returns-clause-number
returns-clause-number c = λ k hc hn. row_later k (record { time = c.args.time; values = c.args.values.now }) hc hn c.if-values-channels.false c.if-not-in_time.ensures c.if-not-values_obey.ensures

pub returns-clause-values : goal.returns-clause-values
returns-clause-values c = values_are c.args.values.now (holds (sym c.if-not-values_obey.ensures))
