-- The values are looked at where the drift is in range.
-- Assumes nothing.
use Rattle.std.proofs.Common.{sym}
use Rattle.numbers.proofs.Parts.{holds}
use Rattle.sampling.proofs.Sampling.{step_is}
use Rattle.sampling.proofs.refusal.Goals as goal

pub values_near-requires : goal.values_near-requires
values_near-requires c = record { recorded = c.requires; small_drift = (step_is c.args.step c.args.drift (holds (sym c.if-not-step_obeys.ensures))).small_drift }
