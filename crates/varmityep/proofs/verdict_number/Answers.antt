-- Each verdict has its number.
-- Assumes nothing.
use Rattle.varmityep.proofs.verdict_number.Goals as goal

pub returns-in-NotShown : goal.returns-in-NotShown
returns-in-NotShown c = rw c.in-NotShown.is

pub returns-in-Holds : goal.returns-in-Holds
returns-in-Holds c = rw c.in-Holds.is

pub returns-in-Fails : goal.returns-in-Fails
returns-in-Fails c = rw c.in-Fails.is
