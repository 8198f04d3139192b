-- Each branch of the code is a case of the definition.
-- Assumes nothing.
use Rattle.requirements.proofs.Wholes.{whole_refused, whole_read_all, whole_part, none_numbered, started}
use Rattle.requirements.proofs.read_numbers.Goals as goal

pub returns-in-Some : goal.returns-in-Some
returns-in-Some c = whole_read_all _ _ _ (started c.requires c.read_part.ensures) _ _ _ c.in-Some.is c.if-whole-text.true

pub returns-in_default : goal.returns-in_default
returns-in_default c = none_numbered _ (whole_part _ _ _ (started c.requires c.read_part.ensures) _ _ _ c.in-Some.is c.if-whole-text.false)

pub returns-in_default-2 : goal.returns-in_default-2
returns-in_default-2 c = none_numbered _ (whole_refused _ _ _ (started c.requires c.read_part.ensures) c.in_default.is)
