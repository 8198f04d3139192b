-- `text::signed::read_number` meets its contract: each branch of the code is a case of the definition.
-- Assumes nothing.
use Rattle.std.proofs.Common.{sym, ◌∙◌, arith}
use Rattle.std.proofs.lemmas.Grind.{common_steps}
use Rattle.std.proofs.lemmas.Int.{ints}
use Rattle.text.specs.Number.{signed_at}
use Rattle.text.proofs.Numerals.{number_is}
use Rattle.text.proofs.signed.read_number.Goals as goal
use Rattle.text.proofs.signed.read_number.Goals.{After-read_number}

pub returns-in_default : goal.returns-in_default
unfolding signed_at
returns-in_default c = grind (arith, common_steps)

pub overflow_cast-result : goal.overflow_cast-result
overflow_cast-result c =
    let b = (number_is _ _ _ _ _ (sym c.read_number.ensures ∙ c.in-Number.is)).bound in
    omega (arith, ints)

pub overflow_cast-result-in-Some : goal.overflow_cast-result-in-Some
overflow_cast-result-in-Some c =
    let b = (number_is _ _ _ _ _ (sym c.read_number.ensures ∙ c.in-Number.is)).bound in
    omega (arith, ints)

pub overflow_sub-result : goal.overflow_sub-result
overflow_sub-result c =
    let b = (number_is _ _ _ _ _ (sym c.read_number.ensures ∙ c.in-Number.is)).bound in
    omega (arith, ints)

pub returns-in-None : goal.returns-in-None
unfolding signed_at
returns-in-None c =
    let b = (number_is _ _ _ _ _ (sym c.read_number.ensures ∙ c.in-Number.is)).bound in
    grind (arith, common_steps, ints)

pub returns-in-Some : goal.returns-in-Some
unfolding signed_at
returns-in-Some c =
    let b = (number_is _ _ _ _ _ (sym c.read_number.ensures ∙ c.in-Number.is)).bound in
    grind (arith, common_steps, ints)

pub returns-in-Some-2 : goal.returns-in-Some-2
unfolding signed_at
returns-in-Some-2 c = grind (arith, common_steps)
