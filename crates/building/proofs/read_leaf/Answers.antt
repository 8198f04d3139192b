-- `building::read_leaf` meets its contract: each branch of the code is a case of the definition.
-- Assumes nothing.
use mathlib.Core.Path.{sym, ◌∙◌}
use Rattle.building.proofs.Stores.{true_stored, predicate_stored, leaf_refused}
use Rattle.building.proofs.read_leaf.Goals as goal

pub returns-in-Some : goal.returns-in-Some
returns-in-Some c =
    let t = true_stored c.args.free c.args.s.now c.args.at _ _ _ _ (sym c.read_letter.ensures ∙ c.in-Some.is) c.push.ensures.step (rw c.leaf.ensures at c.push.ensures.cells) in
    record { step = t.0; cells = t.1 }

pub returns-in_default-read_field : goal.returns-in_default-read_field
returns-in_default-read_field c =
    let t = leaf_refused c.args.free c.args.s.now c.args.at c.args.cells.now (sym c.read_letter.ensures ∙ c.in_default.is) (sym c.read_field.ensures ∙ c.in_default-read_field.is) in
    record { step = t.0; cells = t.1 }

pub returns : goal.returns
returns c =
    let t = predicate_stored c.args.free c.args.s.now c.args.at _ _ _ _ _ (sym c.read_letter.ensures ∙ c.in_default.is) (sym c.read_field.ensures ∙ c.in-Number.is) c.push-2.ensures.step (rw c.leaf-2.ensures at c.push-2.ensures.cells) in
    record { step = t.0; cells = t.1 }
