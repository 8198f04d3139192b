-- `sheet_rows::store_values` meets its contract: with the values that are left behind it, the slice is what it will be at the end.
-- Assumes nothing.
use mir.Syntax.{w64}
use mir.Val.{to_z, of_z}
use borrow.Author.Rules.{rules}
use mathlib.Core.Path.{◌≡◌, sym, ◌∙◌}
use Rattle.sheet_rows.proofs.Storing.{store_over, store_bad, store_next}
use Rattle.sheet_rows.proofs.store_values.Goals as goal

pub returns-in_default : goal.returns-in_default
returns-in_default c =
    absurd (store_bad _ _ _ _ _ _ _ _ c.loop-channel.invariant c.loop-channel-test.true (sym c.read_value.ensures ∙ c.in_default.is))

pub loop-channel-preserved : goal.loop-channel-preserved
loop-channel-preserved c =
    let z : to_z w64 (of_z w64 c.in-Number.value) ≡ c.in-Number.value = search rules in
    rw z (store_next _ _ _ _ _ _ _ _ c.loop-channel.invariant c.loop-channel-test.true _ _ (sym c.read_value.ensures ∙ c.in-Number.is))

pub returns : goal.returns
returns c = store_over _ _ _ _ _ _ _ _ c.loop-channel.invariant c.loop-channel-test.false
