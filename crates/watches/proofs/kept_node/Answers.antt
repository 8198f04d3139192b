-- The test is the rule's; past it the window is closed.
-- Assumes nothing.
use mathlib.Core.Path.{◌≡◌, sym, ◌∙◌}
use mathlib.Core.Bool.{true, false}
use borrow.Author.Tests.{not-true, not-false}
use Rattle.numbers.proofs.Parts.{holds}
use Rattle.tables.specs.Rules.{window_obeys}
use Rattle.tables.proofs.Rules.{window_rules}
use Rattle.watches.proofs.kept_node.Goals as goal
use Rattle.watches.proofs.kept_node.Goals.{Else-not-window_obeys}

obeys : (c : Else-not-window_obeys) → window_obeys c.args.node.span ≡ true
obeys c = sym c.window_obeys.ensures ∙ not-false _ c.if-not-window_obeys.false-raw

pub returns-then-not-window_obeys : goal.returns-then-not-window_obeys
returns-then-not-window_obeys c =
    let e : window_obeys c.args.node.span ≡ false = sym c.window_obeys.ensures ∙ not-true _ c.if-not-window_obeys.true-raw in
    rw e

pub closed-requires : goal.closed-requires
closed-requires c = window_rules c.args.node.span (holds (obeys (goal.at.closed-requires c).Else-not-window_obeys))

pub returns : goal.returns
returns c = rw (obeys (goal.at.returns c).Else-not-window_obeys, c.closed.ensures)
