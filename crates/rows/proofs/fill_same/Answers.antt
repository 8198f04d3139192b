-- std's fill leaves the value at each place of the front.
-- Assumes nothing.
use mathlib.Core.Path.{ap, ◌∙◌}
use Rattle.std.proofs.Common.{rules, ◌≡◌, drop, ◌++◌, replicate}
use Rattle.lists.proofs.Filled.{fill_same_value}
use Rattle.rows.proofs.fill_same.Goals as goal

pub returns : goal.returns
returns c =
    let e : c.fill.new.self ≡ replicate c.args.rows c.args.value = search rules in
    ap (λ l. l ++ drop c.args.rows c.args.part.now) e ∙ fill_same_value c.args.rows c.args.value c.args.part.now c.requires
