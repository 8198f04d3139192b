-- `requirement_lines::before_feed` meets its contract: the bytes that it counts are those before the first line feed.
-- Assumes nothing.
use Rattle.std.proofs.Common.{not, ◌==◌, length, ap, ◌∙◌, rules, tests}
use Rattle.std.proofs.lemmas.Iterator.{YieldsList-from_slice}
use Rattle.std.proofs.lemmas.Iterator.Search.{YieldsList-from_take_while}
use Rattle.std.proofs.lemmas.Iterator.Consumers.{count_from_yields_List}
use Rattle.requirement_lines.proofs.Written.{until_taken}
use Rattle.requirement_lines.proofs.before_feed.Goals as goal

pub returns-clause-value : goal.returns-clause-value
returns-clause-value c =
    let e = count_from_yields_List c.take_while.result _ c.count.ensures.ran
    (YieldsList-from_take_while _ (λ b. not (b == 10)) (YieldsList-from_slice c.args.s.now cc) c.take_while.ensures.closure c.take_while.ensures.done (λ x b q k. search (rules, tests))) in
    e ∙ ap length (until_taken c.args.s.now)
