-- `text::digits_at` meets its contract: the bytes that it counts are the digits among the first ones behind the place.
-- Assumes nothing.
use Rattle.std.proofs.Common.{◌≡◌, ◌≤◌, take, drop, arith, rules, tests}
use Rattle.std.proofs.lemmas.Grind.{common_steps}
use Rattle.std.proofs.lemmas.List.{take-take, length-take}
use Rattle.std.proofs.lemmas.List.Folds.{length-prefix_len}
use Rattle.std.proofs.lemmas.Iterator.{YieldsList-from_slice, YieldsList-from_take}
use Rattle.std.proofs.lemmas.Iterator.Search.{YieldsList-from_take_while}
use Rattle.std.proofs.lemmas.Iterator.Consumers.{count_from_yields_List}
use Rattle.std.proofs.lemmas.List.Sums.{prefix_len-le-length}
use lib.ListN.{drop_of_length-le}
use Rattle.std.specs.List.{prefix_len}
use Rattle.text.specs.Number.{is_digit, digits}
use Rattle.text.proofs.Digits.{digits_first}
use Rattle.text.proofs.digits_at.Goals as goal

pub returns : goal.returns
returns c =
    let b = c.unwrap_or-behind.result.now in
    let l = take 64 b in
    let e = count_from_yields_List c.take_while.result _ c.count-count.ensures.ran
    (YieldsList-from_take_while _ is_digit (YieldsList-from_take 64 (YieldsList-from_slice b cc) cc) c.take_while.ensures.closure c.take_while.ensures.done (λ x b q k. search (rules, tests))) in
    let f : b ≡ drop c.args.at c.args.s.now = grind (arith, common_steps, drop_of_length-le) in
    let m : prefix_len is_digit l ≤ 64 = omega (arith, prefix_len-le-length is_digit l, length-take 64 b) in
    let g : take (prefix_len is_digit l) l ≡ digits (take 64 (drop c.args.at c.args.s.now)) = rw f (digits_first (take 64 (drop c.args.at c.args.s.now))) in
    rw (e, length-prefix_len is_digit l, ← take-take (prefix_len is_digit l) 64 b m) g
