-- What the watch is refused by, then whether a row was taken, then the root's margin.
-- Assumes nothing.
use mathlib.Core.Path.{sym, ap, ◌∙◌}
use native.Mathlib.Omega.{arith}
use borrow.Author.Tests.{not-true, not-false}
use lib.ListN.{length}
use lib.IntN.{ℤ}
use Rattle.numbers.proofs.Bits.{back_ok}
use Rattle.std.specs.Prelude.{ℕ, Ok, Err}
use Rattle.watches.specs.Run.{told_outcome}
use Rattle.watches.specs.Watches.{Roomy}
use Rattle.watches.proofs.Answers.{roomy, cramped, watch_roomy, told_refused, told_none, told_margin}
use Rattle.watches.proofs.tell.Goals as goal
use Rattle.watches.proofs.tell.Goals.{Else-not-is_roomy}

room : (c : Else-not-is_roomy) → Roomy (length c.args.numbers.now) (length c.args.cells.now)
room c = roomy _ _ (sym c.is_roomy.ensures ∙ not-false _ c.if-not-is_roomy.false-raw)

pub returns-then-not-is_roomy : goal.returns-then-not-is_roomy
returns-then-not-is_roomy c = let h = cramped _ _ (sym c.is_roomy.ensures ∙ not-true c.is_roomy.result c.if-not-is_roomy.true-raw) in record { margin = λ t k W. absurd (h (watch_roomy W)); short = λ z. ap Err c.from.ensures; some = let e = c.from.ensures in omega (arith, e) }

pub bounds-numbers-0 : goal.bounds-numbers-0
bounds-numbers-0 c = let m = room (goal.at.bounds-numbers-0 c).Else-not-is_roomy in omega (arith, m.long)

pub returns-then-refusal-ne0 : goal.returns-then-refusal-ne0
returns-then-refusal-ne0 c = record { margin = λ t k W. told_refused W c.if-refusal-ne0.true; short = λ z. absurd (z (room (goal.at.returns-then-refusal-ne0 c).Else-not-is_roomy)); some = let h = c.if-refusal-ne0.true in omega (arith, h) }

pub bounds-numbers-3 : goal.bounds-numbers-3
bounds-numbers-3 c = let m = room (goal.at.bounds-numbers-3 c).Else-not-is_roomy in omega (arith, m.long)

pub returns-then-numbers-eq0 : goal.returns-then-numbers-eq0
returns-then-numbers-eq0 c = record { margin = λ t k W. ap (λ (n : ℕ). told_outcome (Err n)) c.from-then-numbers-eq0.ensures ∙ told_none W c.if-refusal-ne0.false c.if-numbers-eq0.true; short = λ z. absurd (z (room (goal.at.returns-then-numbers-eq0 c).Else-not-is_roomy)); some = let e = c.from-then-numbers-eq0.ensures in omega (arith, e) }

pub root_margin-requires : goal.root_margin-requires
root_margin-requires c = let m = room (goal.at.root_margin-requires c).Else-not-is_roomy in (m.long, m.wide)

pub returns : goal.returns
returns c =
    let m = c.root_margin in
    record { margin = λ t k W. ap (λ (x : ℤ). told_outcome (Ok x)) (back_ok m.result m.type_inv) ∙ told_margin W c.if-refusal-ne0.false c.if-numbers-eq0.false m.ensures; short = λ z. absurd (z (room (goal.at.returns c).Else-not-is_roomy)); some = tt }
