-- Slices too short are refused, then what the watch or the row is refused by; an accepted row is taken.
-- Assumes nothing.
use mathlib.Core.Path.{◌≡◌, refl, sym, ap, ◌∙◌, subst}
use native.Mathlib.Omega.{arith}
use Rattle.std.specs.Prelude.{Err}
use Rattle.std.proofs.lemmas.Result.{err_from_is_err_and}
use borrow.Author.Tests.{not-true, not-false}
use lib.ListN.{length}
use Rattle.recordings.specs.Card.{Card}
use Rattle.tables.specs.declared.Table.{Table}
use Rattle.refusals.proofs.First.{unless_none}
use Rattle.arrivals.specs.Arrivals.{Row, with_row, offer_refusal}
use Rattle.watches.specs.Watches.{Watches, Roomy}
use Rattle.watches.proofs.Answers.{roomy, cramped, watch_roomy, refused_watches}
use Rattle.watches.proofs.take.Goals as goal
use Rattle.watches.proofs.take.Goals.{Else-not-is_roomy, In_ok-offer_refusal, Start}

room : (c : Else-not-is_roomy) → Roomy (length c.args.numbers.now) (length c.args.cells.now)
room c = roomy _ _ (sym c.is_roomy.ensures ∙ not-false _ c.if-not-is_roomy.false-raw)

abbrev row : Start → Row
row c = record { time = c.args.time; values = c.args.values.now }

none : (c : In_ok-offer_refusal) (t : Table) (k : Card) → Watches c.args.numbers.now c.args.cells.now t k → offer_refusal k t (row (goal.at.In_ok-offer_refusal c).Start) ≡ 0
none c t k W = sym (c.in_ok-offer_refusal.ensures.number c.args.cells.now t k W)

pub returns-then-not-is_roomy : goal.returns-then-not-is_roomy
returns-then-not-is_roomy c =
    let h = cramped _ _ (sym c.is_roomy.ensures ∙ not-true c.is_roomy.result c.if-not-is_roomy.true-raw) in
    record { row = record { equal = λ z. refl; number = λ t k W. absurd (h (watch_roomy W)); watch = λ t k W. absurd (h (watch_roomy W)) }; short = λ z. ap Err c.from.ensures; behind = (record { same = λ i h. refl }, record { same = λ i h. refl }); some = let e = c.from.ensures in omega (arith, e) }

pub offer_refusal-requires : goal.offer_refusal-requires
offer_refusal-requires c = (room (goal.at.offer_refusal-requires c).Else-not-is_roomy).long

pub returns-in_err-offer_refusal : goal.returns-in_err-offer_refusal
returns-in_err-offer_refusal c =
    let p = err_from_is_err_and c.from_residual.result c.from_residual.ensures.1 in
    let o = c.in_err-offer_refusal.ensures in
    rw p.1 (record {
      row = record {
        equal = λ z. refl;
        number = λ t k W. p.2 ∙ o.number c.args.cells.now t k W;
        watch = λ t k W. refused_watches W (row (goal.at.returns-in_err-offer_refusal c).Start) (λ z. let n = o.some in let e = o.number c.args.cells.now t k W ∙ z in omega (arith, n, e));
      };
      short = λ z. absurd (z (room (goal.at.returns-in_err-offer_refusal c).Else-not-is_roomy));
      behind = (record { same = λ i h. refl }, record { same = λ i h. refl });
      some = rw p.2 o.some;
    })

pub take_row-requires : goal.take_row-requires
take_row-requires c = let m = room (goal.at.take_row-requires c).Else-not-is_roomy in let o = c.in_ok-offer_refusal.ensures in (m.long, m.wide, o.early, o.values)

pub returns : goal.returns
returns c =
    let t3 = c.take_row.ensures in
    let n = none (goal.at.returns c).In_ok-offer_refusal in
    record {
      row = record {
        equal = λ z. absurd (z refl);
        number = λ t k W. sym (n t k W);
        watch = λ t k W. subst (Watches _ _ t) (sym (unless_none (with_row k (row (goal.at.returns c).Start)) k (n t k W))) (t3.watch t k W (n t k W));
      };
      short = λ z. absurd (z (room (goal.at.returns c).Else-not-is_roomy));
      behind = t3.behind;
      some = tt;
    }
