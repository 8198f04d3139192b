-- A watch is written whatever its making was refused by, where there is room for one.
-- Assumes nothing.
use mathlib.Core.Path.{◌≡◌, refl, sym, ap, ◌∙◌}
use Rattle.std.specs.Prelude.{ℕ, false, Result, Ok, Err}
use Rattle.std.specs.Result.{result_and}
use mathlib.Core.List.{[]}
use borrow.Author.Tests.{not-true, not-false}
use lib.ListN.{length}
use Rattle.recordings.specs.declared.Setup.{Setup}
use Rattle.tables.specs.declared.Table.{Table}
use Rattle.refusals.specs.declared.Refusal.{Refusal}
use Rattle.refusals.specs.declared.Refusal.TheVariants.{Work}
use Rattle.refusals.specs.First.{first}
use Rattle.refusals.specs.Number.{number_of}
use Rattle.refusals.proofs.Number.{not_none}
use Rattle.refusals.proofs.First.{first_stays, first_here}
use Rattle.arrivals.specs.Arrivals.{watch_setup, no_rows, making_checks}
use Rattle.watches.specs.Watches.{Roomy, room_check, lent_checks}
use Rattle.watches.proofs.Fresh.{fresh_watches, fresh_behind, cells_behind}
use Rattle.watches.proofs.Answers.{roomy, cramped, lent_first}
use Rattle.watches.proofs.make.Goals as goal
use Rattle.watches.proofs.make.Goals.{Else-not-is_roomy, Then-not-is_roomy}

short : (c : Then-not-is_roomy) → Roomy (length c.args.numbers.now) (length c.args.cells.now) → ⊥
short c = cramped _ _ (sym c.is_roomy.ensures ∙ not-true c.is_roomy.result c.if-not-is_roomy.true-raw)

room : (c : Else-not-is_roomy) → Roomy (length c.args.numbers.now) (length c.args.cells.now)
room c = roomy _ _ (sym c.is_roomy.ensures ∙ not-false _ c.if-not-is_roomy.false-raw)

-- where there is no room, 8 comes after what the making was refused by
cramped_first : {A : Type 0} (s : Setup) (t : Table) (n m : ℕ) (o : Result A Refusal) → number_of o ≡ first (making_checks (no_rows s) t) → (room_check n m).passes ≡ false → number_of {A = A} (result_and o (Err Work)) ≡ first (lent_checks s t n m)
cramped_first s t n m (Ok x) e p = sym (first_here (making_checks (no_rows s) t) (room_check n m) [] tt (sym e) p)
cramped_first s t n m (Err r) e p = e ∙ sym (first_stays (making_checks (no_rows s) t) _ (λ z. not_none r (e ∙ z)))

pub returns-then-not-is_roomy : goal.returns-then-not-is_roomy
returns-then-not-is_roomy c =
    let s = c.args in
    record {
      number = ap number_of c.and.ensures ∙ cramped_first (watch_setup s.predicates s.scales) s.table _ _ c.making_refusal-made.result c.making_refusal-made.ensures (sym c.is_roomy.ensures ∙ not-true c.is_roomy.result c.if-not-is_roomy.true-raw);
      watch = λ z. absurd (short (goal.at.returns-then-not-is_roomy c).Then-not-is_roomy z);
      short = λ z. (refl, refl);
      behind = (record { same = λ i h. refl }, record { same = λ i h. refl });
    }

pub write_fresh-requires : goal.write_fresh-requires
write_fresh-requires c = let m = room (goal.at.write_fresh-requires c).Else-not-is_roomy in (m.long, m.wide)

pub returns : goal.returns
returns c =
    let s = c.args in
    let m = c.making_refusal-made.ensures in
    let k = c.number_of.ensures ∙ m in
    let f = c.write_fresh.ensures in
    let o = room (goal.at.returns c).Else-not-is_roomy in
    let n = f.arrays.0 in
    let p = f.arrays.1 in record { number = m ∙ sym (lent_first (watch_setup s.predicates s.scales) s.table _ _ o); watch = λ z. rw (f.numbers, f.cells) (fresh_watches c.number_of.result s.table s.predicates s.scales s.numbers.now s.cells.now n p o.long o.wide k); short = λ z. absurd (z o); behind = (rw f.numbers (fresh_behind c.number_of.result s.table s.predicates s.scales s.numbers.now s.cells.now n p o.long o.wide), rw f.cells (cells_behind c.number_of.result s.table s.predicates s.scales s.numbers.now s.cells.now n p o.long o.wide)) }
