-- 16 comes after 3, 4 and 13, and is asked of a table that obeys its rules.
-- Assumes nothing.
use Rattle.std.proofs.Common.{sym, ap, ◌∙◌, [], ◌∷◌, arith}
use Rattle.refusals.specs.First.{first}
use Rattle.refusals.specs.Number.{number_of}
use Rattle.refusals.proofs.First.{first_stays, first_here, first_behind}
use Rattle.refusals.proofs.Number.{not_none, handed_on}
use Rattle.rules.specs.Refusals.{table_checks}
use Rattle.rules.proofs.Refusals.{table_passed}
use Rattle.arrivals.specs.Arrivals.{no_rows, nesting_check}
use Rattle.arrivals.proofs.making_refusal.Goals as goal

pub returns-in_err-table_refusal : goal.returns-in_err-table_refusal
returns-in_err-table_refusal c =
    let e = c.in_err-table_refusal.ensures in
    ap number_of (handed_on c.from_residual.result c.from_residual.ensures.1) ∙ e
    ∙ sym (first_stays (table_checks (no_rows c.args.setup) c.args.table) (nesting_check c.args.table ∷ []) (λ z. not_none _ (e ∙ z)))

pub unnested-requires : goal.unnested-requires
unnested-requires c = ((table_passed _ _ (sym c.in_ok-table_refusal.ensures)).each 0 (omega arith)).0

pub returns-then-not-unnested : goal.returns-then-not-unnested
returns-then-not-unnested c =
    sym (first_here (table_checks (no_rows c.args.setup) c.args.table) (nesting_check c.args.table) [] tt (sym c.in_ok-table_refusal.ensures) (sym c.if-not-unnested.ensures))

pub returns : goal.returns
unfolding first
returns c =
    sym (first_behind (table_checks (no_rows c.args.setup) c.args.table) (nesting_check c.args.table) [] tt (sym c.in_ok-table_refusal.ensures) (sym c.if-not-unnested.ensures))
