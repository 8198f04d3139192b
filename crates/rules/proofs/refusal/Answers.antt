-- What applies to the table comes first; past it the tests follow the list of the samples.
-- Assumes nothing.
use Rattle.std.proofs.Common.{◌≡◌, sym, ap, ◌∙◌, arith}
use Rattle.refusals.specs.First.{first}
use Rattle.refusals.specs.Number.{number_of}
use Rattle.refusals.proofs.First.{first_append, first_stays}
use Rattle.refusals.proofs.Number.{not_none, handed_on}
use Rattle.recordings.specs.Card.{card_of}
use Rattle.rules.specs.Refusals.{table_checks, sample_checks, checks}
use Rattle.rules.proofs.Refusals.{table_same, table_passed}
use Rattle.rules.proofs.refusal.Goals as goal
use Rattle.rules.proofs.refusal.Goals.{In_ok-table_refusal}

-- past the first exit nothing applies to the table, so the list of the samples decides
table_none : (c : In_ok-table_refusal) → first (table_checks (card_of c.args.recording.now) c.args.table) ≡ 0
table_none c = let r = c.args.recording.now in sym (c.in_ok-table_refusal.ensures ∙ table_same r.setup r.times.now r.values.now c.args.table)

behind : (c : In_ok-table_refusal) → first (checks (card_of c.args.recording.now) c.args.table) ≡ first (sample_checks (card_of c.args.recording.now))
behind c = first_append (table_checks (card_of c.args.recording.now) c.args.table) (sample_checks (card_of c.args.recording.now)) tt (table_none c)

pub returns-in_err-table_refusal : goal.returns-in_err-table_refusal
returns-in_err-table_refusal c =
    let r = c.args.recording.now in
    let e = c.in_err-table_refusal.ensures ∙ table_same r.setup r.times.now r.values.now c.args.table in
    ap number_of (handed_on c.from_residual.result c.from_residual.ensures.1) ∙ e
    ∙ sym (first_stays (table_checks (card_of r) c.args.table) (sample_checks (card_of r)) (λ z. not_none _ (e ∙ z)))

pub lengths_obey-requires : goal.lengths_obey-requires
lengths_obey-requires c = ((table_passed _ _ (table_none (goal.at.lengths_obey-requires c).In_ok-table_refusal)).each 1 (omega arith)).few_channels

pub returns-then-not-lengths_obey : goal.returns-then-not-lengths_obey
unfolding first
returns-then-not-lengths_obey c = sym (behind (goal.at.returns-then-not-lengths_obey c).In_ok-table_refusal ∙ rw (sym c.if-not-lengths_obey.ensures))

pub returns-then-not-times_obey : goal.returns-then-not-times_obey
unfolding first
returns-then-not-times_obey c = sym (behind (goal.at.returns-then-not-times_obey c).In_ok-table_refusal ∙ rw (sym c.if-not-lengths_obey.ensures, sym c.if-not-times_obey.ensures))

pub returns-then-not-values_obey : goal.returns-then-not-values_obey
unfolding first
returns-then-not-values_obey c =
    sym (behind (goal.at.returns-then-not-values_obey c).In_ok-table_refusal ∙ rw (sym c.if-not-lengths_obey.ensures, sym c.if-not-times_obey.ensures, sym c.if-not-values_obey.ensures))

pub returns : goal.returns
unfolding first
returns c = sym (behind (goal.at.returns c).In_ok-table_refusal ∙ rw (sym c.if-not-lengths_obey.ensures, sym c.if-not-times_obey.ensures, sym c.if-not-values_obey.ensures))
