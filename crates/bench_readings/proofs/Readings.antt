-- K1 to K13 and the lines printed for document 01's sheet as one fact, from text to what is answered and printed: the whole table computes to its answers, and one lemma turns that into each entry.
-- Assumes nothing.
use mathlib.Core.Path.{◌≡◌, refl, sym, ap, ◌∙◌}
use mathlib.Core.List.{List, [], map}
use Prim.Native.Nat.{ℕ}
use lib.ListN.{get_or}
use Rattle.lists.proofs.Maps.{map_at}
use Rattle.recordings.specs.Margin.{robustness}
use Rattle.tables.specs.Tree.{meanings, meaning, tree}
use Rattle.tables.specs.Rules.{node_obeys, nodes_obey, table_obeys}
use Rattle.predicates.specs.Predicates.{names_set, all_named, requirement_obeys, value_obeys, predicate_obeys, predicates_obey, channels_obey}
use Rattle.refusals.specs.First.{first}
use Rattle.scales.specs.Scales.{scale_obeys, passed_obeys, scales_obey}
use Rattle.rules.specs.Recording.{samples_obey, lengths_obey, all_rising, all_early, times_obey, values_obey}
use Rattle.sampling.specs.Sampling.{step_obeys, times_close, near, channel_near, values_near}
use Rattle.distances.specs.Answers.{distance_judged}
use Rattle.margins.specs.Answers.{margin_judged}
use Rattle.verdicts.specs.Answer.{verdict_refusal, verdict_judged}
use Rattle.text.specs.Mark.{prefix_of, mark_at}
use Rattle.text.specs.Number.{digits, value, number_at, field_at, signed_at, signed_field_at}
use Rattle.grammar.specs.Tree.{size}
use Rattle.building.specs.Nodes.{nodes_of}
use Rattle.grammar.specs.Reading.{bracket_at, high_end_at, window_at, timed_at, timed_among, leaf_at, more_turns, bind_by, unary_by, unary_at, requirement_tree}
use Rattle.row_lines.specs.Reading.{value_at, values_from, rest_at, row_at, rows_from}
use Rattle.sheet_rows.specs.Answer.{times_in, values_in}
use Rattle.predicate_lines.specs.Reading.{end_at, line_at, lines_from, lines_at}
use Rattle.number_lines.specs.Reading.{number_line_at}
use Rattle.scale_lines.specs.Form.{due}
use Rattle.scale_lines.specs.Reading.{line_at as scale_line_at, lines_from as scale_lines_from, scales_at}
use Rattle.heads.specs.Reading.{head_of}
use Rattle.requirement_lines.specs.Reading.{until_feed, requirement_at, requirements_from}
use Rattle.sheets.specs.Sheets.{behind_head, sheet_of}
use Rattle.printing.specs.Decimal.{digits as decimal_digits}
use Rattle.lists.specs.Fill.{fill}
use Rattle.answers.specs.Answers.{answer_for, answer_to, answers_of}
use Rattle.outcome_lines.specs.Printed.{line_of, lines_in, entry_lines, lines_of}
use Rattle.bench_readings.specs.Readings.{Answer, answer, Reading, readings}

table : map (λ (r : Reading). map answer r.asked) readings ≡ map (λ (r : Reading). r.answered) readings
unfolding robustness distance_judged margin_judged verdict_judged verdict_refusal first tree meaning meanings requirement_obeys table_obeys nodes_obey node_obeys all_named names_set channels_obey predicates_obey predicate_obeys value_obeys times_obey all_rising all_early scale_obeys passed_obeys scales_obey samples_obey lengths_obey values_obey step_obeys times_close values_near channel_near near prefix_of mark_at digits value number_at field_at size bracket_at high_end_at window_at timed_at timed_among leaf_at more_turns bind_by unary_by unary_at requirement_tree nodes_of signed_at signed_field_at value_at values_from rest_at row_at rows_from times_in values_in end_at line_at lines_from lines_at number_line_at due scale_line_at scale_lines_from scales_at head_of until_feed requirement_at requirements_from behind_head sheet_of decimal_digits fill answer_for answer_to answers_of line_of lines_in entry_lines lines_of
table = refl

-- what entry k asks is answered as entry k says
pub each : (k : ℕ) → map answer (get_or readings k (record { asked = []; answered = [] })).asked ≡ (get_or readings k (record { asked = []; answered = [] })).answered
each k =
    sym (map_at (λ (r : Reading). map answer r.asked) readings k (record { asked = []; answered = [] }))
    ∙ ap (λ (l : List (List Answer)). get_or l k []) table
    ∙ map_at (λ (r : Reading). r.answered) readings k (record { asked = []; answered = [] })
