-- Field after field, and the line feed.
-- Assumes nothing.
use Rattle.std.proofs.Common.{rules, ◌≡◌, w64, to_z, of_z}
use Rattle.printing.proofs.Printed.{printed_then}
use Rattle.outcome_lines.proofs.Room.{figures_few}
use Rattle.outcome_lines.proofs.figures_line.Goals as goal

pub returns-clause-result_value : goal.returns-clause-result_value
returns-clause-result_value g c =
    let f = c.args.figures in
    let margin : to_z w64 (of_z w64 f.margin) ≡ f.margin = search rules in
    let hold : to_z w64 (of_z w64 f.hold) ≡ f.hold = search rules in
    let fail : to_z w64 (of_z w64 f.fail) ≡ f.fail = search rules in
    let two = printed_then _ _ _ c.number_field.ensures c.number_field-2.ensures in
    let three = printed_then _ _ _ two (rw margin at c.signed_field.ensures) in
    let four = printed_then _ _ _ three (rw hold at c.signed_field-2.ensures) in
    let five = printed_then _ _ _ four (rw fail at c.signed_field-3.ensures) in
    let six = printed_then _ _ _ five (printed_then _ _ _ c.word.ensures (rw c.word_of.ensures at c.word-2.ensures)) in
    printed_then _ _ _ six c.word-3.ensures

pub returns-clause-room : goal.returns-clause-room
returns-clause-room g c = let f = c.args.figures in figures_few f.rows f.filled f.margin f.hold f.fail f.verdict (search rules) (search rules) (search rules) (search rules) (search rules)
