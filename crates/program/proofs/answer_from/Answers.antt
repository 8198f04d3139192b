-- What is written are the lines for the bytes that were read.
-- Assumes nothing.
use Rattle.std.proofs.Common.{◌≡◌, ℕ, ◌≤◌, List, length, take, replicate, ap, ◌∙◌, subst}
use Rattle.std.specs.Prelude.{Option, Result, Ok, Err, IfSome, OnOk, None, Some}
use Rattle.printing.specs.Output.{Output, blank, printed}
use Rattle.printing.proofs.Printed.{front_says}
use Rattle.answers.specs.Answers.{answers_of}
use Rattle.outcome_lines.specs.Printed.{LINES, lines_of}
use Rattle.std.specs.Io.KnownBytes.{Appends}
use Rattle.program.specs.Input.{AppendsFront}
use Rattle.program.proofs.Cut.{answers_cut}
use Rattle.program.proofs.answer_from.Goals as goal

-- what is said of the bytes that were written is said of the lines for all that the reader had
lines_for : (known : Option (List ℕ)) (P : List ℕ → Type 0) (text : List ℕ) (count : ℕ) (out : Output) {wrote : List ℕ} → length text ≡ 65_537
    → IfSome known (λ xs. take count text ≡ take (length text) xs)
    → out ≡ printed (blank LINES) (lines_of (answers_of (take count text)))
    → length (lines_of (answers_of (take count text))) ≤ LINES → wrote ≡ take out.end out.bytes → P wrote → IfSome known (λ xs. P (lines_of (answers_of xs)))
lines_for None P text count out long read is room whole put = tt
lines_for (Some xs) P text count out long read is room whole put =
    let same = ap (λ l. lines_of (answers_of l)) (read ∙ ap (λ n. take n xs) long) ∙ ap lines_of (answers_cut xs) in
    subst P (whole ∙ (front_says (replicate LINES 0) _ is room).1 ∙ same) put

on_ok : {T E A B : Type 0} (r : Result T E) → (A → B) → OnOk r A → OnOk r B
on_ok (Ok x) f a = f a
on_ok (Err e) f a = tt

pub returns-clause-whole : goal.returns-clause-whole
returns-clause-whole g c =
    let wrote = λ (bs : List ℕ). Appends (g.W.Write.contents c.args.writer.now) (g.W.Write.contents c.write_lines.new.writer) bs in
    let printed_lines = c.printed_answers-lines.ensures in
    on_ok c.write_lines.result (lines_for _ wrote _ _ _ c.read_text.auto.text c.in_ok-count.ensures.bytes printed_lines.result_value printed_lines.room c.as_slice.ensures)
    c.write_lines.ensures.whole

pub returns-clause-front : goal.returns-clause-front
returns-clause-front g c =
    let wrote = λ (bs : List ℕ). AppendsFront (g.W.Write.contents c.args.writer.now) (g.W.Write.contents c.write_lines.new.writer) bs in
    let printed_lines = c.printed_answers-lines.ensures in
    lines_for _ wrote _ _ _ c.read_text.auto.text c.in_ok-count.ensures.bytes printed_lines.result_value printed_lines.room c.as_slice.ensures c.write_lines.ensures.front
