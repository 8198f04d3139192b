-- What is printed for a text, in the customer's words: one bare line for a text that is refused as a whole, the old form for one requirement, and for several their lines in the one
-- arrangement, each what the requirement alone would print behind its number.
-- Assumes nothing.
use mathlib.Core.Path.{◌≡◌, sym, ap, ◌∙◌}
use mathlib.Core.List.{List}
use Prim.Native.Nat.{ℕ, ◌<◌}
use native.Mathlib.Omega.{arith}
use lib.ListN.{length}
use Rattle.sheets.specs.Only.{only}
use Rattle.sheets.specs.Sheets.{sheet_of}
use Rattle.outcomes.specs.declared.Outcome.{Outcome}
use Rattle.outcomes.specs.Order.{entry}
use Rattle.outcomes.specs.Arrangement.{Arranged}
use Rattle.outcomes.proofs.Arrangements.{arranged, one_arrangement}
use Rattle.outcome_lines.specs.Printed.{refusal_line, line_of, lines_in, entry_lines, lines_of}
use Rattle.outcome_lines.proofs.Several.{lines_single, lines_several, lines_refused, lines_judged}
use Rattle.answers.specs.Answers.{answers_of, answers_in}
use Rattle.answers.proofs.Promises.{answers_number, count_read, alone}

module _ (s : List ℕ) where
  -- 1 and 12
  pub bare_line : ((sheet_of s).number ≡ 0 → ⊥) → lines_of (answers_of s) ≡ refusal_line (sheet_of s).number
  bare_line h = sym (lines_refused (answers_of s) (λ z. h (sym (answers_number s) ∙ z))) ∙ ap refusal_line (answers_number s)

  judged : 0 < length (answers_in s) → lines_of (answers_of s) ≡ entry_lines (answers_in s)
  judged l = sym (lines_judged (answers_of s) (answers_number s ∙ count_read s 0 l))

  -- one requirement
  pub single_line : length (answers_in s) ≡ 1 → lines_of (answers_of s) ≡ line_of (entry (answers_in s) 0)
  single_line e = judged (omega arith) ∙ sym (lines_single (answers_in s) e)

  -- several, in whatever order each stands once and each pair as it must: there is one such order
  pub several_lines : 1 < length (answers_in s) → (order : List ℕ) → Arranged (answers_in s) order → lines_of (answers_of s) ≡ lines_in (answers_in s) order
  several_lines l order a = judged (omega arith) ∙ (sym (lines_several (answers_in s) (λ e. omega arith)) ∙ ap (lines_in (answers_in s)) (one_arrangement (answers_in s) (arranged (answers_in s)) a))

-- a requirement's line is what is printed for the text that keeps it alone
pub line_alone : (s : List ℕ) (k : ℕ) → k < length (answers_in s) → line_of (entry (answers_in s) k) ≡ lines_of (answers_of (only k s))
line_alone s k l =
    let e = alone s k l in
    ap (λ (xs : List Outcome). line_of (entry xs 0)) (sym e) ∙ sym (single_line (only k s) (ap length e))
