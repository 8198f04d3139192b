-- The parts of a text in turn: the sheet, then its requirements. A sheet that its reader accepts has its places inside the text and its rows checked.
-- Assumes nothing.
use mathlib.Core.Path.{◌≡◌, refl, sym, ap, ◌∙◌}
use mathlib.Core.List.{List}
use Prim.Native.Nat.{ℕ, ◌-◌}
use native.Mathlib.Omega.{arith}
use lib.ListN.{length, drop, length-drop}
use borrow.Author.Tests.{eq-eqb, ne_eqb}
use Rattle.tables.specs.declared.Table.{Table}
use Rattle.refusals.specs.First.{first}
use Rattle.refusals.proofs.First.{first_passes, unless_none, unless_some}
use Rattle.grammar.specs.Reading.{Reading, got, none, requirement_tree}
use Rattle.requirements.specs.Requirement.{Requirement, answer_of, requirement_of}
use Rattle.row_lines.specs.Reading.{Listing}
use Rattle.row_lines.proofs.Exact.{rows_exact}
use Rattle.heads.specs.declared.Head.{Head}
use Rattle.sheets.specs.Form.{SheetAnswer, Form}
use Rattle.sheets.specs.Sheets.{sheet_of}
use Rattle.sheets.proofs.Exact.{sheet_sound}
use Rattle.sheets.proofs.Behind.{rows_behind, rows_inside, places_long, requirement_stands}
use Rattle.sheet_rows.specs.Answer.{filled_of}
use Rattle.outcomes.specs.Outcome.{refused_by, text_refused_by}
use Rattle.answers.specs.Answers.{rows_part, measured, requirement_check, table_run, answered, table_answer, answer_for, head_in, listing_in, requirement_in, answer_to, all_answered, answers_of, Checked, Placed}

-- ---- the requirement

module _ (h : Head) (l : Listing) (r : List ℕ) where
  pub requirement_refused : ((requirement_of r).refusal ≡ 0 → ⊥) → refused_by 2 ≡ answer_for h l r
  unfolding answer_for first
  requirement_refused n = rw (ne_eqb (requirement_of r).refusal 0 n) refl

  -- and its number is 2
  pub requirement_two : (n : ℕ) → (requirement_of r).refusal ≡ n → (n ≡ 0 → ⊥) → n ≡ 2
  requirement_two n = two (requirement_tree r)
    where
      two : (x : Reading) → (answer_of x).refusal ≡ n → (n ≡ 0 → ⊥) → n ≡ 2
      two (got a m) e h = absurd (h (sym e))
      two none e h = sym e

  pub requirement_read : (requirement_of r).refusal ≡ 0 → table_answer h l (requirement_of r).table ≡ answer_for h l r
  unfolding answer_for
  requirement_read n =
      let t : Table = (requirement_of r).table in
      ap (λ (m : ℕ). answered m (measured h l) t h.step h.drift (filled_of l))
      (sym (first_passes (requirement_check r) (table_run (measured h l) t h.step h.drift) (eq-eqb (requirement_of r).refusal 0 n)))

  -- as the reader answered it
  pub table_read : (q : Requirement) → q ≡ requirement_of r → q.refusal ≡ 0 → table_answer h l q.table ≡ answer_for h l r
  table_read q e n = ap (λ (y : Requirement). table_answer h l y.table) e ∙ requirement_read (ap (λ (y : Requirement). y.refusal) (sym e) ∙ n)

-- ---- the sheet

pub answer_refused : (s : List ℕ) (k : ℕ) → ((sheet_of s).number ≡ 0 → ⊥) → refused_by (sheet_of s).number ≡ answer_to s k
unfolding answer_to
answer_refused s k h = sym (unless_some _ _ _ h)

pub answer_read : (s : List ℕ) (k : ℕ) → (sheet_of s).number ≡ 0 → answer_for (head_in s) (listing_in s) (requirement_in s k) ≡ answer_to s k
unfolding answer_to
answer_read s k h = sym (unless_none _ _ h)

module _ (s : List ℕ) where
  pub answers_refused : ((sheet_of s).number ≡ 0 → ⊥) → text_refused_by (sheet_of s).number ≡ answers_of s
  unfolding answers_of
  answers_refused h = sym (unless_some _ _ _ h)

  pub answers_read : (sheet_of s).number ≡ 0 → all_answered s (sheet_of s) ≡ answers_of s
  unfolding answers_of
  answers_read h = sym (unless_none _ _ h)

-- ---- its places and rows

checked : (s : List ℕ) (x : SheetAnswer) → Form s x → Checked (rows_part s x) x.head.setup.channels
checked s x f = record {
  short = let e : length (drop x.rows s) ≡ length s - x.rows = length-drop x.rows s in omega (arith, f.written.short);
  whole = λ w.
      let r = f.written.listed w in
      rw ((rows_exact x.head.setup.channels (rows_part s x) r.0 r.1).1 (rw (rows_behind s x f) r.2)) refl;
}

placed_by : (s : List ℕ) (x : SheetAnswer) → Form s x → Placed s x
placed_by s x f = record {
  few = omega (arith, f.count, f.few);
  long = places_long s x f;
  ordered = λ k l. (requirement_stands s x f k l).ordered;
  inside = λ k l. (requirement_stands s x f k l).inside;
  behind = rows_inside s x f;
  checked = checked s x f;
}

pub placed : (s : List ℕ) → (sheet_of s).number ≡ 0 → Placed s (sheet_of s)
placed s h = placed_by s (sheet_of s) (sheet_sound s h)
