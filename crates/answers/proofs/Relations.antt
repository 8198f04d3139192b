-- The answers in the paper's relations. Where a text is written as a sheet, its lines behind the requirements are rows and a requirement says a tree, the answer is that of the recording
-- of these samples against the table of this tree; so nobody need believe a definition that reads line by line.
-- Assumes nothing.
use mathlib.Core.Path.{◌≡◌, refl, sym, ap, subst, ◌∙◌}
use mathlib.Core.Bool.{Bool, true, false}
use mathlib.Core.List.{List, []}
use Prim.Native.Nat.{ℕ, ◌≤◌, ◌<◌}
use native.Mathlib.Omega.{arith}
use lib.ListN.{length, get_or}
use borrow.Author.Tests.{le-leb}
use Rattle.recordings.specs.declared.Verdict.TheVariants.{Holds, Fails}
use Rattle.recordings.specs.Card.{Card, card}
use Rattle.recordings.specs.Shown.{Shown}
use Rattle.tables.specs.declared.Table.{Table}
use Rattle.tables.specs.Tree.{root}
use Rattle.refusals.specs.First.{first}
use Rattle.grammar.specs.Tree.{Tree}
use Rattle.grammar.specs.Grammar.{Requires}
use Rattle.building.specs.Nodes.{table_of}
use Rattle.building.specs.Says.{says}
use Rattle.requirements.specs.Requirement.{Requirement, requirement_of, accepted}
use Rattle.requirements.proofs.Answers.{answer_complete}
use Rattle.requirements.proofs.Says.{root_says}
use Rattle.lines.specs.Lines.{joined}
use Rattle.row_lines.specs.Form.{Sample, Rows}
use Rattle.row_lines.specs.Reading.{channels_in_range, Listing, listed, rows_of}
use Rattle.row_lines.proofs.Exact.{rows_exact}
use Rattle.sheet_rows.specs.Answer.{times_in, values_in}
use Rattle.heads.specs.declared.Head.{Head}
use Rattle.requirement_lines.specs.Form.{MOST_REQUIREMENTS}
use Rattle.sheets.specs.Form.{SheetAnswer, Written}
use Rattle.sheets.specs.Sheets.{sheet_of}
use Rattle.sheets.proofs.Exact.{contents, written_read, rows_text, joined_rows, sheet_sound}
use Rattle.sheets.proofs.Behind.{requirement_stands}
use Rattle.outcomes.specs.declared.Outcome.{Outcome}
use Rattle.answers.specs.Answers.{measured, listing, requirement_part, table_run, figures, answered, table_answer, answer_for, head_in, listing_in, requirement_in, answer_to, answers_in}
use Rattle.answers.proofs.Figures.{answered_number}
use Rattle.answers.proofs.Wholes.{requirement_read}
use Rattle.answers.proofs.Parts.{requirement_text, answer_written}
use Rattle.answers.proofs.Promises.{count_read, answers_count, number_none, holds, fails}

module _ {s : List ℕ} {h : Head} {rs rows : List (List ℕ)} (w : Written s h rs rows) (few : length rs ≤ MOST_REQUIREMENTS) (k : ℕ) (l : k < length rs)
    (samples : List Sample) (filled : ℕ) (r : Rows h.setup.channels rows samples filled) (a : Tree) (q : Requires (get_or rs k []) a) where
  -- the recording of the measured rows
  abbrev pub recording : Card
  recording = card h.setup (times_in samples) (values_in samples)

  listing_is : rows_of h.setup.channels (joined rows) ≡ listed samples filled
  listing_is = (rows_exact h.setup.channels (joined rows) samples filled).1 (rw (joined_rows w) r)

  requirement_is : requirement_of (get_or rs k []) ≡ accepted a
  requirement_is = answer_complete (get_or rs k []) a q

  -- the answer, refusals included: 1, 12 and 2 do not apply
  pub answer_is : answer_to s k ≡ answered (first (table_run recording (table_of a) h.step h.drift)) recording (table_of a) h.step h.drift filled
  answer_is =
      answer_written w few k l
      ∙ (ap (λ (x : Listing). answer_for h x (get_or rs k [])) listing_is
      ∙ (sym (requirement_read h (listed samples filled) (get_or rs k []) (ap (λ (y : Requirement). y.refusal) requirement_is))
      ∙ ap (λ (y : Requirement). table_answer h (listed samples filled) y.table) requirement_is))

  -- number 0: the figures of this recording and this table
  pub figures_said : (answer_to s k).number ≡ 0 → answer_to s k ≡ figures recording (table_of a) h.step h.drift filled
  figures_said e =
      let n : first (table_run recording (table_of a) h.step h.drift) ≡ 0 = sym (ap (λ (o : Outcome). o.number) answer_is ∙ answered_number _ recording (table_of a) h.step h.drift filled) ∙ e in
      answer_is ∙ ap (λ (m : ℕ). answered m recording (table_of a) h.step h.drift filled) n

  -- demand 3 of them
  abbrev ShownOf : Bool → Head → Listing → Table → Type 0
  ShownOf b y x t = Shown (measured y x) y.step y.drift b (root t)

  moved : (b : Bool) → ShownOf b (head_in s) (listing_in s) (requirement_of (requirement_in s k)).table → ShownOf b h (listed samples filled) (table_of a)
  moved b f =
      subst (λ (y : Requirement). ShownOf b h (listed samples filled) y.table) requirement_is
      (subst (λ (y : List ℕ). ShownOf b h (listed samples filled) (requirement_of y).table) (requirement_text w few k l)
      (subst (λ (x : Listing). ShownOf b h x (requirement_of (requirement_part s (contents w) k)).table) listing_is
      (subst (λ (t : List ℕ). ShownOf b h (rows_of h.setup.channels t) (requirement_of (requirement_part s (contents w) k)).table) (rows_text w)
      (subst (λ (y : SheetAnswer). ShownOf b y.head (listing s y) (requirement_of (requirement_part s y k)).table) (written_read w few) f))))

  -- of the requirement that the tree says
  pub holds_said : (answer_to s k).number ≡ 0 → (answer_to s k).verdict ≡ Holds → Shown recording h.step h.drift true (says a)
  holds_said e v = rw (root_says (get_or rs k []) a q) at (moved true (holds s k e v))

  pub fails_said : (answer_to s k).number ≡ 0 → (answer_to s k).verdict ≡ Fails → Shown recording h.step h.drift false (says a)
  fails_said e v = rw (root_says (get_or rs k []) a q) at (moved false (fails s k e v))

-- and every answer with number 0 stands in these relations
pub related : (s : List ℕ) (k : ℕ) → k < length (answers_in s) → (answer_to s k).number ≡ 0
    → (h : Head) × (rs : List (List ℕ)) × (rows : List (List ℕ)) × Written s h rs rows × (length rs ≤ MOST_REQUIREMENTS) × (k < length rs)
    × (samples : List Sample) × (filled : ℕ) × Rows h.setup.channels rows samples filled × (a : Tree) × Requires (get_or rs k []) a
related s k l e =
    let p = number_none s k e in
    let q = p.each 2 (omega arith) in
    let c = p.each 4 (omega arith) in
    let z = count_read s k l in
    let f = sheet_sound s z in
    let m : k < (sheet_of s).count = omega (arith, answers_count s z) in
    let n : channels_in_range (head_in s).setup.channels ≡ true = rw (le-leb 1 (head_in s).setup.channels c.some_channel, le-leb (head_in s).setup.channels 8 c.few_channels) refl in
    let r = f.written.listed n in
    let g : requirement_in s k ≡ get_or f.requirements k [] = (requirement_stands s (sheet_of s) f k m).bytes in
    (head_in s, f.requirements, f.rows, f.written, f.few, omega (arith, f.count), r.0, r.1, r.2, q.0, subst (λ (b : List ℕ). Requires b q.0) g q.1)
