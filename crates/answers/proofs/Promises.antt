-- What the answers to a whole text promise, in the customer's words: for every requirement the order of refusals over the whole run and demand 3 from text to verdict, what the
-- requirement alone would get, and that filled rows reach nothing.
-- Assumes nothing.
use mathlib.Core.Path.{◌≡◌, refl, sym, ap, subst, ◌∙◌}
use mathlib.Core.Bool.{true, false, not}
use mathlib.Core.Logic.{◌⊎◌, inl, inr, ⊎_elim}
use mathlib.Core.List.{List, [], ◌∷◌, ◌++◌}
use Prim.Native.Nat.{ℕ, ◌≤◌, ◌<◌}
use native.Mathlib.Omega.{arith}
use lib.Dec.{leb→le, le→leb, eqb, eqb→eq}
use lib.ListN.{length, get_or}
use borrow.Author.Tests.{eq-eqb, ne_eqb}
use Rattle.numbers.proofs.Parts.{holds as yes}
use Rattle.lists.specs.Each.{each_below}
use Rattle.lists.proofs.Each.{length_each, each_at, each_same}
use Rattle.recordings.specs.declared.Verdict.TheVariants.{Holds, Fails}
use Rattle.recordings.specs.Card.{Card, rows}
use Rattle.recordings.specs.Shown.{Shown}
use Rattle.tables.specs.declared.Table.{Table}
use Rattle.tables.specs.Tree.{root}
use Rattle.refusals.specs.First.{Check, first, Exact, AllExact, Refused, Passed}
use Rattle.rules.specs.Refusals.{table_checks, sample_checks}
use Rattle.refusals.proofs.First.{first_passes, first_fails, passed, none_fails, refused, first_is, first_append, first_of_whole, exact_append, exact_parts, unless_none}
use Rattle.sampling.specs.Sampling.{checks as sampling_checks}
use Rattle.verdicts.specs.Answer.{verdict_room, verdict_refusal, verdict_judged}
use Rattle.verdicts.proofs.Promises.{exact_checks, verdict_is, holds as verdict_holds, fails as verdict_fails}
use Rattle.requirements.specs.Requirement.{Requirement, requirement_of}
use Rattle.requirements.proofs.Answers.{answer_sound, answer_complete}
use Rattle.lines.specs.Lines.{joined}
use Rattle.row_lines.specs.Reading.{limit, Listing}
use Rattle.sheet_rows.specs.Answer.{filled_of}
use Rattle.row_lines.specs.Same.{SameButFilled}
use Rattle.row_lines.proofs.Exact.{rows_alike}
use Rattle.heads.specs.declared.Head.{Head}
use Rattle.sheets.specs.Form.{SheetAnswer, blank}
use Rattle.sheets.specs.Only.{only}
use Rattle.sheets.specs.Sheets.{sheet_of}
use Rattle.sheets.proofs.Exact.{contents, written_read, written_or_blank, joined_rows, sheet_cases, sheet_sound, sheet_refused, sheet_crowded, alike_written, sheet_alike}
use Rattle.sheets.proofs.Only.{only_written}
use Rattle.outcomes.specs.declared.Outcome.{Outcome}
use Rattle.outcomes.specs.Outcome.{TextOutcome, refused_by, text_refused_by}
use Rattle.outcomes.specs.Order.{past_end, entry}
use Rattle.outcome_lines.specs.Printed.{lines_of}
use Rattle.answers.specs.Answers.{ROWS, CELLS, measured, sheet_check, crowd_check, requirement_check, rows_check, table_run, requirement_run, figures, answer_for, head_in, listing_in, requirement_in, whole_run, answer_to, entries, answers_of, answers_in}
use Rattle.answers.proofs.Figures.{only_number, answered_number}
use Rattle.answers.proofs.Wholes.{answer_refused, answer_read, answers_refused, answers_read}
use Rattle.answers.proofs.Parts.{answer_written, answer_only}

-- ---- every entry is the answer that its requirement gets

-- a blank sheet's number is no 0
blank_number : {x : SheetAnswer} (n : ℕ) → x ≡ blank n → 0 < n → x.number ≡ 0 → ⊥
blank_number n e p z = let f : n ≡ 0 = ap (λ (y : SheetAnswer). y.number) (sym e) ∙ z in omega arith

-- a text is read, or gives no sheet
sheet_either : (s : List ℕ) → ((sheet_of s).number ≡ 0) ⊎ ((sheet_of s).number ≡ 0 → ⊥)
sheet_either s = ⊎_elim (λ f. inl f.number) (λ b. inr (⊎_elim (λ e. blank_number 1 e (omega arith)) (λ e. blank_number 12 e (omega arith)) b)) (sheet_cases s)

pub answers_number : (s : List ℕ) → (answers_of s).number ≡ (sheet_of s).number
answers_number s = ⊎_elim
    (λ e. ap (λ (a : TextOutcome). a.number) (sym (answers_read s e)) ∙ sym e)
    (λ n. ap (λ (a : TextOutcome). a.number) (sym (answers_refused s n)))
    (sheet_either s)

-- as many as the sheet has requirements
pub answers_count : (s : List ℕ) → (sheet_of s).number ≡ 0 → length (answers_in s) ≡ (sheet_of s).count
answers_count s e =
    ap (λ (a : TextOutcome). length a.entries) (sym (answers_read s e)) ∙ length_each (λ k. answer_for (head_in s) (listing_in s) (requirement_in s k)) (sheet_of s).count

-- where there is an answer the sheet was read
pub count_read : (s : List ℕ) (k : ℕ) → k < length (answers_in s) → (sheet_of s).number ≡ 0
count_read s k l = ⊎_elim
    (λ e. e)
    (λ n. let z : length (answers_in s) ≡ 0 = ap (λ (a : TextOutcome). length a.entries) (sym (answers_refused s n)) in absurd (omega arith))
    (sheet_either s)

pub entry_is : (s : List ℕ) (k : ℕ) → k < length (answers_in s) → entry (answers_in s) k ≡ answer_to s k
entry_is s k l =
    let e = count_read s k l in
    let c = answers_count s e in
    ap (λ (a : TextOutcome). entry a.entries k) (sym (answers_read s e))
    ∙ (each_at (λ i. answer_for (head_in s) (listing_in s) (requirement_in s i)) (sheet_of s).count k past_end (omega arith)
    ∙ answer_read s k e)

-- ---- the order of refusals

for_number : (h : Head) (l : Listing) (r : List ℕ) → (answer_for h l r).number ≡ first (requirement_run h l r)
unfolding answer_for
for_number h l r = answered_number (first (requirement_run h l r)) (measured h l) (requirement_of r).table h.step h.drift (filled_of l)

-- the tests of 1 and 12, by the sheet's number
module _ (s : List ℕ) (m : ℕ) where
  other_passes : (n : ℕ) → (sheet_of s).number ≡ n → (n ≡ m → ⊥) → not (eqb (sheet_of s).number m) ≡ true
  other_passes n e h = rw (ne_eqb (sheet_of s).number m (λ z. h (sym e ∙ z))) refl

  same_fails : (sheet_of s).number ≡ m → not (eqb (sheet_of s).number m) ≡ false
  same_fails e = rw (eq-eqb (sheet_of s).number m e) refl

  blank_is : sheet_of s ≡ blank m → (sheet_of s).number ≡ m
  blank_is e = ap (λ (y : SheetAnswer). y.number) e

module _ (s : List ℕ) (k : ℕ) where
  abbrev run : List Check
  run = requirement_run (head_in s) (listing_in s) (requirement_in s k)

  -- behind a sheet that is read, the requirement's list decides
  run_number : (sheet_of s).number ≡ 0 → (answer_to s k).number ≡ first run
  run_number e = ap (λ (o : Outcome). o.number) (sym (answer_read s k e)) ∙ for_number (head_in s) (listing_in s) (requirement_in s k)

  blank_run : (n : ℕ) → (sheet_of s).number ≡ n → 0 < n → (answer_to s k).number ≡ n
  blank_run n e p = ap (λ (o : Outcome). o.number) (sym (answer_refused s k (λ z. let w : n ≡ 0 = sym e ∙ z in omega arith))) ∙ e

  -- the number is the first of the list, over the whole run
  pub order : (answer_to s k).number ≡ first (whole_run s k)
  order = ⊎_elim
      (λ f. let e = f.number in
      run_number e
      ∙ sym (first_passes (sheet_check s) (crowd_check s ∷ run) (other_passes s 1 0 e (λ z. omega arith)) ∙ first_passes (crowd_check s) run (other_passes s 12 0 e (λ z. omega arith))))
      (λ b. ⊎_elim
      (λ x. let e = blank_is s 1 x in
      blank_run 1 e (omega arith) ∙ sym (first_fails (sheet_check s) (crowd_check s ∷ run) (same_fails s 1 e)))
      (λ x. let e = blank_is s 12 x in
      blank_run 12 e (omega arith)
      ∙ sym (first_passes (sheet_check s) (crowd_check s ∷ run) (other_passes s 1 12 e (λ z. omega arith)) ∙ first_fails (crowd_check s) run (same_fails s 12 e)))
      b)
      (sheet_cases s)

-- each test is its sentence
sheet_check_exact : (s : List ℕ) → Exact (sheet_check s)
sheet_check_exact s = record {
  sound = λ h. ⊎_elim (λ w. w) (λ e. absurd (rw (same_fails s 1 (blank_is s 1 e)) at h)) (written_or_blank s);
  complete = λ w. ⊎_elim
      (λ f. yes {b = not (eqb (sheet_of s).number 1)} (other_passes s 1 0 f.number (λ z. omega arith)))
      (λ b. ⊎_elim (λ e. absurd ((sheet_refused s).0 e w)) (λ e. yes {b = not (eqb (sheet_of s).number 1)} (other_passes s 1 12 (blank_is s 12 e) (λ z. omega arith))) b)
      (sheet_cases s);
}

crowd_check_exact : (s : List ℕ) → Exact (crowd_check s)
crowd_check_exact s = record {
  sound = λ h c. rw (same_fails s 12 (blank_is s 12 ((sheet_crowded s).1 c))) at h;
  complete = λ w. ⊎_elim
      (λ f. yes {b = not (eqb (sheet_of s).number 12)} (other_passes s 12 0 f.number (λ z. omega arith)))
      (λ b. ⊎_elim (λ e. yes {b = not (eqb (sheet_of s).number 12)} (other_passes s 12 1 (blank_is s 1 e) (λ z. omega arith))) (λ e. absurd (w ((sheet_crowded s).0 e))) b)
      (sheet_cases s);
}

requirement_check_exact : (r : List ℕ) → Exact (requirement_check r)
requirement_check_exact r = record {
  sound = λ h. let a = answer_sound r (eqb→eq (requirement_of r).refusal 0 h) in (a.0, a.1);
  complete = λ a. yes (eq-eqb (requirement_of r).refusal 0 (ap (λ (q : Requirement). q.refusal) (answer_complete r a.0 a.1)));
}

table_run_exact : (c : Card) (t : Table) (step drift : ℕ) → AllExact (table_run c t step drift)
table_run_exact c t step drift =
    let rest : List Check = sample_checks c ++ (verdict_room c t CELLS ∷ sampling_checks c step drift) in
    let p = exact_parts (table_checks c t) rest (exact_checks c t step drift CELLS) in
    exact_append (table_checks c t) (rows_check c ∷ rest) p.0 (λ q. (record { sound = leb→le (rows c) ROWS; complete = le→leb (rows c) ROWS }, λ _. p.1 q))

pub exact : (s : List ℕ) (k : ℕ) → AllExact (whole_run s k)
exact s k = (
  sheet_check_exact s,
  λ _. (crowd_check_exact s, λ _. (requirement_check_exact (requirement_in s k), λ _. table_run_exact (measured (head_in s) (listing_in s)) (requirement_of (requirement_in s k)).table (head_in s).step (head_in s).drift)),
)

module _ (s : List ℕ) (k : ℕ) where
  -- a number m is answered exactly when its condition applies and no earlier one does
  pub number_refused : ((answer_to s k).number ≡ 0 → ⊥) → Refused (whole_run s k) (answer_to s k).number
  number_refused h = subst (Refused (whole_run s k)) (sym (order s k)) (refused (whole_run s k) (exact s k) (λ e. h (order s k ∙ e)))

  pub refused_number : (m : ℕ) → Refused (whole_run s k) m → (answer_to s k).number ≡ m
  refused_number m r = order s k ∙ first_is (whole_run s k) (exact s k) r

  -- and 0 exactly when none applies
  pub number_none : (answer_to s k).number ≡ 0 → Passed (whole_run s k)
  number_none e = passed (whole_run s k) tt (exact s k) (sym (order s k) ∙ e)

  pub none_number : Passed (whole_run s k) → (answer_to s k).number ≡ 0
  none_number p = order s k ∙ none_fails (whole_run s k) (exact s k) p

  -- under a refusal nothing but its number is handed back, else the figures
  abbrev head : Head
  head = head_in s

  abbrev recording : Card
  recording = measured (head_in s) (listing_in s)

  abbrev table : Table
  table = (requirement_of (requirement_in s k)).table

  pub refused_alone : ((answer_to s k).number ≡ 0 → ⊥) → answer_to s k ≡ refused_by (answer_to s k).number
  unfolding answer_for
  refused_alone h = ⊎_elim
      (λ e. sym (answer_read s k e) ∙ (sym (only_number (first (run s k)) recording table head.step head.drift (filled_of (listing_in s)) (λ z. h (run_number s k e ∙ z))) ∙ ap refused_by (sym (run_number s k e))))
      (λ b. let r = answer_refused s k b in sym r ∙ ap (λ (o : Outcome). refused_by o.number) r)
      (sheet_either s)

  pub figures_are : (answer_to s k).number ≡ 0 → answer_to s k ≡ figures recording table head.step head.drift (filled_of (listing_in s))
  unfolding answer_for
  figures_are h = ⊎_elim
      (λ e. sym (answer_read s k e) ∙ unless_none _ _ (sym (run_number s k e) ∙ h))
      (λ b. absurd (b (ap (λ (o : Outcome). o.number) (answer_refused s k b) ∙ h)))
      (sheet_either s)

  -- ---- demand 3, from text to verdict

  -- number 0 of the whole run is number 0 of the verdict
  verdict_accepts : (answer_to s k).number ≡ 0 → (verdict_judged recording table head.step head.drift CELLS).number ≡ 0
  unfolding verdict_judged verdict_refusal
  verdict_accepts e =
      let rest : List Check = sample_checks recording ++ (verdict_room recording table CELLS ∷ sampling_checks recording head.step head.drift) in
      let a = first_of_whole (sheet_check s ∷ crowd_check s ∷ requirement_check (requirement_in s k) ∷ []) (table_checks recording table ++ (rows_check recording ∷ rest)) tt (sym (order s k) ∙ e) in
      let b = first_of_whole (table_checks recording table) (rows_check recording ∷ rest) tt a.1 in
      let c = first_of_whole (rows_check recording ∷ []) rest tt b.1 in
      first_append (table_checks recording table) rest tt b.0 ∙ c.1

  verdict_of_answer : (answer_to s k).number ≡ 0 → (answer_to s k).verdict ≡ (verdict_judged recording table head.step head.drift CELLS).verdict
  verdict_of_answer e = ap (λ (o : Outcome). o.verdict) (figures_are e) ∙ sym (verdict_is recording table head.step head.drift CELLS (verdict_accepts e))

  pub holds : (answer_to s k).number ≡ 0 → (answer_to s k).verdict ≡ Holds → Shown recording head.step head.drift true (root table)
  holds e v = verdict_holds recording table head.step head.drift CELLS (verdict_accepts e) (sym (verdict_of_answer e) ∙ v)

  pub fails : (answer_to s k).number ≡ 0 → (answer_to s k).verdict ≡ Fails → Shown recording head.step head.drift false (root table)
  fails e v = verdict_fails recording table head.step head.drift CELLS (verdict_accepts e) (sym (verdict_of_answer e) ∙ v)

-- ---- each answer is what its requirement alone would get

single : (xs : List Outcome) → length xs ≡ 1 → xs ≡ entry xs 0 ∷ []
single [] l = absurd (omega arith)
single (x ∷ []) l = refl
single (x ∷ y ∷ xs) l = absurd (omega arith)

-- the text that keeps requirement k alone has one answer, which is answer k of the whole text, refusal included
pub alone : (s : List ℕ) (k : ℕ) → k < length (answers_in s) → answers_in (only k s) ≡ entry (answers_in s) k ∷ []
alone s k l =
    let e = count_read s k l in
    let f = sheet_sound s e in
    let m : k < length f.requirements = omega (arith, answers_count s e, f.count) in
    let w = only_written f.written k m in
    let g : sheet_of (only k s) ≡ contents w = written_read w (omega arith) in
    let n : length (answers_in (only k s)) ≡ 1 = answers_count (only k s) (ap (λ (x : SheetAnswer). x.number) g) ∙ ap (λ (x : SheetAnswer). x.count) g in
    single (answers_in (only k s)) n
    ∙ ap (λ (o : Outcome). o ∷ []) (entry_is (only k s) 0 (omega arith) ∙ (sym (answer_only f.written f.few k m) ∙ sym (entry_is s k l)))

-- ---- two runs: texts within the size limit that differ in well-written filled rows alone

module _ (a b : List ℕ) (short-a : length a ≤ limit) (short-b : length b ≤ limit) (h : SameButFilled a b) where
  sheets_same : sheet_of a ≡ sheet_of b
  sheets_same = sheet_alike a b short-a short-b h

  entry_same : (e : (sheet_of a).number ≡ 0) (k : ℕ) → k < (sheet_of a).count → answer_to a k ≡ answer_to b k
  entry_same e k l =
      let f = sheet_sound a e in
      let v = alike_written a b h short-b f.written in
      let m : k < length f.requirements = omega (arith, f.count) in
      let x : SameButFilled (joined f.rows) (joined v.0) = rw (joined_rows f.written, joined_rows v.2) v.1 in
      answer_written f.written f.few k m
      ∙ (ap (λ (l : Listing). answer_for (head_in a) l (get_or f.requirements k [])) (rows_alike _ _ x (head_in a).setup.channels)
      ∙ sym (answer_written v.2 f.few k m))

  read_same : (sheet_of a).number ≡ 0 → answers_of a ≡ answers_of b
  read_same e =
      let z : (sheet_of b).number ≡ 0 = ap (λ (x : SheetAnswer). x.number) (sym sheets_same) ∙ e in
      let c : entries a (sheet_of a) ≡ each_below (λ k. answer_for (head_in b) (listing_in b) (requirement_in b k)) (sheet_of a).count =
      each_same _ _ (sheet_of a).count (λ k l. answer_read a k e ∙ (entry_same e k l ∙ sym (answer_read b k z))) in
      sym (answers_read a e)
      ∙ (ap (λ (x : List Outcome). record { number = 0; entries = x }) (c ∙ ap (λ (x : SheetAnswer). each_below (λ k. answer_for (head_in b) (listing_in b) (requirement_in b k)) x.count) sheets_same)
      ∙ answers_read b z)

  refused_same : ((sheet_of a).number ≡ 0 → ⊥) → answers_of a ≡ answers_of b
  refused_same n =
      let f : (sheet_of a).number ≡ (sheet_of b).number = ap (λ (x : SheetAnswer). x.number) sheets_same in
      sym (answers_refused a n) ∙ (ap text_refused_by f ∙ answers_refused b (λ z. n (f ∙ z)))

  -- get the same answers, and print the same bytes
  pub same_answers : answers_of a ≡ answers_of b
  same_answers = ⊎_elim read_same refused_same (sheet_either a)

  pub same_lines : lines_of (answers_of a) ≡ lines_of (answers_of b)
  same_lines = ap lines_of same_answers

-- ---- what was shown for a single verdict is shown for every entry of the list

module _ (s : List ℕ) (k : ℕ) (l : k < length (answers_in s)) where
  abbrev pub answer : Outcome
  answer = entry (answers_in s) k

  said : (P : Outcome → Type 0) → P (answer_to s k) → P answer
  said P h = subst P (sym (entry_is s k l)) h

  -- the order of refusals
  pub entry_refused : (answer.number ≡ 0 → ⊥) → Refused (whole_run s k) answer.number
  entry_refused = said (λ o. (o.number ≡ 0 → ⊥) → Refused (whole_run s k) o.number) (number_refused s k)

  pub refused_entry : (m : ℕ) → Refused (whole_run s k) m → answer.number ≡ m
  refused_entry = said (λ o. (m : ℕ) → Refused (whole_run s k) m → o.number ≡ m) (refused_number s k)

  pub entry_none : answer.number ≡ 0 → Passed (whole_run s k)
  entry_none = said (λ o. o.number ≡ 0 → Passed (whole_run s k)) (number_none s k)

  pub none_entry : Passed (whole_run s k) → answer.number ≡ 0
  none_entry = said (λ o. Passed (whole_run s k) → o.number ≡ 0) (none_number s k)

  -- the figures, and under a refusal nothing but its number
  pub entry_figures : answer.number ≡ 0 → answer ≡ figures (recording s k) (table s k) (head_in s).step (head_in s).drift (filled_of (listing_in s))
  entry_figures = said (λ o. o.number ≡ 0 → o ≡ figures (recording s k) (table s k) (head_in s).step (head_in s).drift (filled_of (listing_in s))) (figures_are s k)

  pub entry_alone : (answer.number ≡ 0 → ⊥) → answer ≡ refused_by answer.number
  entry_alone = said (λ o. (o.number ≡ 0 → ⊥) → o ≡ refused_by o.number) (refused_alone s k)

  -- demand 3
  pub entry_holds : answer.number ≡ 0 → answer.verdict ≡ Holds → Shown (recording s k) (head_in s).step (head_in s).drift true (root (table s k))
  entry_holds = said (λ o. o.number ≡ 0 → o.verdict ≡ Holds → Shown (recording s k) (head_in s).step (head_in s).drift true (root (table s k))) (holds s k)

  pub entry_fails : answer.number ≡ 0 → answer.verdict ≡ Fails → Shown (recording s k) (head_in s).step (head_in s).drift false (root (table s k))
  entry_fails = said (λ o. o.number ≡ 0 → o.verdict ≡ Fails → Shown (recording s k) (head_in s).step (head_in s).drift false (root (table s k))) (fails s k)
