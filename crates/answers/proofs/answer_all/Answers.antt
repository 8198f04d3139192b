-- The rows are read once, and each turn of the loop puts one answer more behind the others.
-- Assumes nothing.
use Rattle.std.proofs.Common.{◌≡◌, refl, sym, ap, ◌∙◌, ℕ, ◌<◌, List, [], ◌∷◌, ◌++◌, length, map, take, add-one, Result, Ok, Err, length-append, ◌+◌, arith, rules}
use Rattle.std.proofs.lemmas.List.{length-map, map-append}
use lib.Seq.{take_all}
use Rattle.text.proofs.Places.{whole_behind}
use Rattle.lists.specs.Each.{each_below}
use Rattle.lists.proofs.Each.{length_each}
use Rattle.refusals.specs.declared.Refusal.{Refusal}
use Rattle.refusals.specs.Number.{number_of}
use Rattle.row_lines.specs.declared.Counts.{Counts}
use Rattle.sheet_rows.specs.Answer.{outcome as rows_outcome}
use Rattle.sheets.specs.Form.{SheetAnswer, outcome as sheet_outcome}
use Rattle.outcomes.specs.Outcome.{outcome_of}
use Rattle.answers.specs.Answers.{ROWS, VALUES}
use Rattle.answers.proofs.Rows.{stored}
use Rattle.answers.proofs.answer_all.Goals as goal
use Rattle.answers.proofs.answer_all.Goals.{Start}

-- the sheet as the definitions have it
abbrev sheet_in : Start → SheetAnswer
sheet_in c = sheet_outcome (Ok c.args.sheet)

-- what is handed on goes by the same number
numbered : (r : Result Counts Refusal) → number_of r ≡ (rows_outcome r).number
numbered (Ok n) = refl
numbered (Err e) = refl

-- one answer more
one_more : {X Y : Type 0} (f : X → Y) (xs ys : List X) (x : X) (g : ℕ → Y) (k : ℕ) → ys ≡ take 16 (xs ++ x ∷ []) → k < 16 → map f xs ≡ each_below g k → f x ≡ g k → map f ys ≡ each_below g (k + 1)
one_more f xs ys x g k e h m n =
    let l : length xs ≡ k = sym (length-map xs f) ∙ ap length m ∙ length_each g k in
    let w : ys ≡ xs ++ x ∷ [] = e ∙ take_all 16 (xs ++ x ∷ []) (omega (arith, length-append xs (x ∷ []), l)) in
    rw (add-one, w, map-append, m, n) refl

pub slice_bounds-read_rows-count : goal.slice_bounds-read_rows-count
slice_bounds-read_rows-count c = let p = c.requires in omega (arith, p.behind)

pub slice_bounds-read_rows-start : goal.slice_bounds-read_rows-start
slice_bounds-read_rows-start c = let p = c.requires in omega (arith, p.behind)

pub loop-k-init : goal.loop-k-init
loop-k-init c =
    let r = c.read_rows-read in
    let x = sheet_in (goal.at.loop-k-init c).Start in
    let m : length r.new.times ≡ ROWS = search rules in
    let n : length r.new.values ≡ VALUES = search rules in
    record {
      placed = c.requires;
      stored = stored c.args.text.now x c.requires.checked _ (whole_behind c.args.text.now x.rows) _ r.ensures.answer _ _ (rw (numbered r.result) at r.ensures.times) m _ _ (rw (numbered r.result) at r.ensures.values) n;
      answered = ap (map outcome_of) c.new-all.ensures;
    }

pub loop-k-preserved : goal.loop-k-preserved
loop-k-preserved c =
    let i = c.loop-k.invariant in
    let few = i.placed.few in
    record {
      placed = i.placed;
      stored = i.stored;
      answered = one_more outcome_of _ _ _ _ c.loop-k.k c.push.ensures (omega (arith, few)) i.answered c.answer_for.ensures;
    }
