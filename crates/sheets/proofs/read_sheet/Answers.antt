-- `sheets::read_sheet` meets its contract: the size, the head, the requirements' lines, then what follows them.
-- Assumes nothing.
use Rattle.std.proofs.Common.{◌≡◌, true, false, Some, None, length, refl, sym, ◌∙◌, arith}
use Rattle.std.proofs.lemmas.Grind.{common_steps}
use Rattle.std.specs.Prelude.{Err}
use borrow.Author.Tests.{lt-ltb, le-ltb}
use lib.Dec.{ltb}
use Rattle.refusals.specs.declared.Refusal.TheVariants.{Sheet}
use Rattle.row_lines.specs.Reading.{limit}
use Rattle.heads.specs.Reading.{head_of}
use Rattle.requirement_lines.specs.Reading.{requirements_at, stored}
use Rattle.sheets.specs.Sheets.{lines_kept}
use Rattle.sheets.proofs.Chain.{behind_none, lines_there, behind_refused, behind_read, refusal_broken, refusal_crowded, refusal_none, sheet_long, sheet_headless, sheet_behind}
use Rattle.sheets.proofs.Exact.{requirements_inside}
use Rattle.sheets.proofs.read_sheet.Goals as goal
use Rattle.sheets.proofs.read_sheet.Goals.{After-read_head, In_err-head, In_ok-head, In_err-found, In_ok-found, After-keeps_rows}

-- what the parts' readers gave
short : (c : After-read_head) → ltb limit (length c.args.s.now) ≡ false
short c = le-ltb _ _ c.if-s-gt-LIMIT.false

no_head : (c : In_err-head) → head_of c.args.s.now ≡ None
no_head c = grind (arith, common_steps)

head : (c : In_ok-head) → head_of c.args.s.now ≡ Some c.in_ok-head.head
head c = grind (arith, common_steps)

unended : (c : In_err-found) → stored (requirements_at c.args.s.now c.in_ok-head.head.next) ≡ None
unended c = grind (arith, common_steps)

found : (c : In_ok-found) → stored (requirements_at c.args.s.now c.in_ok-head.head.next) ≡ Some c.in_ok-found.found
found c = grind (arith, common_steps)

pub returns-then-s-gt-LIMIT : goal.returns-then-s-gt-LIMIT
returns-then-s-gt-LIMIT c = sheet_long _ (lt-ltb _ _ c.if-s-gt-LIMIT.true)

pub returns-in_err-head : goal.returns-in_err-head
returns-in_err-head c =
    let d = goal.at.returns-in_err-head c in
    let f : c.from_residual.result ≡ Err Sheet = grind (arith, common_steps) in
    rw f (sheet_headless _ (short d.After-read_head) (no_head d.In_err-head))

pub returns-in_err-found : goal.returns-in_err-found
returns-in_err-found c =
    let d = goal.at.returns-in_err-found c in
    let f : c.from_residual-in_err-found.result ≡ Err Sheet = grind (arith, common_steps) in
    rw f (sheet_behind _ (short d.After-read_head) _ (head d.In_ok-head) None (unended d.In_err-found) _ (behind_none _ _))

pub keeps_rows-requires : goal.keeps_rows-requires
keeps_rows-requires c = let d = goal.at.keeps_rows-requires c in requirements_inside _ _ (head d.In_ok-head) _ (found d.In_ok-found)

pub returns-then-count-lt1 : goal.returns-then-count-lt1
returns-then-count-lt1 c =
    let d = goal.at.returns-then-count-lt1 c in
    let k : lines_kept c.args.s.now c.in_ok-head.head.value c.in_ok-found.found ≡ false = grind (arith, common_steps) in
    sheet_behind _ (short d.After-read_head) _ (head d.In_ok-head) _ (found d.In_ok-found) _ (behind_refused _ _ _ 1 (refusal_broken _ c.in_ok-found.found.value.count k) (λ z. omega arith))

-- the lines are kept behind the test of them
kept : (c : After-keeps_rows) → c.keeps_rows.result ≡ true → lines_kept c.args.s.now c.in_ok-head.head.value c.in_ok-found.found ≡ true
kept c k = lines_there c.args.s.now c.in_ok-head.head.value c.in_ok-found.found c.if-count-lt1.false ∙ (sym c.keeps_rows.ensures ∙ k)

pub returns-then-count-gt-MOST : goal.returns-then-count-gt-MOST
returns-then-count-gt-MOST c =
    let d = goal.at.returns-then-count-gt-MOST c in
    let k = kept d.After-keeps_rows c.if-not-keeps_rows.false in
    sheet_behind _ (short d.After-read_head) _ (head d.In_ok-head) _ (found d.In_ok-found) _ (behind_refused _ _ _ 12 (refusal_crowded _ _ k c.if-count-gt-MOST.true) (λ z. omega arith))

pub returns : goal.returns
returns c =
    let d = goal.at.returns c in
    let k = kept d.After-keeps_rows c.if-not-keeps_rows.false in
    sheet_behind _ (short d.After-read_head) _ (head d.In_ok-head) _ (found d.In_ok-found) _ (behind_read _ _ _ 0 (refusal_none _ _ k c.if-count-gt-MOST.false) refl)
