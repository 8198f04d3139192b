-- Predicates out of number order break the form: in a text that is written as a sheet, the lines before the first `req=` are a head's, whose predicates' lines stand by rising number.
-- Assumes nothing.
use mathlib.Core.Path.{◌≡◌}
use mathlib.Core.List.{List}
use Prim.Native.Nat.{ℕ}
use Rattle.predicate_lines.specs.Rising.{Rising}
use Rattle.heads.specs.Order.{predicates_among}
use Rattle.heads.proofs.Order.{head_rising}
use Rattle.sheets.specs.Form.{blank}
use Rattle.sheets.specs.Sheets.{sheet_of}
use Rattle.sheets.specs.Only.{head_lines_of}
use Rattle.sheets.proofs.Exact.{sheet_refused}
use Rattle.sheets.proofs.Only.{heads_are}

-- a text whose `p=` lines before the first `req=` do not stand by rising number gives 1 and the blank sheet
pub unordered_refused : (s : List ℕ) → (Rising (predicates_among (head_lines_of s)) → ⊥) → sheet_of s ≡ blank 1
unordered_refused s h = (sheet_refused s).1 (λ p. h (rw (heads_are p.3) (head_rising p.3.begins)))
