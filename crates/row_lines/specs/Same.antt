-- Texts that have the same lines except that where one has a well-written filled row the other has a well-written filled row: its time, its values and their digits are free.
-- Assumes nothing.
use Rattle.std.specs.Prelude.{ℕ, false, List, [], ◌∷◌, ℤ}
use Rattle.lines.specs.Lines.{lines}
use Rattle.row_lines.specs.Form.{Row}

pub data Alike : List (List ℕ) → List (List ℕ) → Type 0 where
  no_line : Alike [] []
  same : {l : List ℕ} {ls ms : List (List ℕ)} → Alike ls ms → Alike (l ∷ ls) (l ∷ ms)
  filled : {l m : List ℕ} {ls ms : List (List ℕ)} {channels t u : ℕ} {vs us : List ℤ}
      → Row channels l false t vs → Row channels m false u us → Alike ls ms → Alike (l ∷ ls) (m ∷ ms)

abbrev pub SameButFilled : List ℕ → List ℕ → Type 0
SameButFilled a b = Alike (lines a) (lines b)
