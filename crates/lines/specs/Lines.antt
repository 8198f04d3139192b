-- The lines of a text, and the text of lines.
-- Assumes nothing.
use Rattle.std.specs.Prelude.{ℕ, ◌+◌, Bool, true, false, List, [], ◌∷◌, ◌++◌, length, eqb}

-- a text cut after each line feed; what follows the last one is a line too, which lacks its line feed
abbrev pub cut : ℕ → Bool → List (List ℕ) → List (List ℕ)
cut b true ls = (b ∷ []) ∷ ls
cut b false [] = (b ∷ []) ∷ []
cut b false (l ∷ ls) = (b ∷ l) ∷ ls

unfoldable pub lines : List ℕ → List (List ℕ)
lines [] = []
lines (b ∷ s) = cut b (eqb b 10) (lines s)

-- how many bytes lines have together
unfoldable pub size : List (List ℕ) → ℕ
size [] = 0
size (l ∷ ls) = length l + size ls

-- the text of lines one after the other
unfoldable pub joined : List (List ℕ) → List ℕ
joined [] = []
joined (l ∷ ls) = l ++ joined ls
