-- The lines that the program prints for the outcomes of a sheet's requirements.
-- Assumes nothing.
use Rattle.std.specs.Prelude.{List, [], ◌∷◌, ◌++◌, ℕ, zero, suc, ℤ}
use Prim.Native.String.{String}
use Rattle.recordings.specs.declared.Verdict.{Verdict}
use Rattle.recordings.specs.declared.Verdict.TheVariants.{Holds, Fails, NotShown}
use Rattle.text.specs.Bytes.{bytes}
use Rattle.printing.specs.Decimal.{decimal, decimal_signed}
use Rattle.refusals.specs.First.{unless_refused}
use Rattle.outcomes.specs.declared.Outcome.{Outcome}
use Rattle.outcomes.specs.Outcome.{TextOutcome}
use Rattle.outcomes.specs.Order.{entry}
use Rattle.outcomes.specs.Arrangement.{arrangement}

abbrev pub word_of : Verdict → List ℕ
word_of Holds = bytes "holds"
word_of Fails = bytes "fails"
word_of NotShown = bytes "unshown"

-- a key and what it says
abbrev pub field : String → List ℕ → List ℕ
field key value = bytes key ++ value

-- measured rows, filled rows, plain margin, the two strengthened ones, the verdict
abbrev pub figures_line : ℕ → ℕ → ℤ → ℤ → ℤ → Verdict → List ℕ
figures_line rows filled margin hold fail verdict =
    field "rows=" (decimal rows)
    ++ field " filled=" (decimal filled)
    ++ field " margin=" (decimal_signed margin)
    ++ field " hold=" (decimal_signed hold)
    ++ field " fail=" (decimal_signed fail)
    ++ field " verdict=" (word_of verdict)
    ++ bytes "\n"

-- a refusal prints only `refused=` and its number
abbrev pub refusal_line : ℕ → List ℕ
refusal_line number = field "refused=" (decimal number) ++ bytes "\n"

abbrev pub line_by : ℕ → Outcome → List ℕ
line_by zero a = figures_line a.rows a.filled a.margin a.hold a.fail a.verdict
line_by (suc n) a = refusal_line (suc n)

unfoldable pub line_of : Outcome → List ℕ
line_of a = line_by a.number a

-- `req=K` and a space stand before a line, where a sheet has several requirements
abbrev pub numbered_line : ℕ → Outcome → List ℕ
numbered_line k x = field "req=" (decimal k) ++ bytes " " ++ line_of x

-- the lines of outcomes in an order
unfoldable pub lines_in : List Outcome → List ℕ → List ℕ
lines_in xs [] = []
lines_in xs (k ∷ ks) = numbered_line k (entry xs k) ++ lines_in xs ks

-- one requirement keeps the form without a number
unfoldable pub entry_lines : List Outcome → List ℕ
entry_lines [] = []
entry_lines (x ∷ []) = line_of x
entry_lines (x ∷ y ∷ xs) = lines_in (x ∷ y ∷ xs) (arrangement (x ∷ y ∷ xs))

-- all that is printed: a refusal of the whole text is one bare line
unfoldable pub lines_of : TextOutcome → List ℕ
lines_of a = unless_refused a.number (entry_lines a.entries) (refusal_line a.number)

-- no line is longer: the longest that 64-bit numbers give has 153 bytes
abbrev pub LINE : ℕ
LINE = 160

-- and with its number none is longer than this
abbrev pub NUMBERED : ℕ
NUMBERED = 168

-- all lines together are not longer
abbrev pub LINES : ℕ
LINES = 2_688
