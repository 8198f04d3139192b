-- The margin's answer: the recording's margin, or the number of the first refusal that applies; and what the cells hold afterwards.
-- Assumes nothing.
use Rattle.std.specs.Prelude.{List, [], ◌∷◌, ◌++◌, ℕ, ◌*◌, ◌≤◌, leb, ℤ, pos, length, Result, Ok, Err}
use Rattle.lists.specs.Fill.{fill_rows}
use Rattle.recordings.specs.Card.{Card, rows}
use Rattle.recordings.specs.Margin.{margin}
use Rattle.tables.specs.declared.Table.{Table}
use Rattle.tables.specs.Tree.{tree, root}
use Rattle.refusals.specs.declared.Refusal.{Refusal}
use Rattle.refusals.specs.First.{Check, first, unless_refused}
use Rattle.refusals.specs.Number.{number}
use Rattle.rules.specs.Refusals.{checks}

-- what document 01 hands back: a number, 0 for no refusal, and a margin, 0 under a refusal
pub record MarginOutcome : Type 0 where
  pub number : ℕ
  pub margin : ℤ

-- the paper's number and margin of each answer
abbrev pub margin_outcome : Result ℤ Refusal → MarginOutcome
margin_outcome (Ok m) = record { number = 0; margin = m }
margin_outcome (Err r) = record { number = number r; margin = pos 0 }

-- 8: work shorter than n × rows cells
abbrev pub margin_room : Card → Table → ℕ → Check
margin_room c t cells = record { number = 8; sentence = t.count * rows c ≤ cells; passes = leb (t.count * rows c) cells }

-- refusals 3 to 8, in the order in which they count
abbrev pub margin_checks : Card → Table → ℕ → List Check
margin_checks c t cells = checks c t ++ (margin_room c t cells ∷ [])

abbrev pub margin_refusal : Card → Table → ℕ → ℕ
margin_refusal c t cells = first (margin_checks c t cells)

-- the recording's margin is the root's at sample 0
unfoldable pub margin_judged : Card → Table → ℕ → MarginOutcome
margin_judged c t cells = record { number = margin_refusal c t cells; margin = unless_refused (margin_refusal c t cells) (margin c (root t) 0) (pos 0) }

-- node k owns the cells from k × rows on: cell k × rows + i ends as its margin at i, later cells keep their contents; under a refusal all do
unfoldable pub margin_cells : Card → Table → List ℤ → List ℤ
margin_cells c t w = unless_refused (margin_refusal c t (length w)) (fill_rows (rows c) (λ k. margin c (tree t.nodes k)) t.count w) w
