-- What is handed back for a requirement text: the paper's number and the table.
use Rattle.std.specs.Prelude.{◌≡◌, ℕ, List, Result, Ok, Err, IfOk}
use Rattle.refusals.specs.declared.Refusal.{Refusal}
use Rattle.refusals.specs.Number.{number, number_of}
use Rattle.tables.specs.declared.Table.{Table}
use Rattle.grammar.specs.Tree.{Tree}
use Rattle.grammar.specs.Reading.{Reading, got, none, requirement_tree}
use Rattle.building.specs.Nodes.{empty_table, table_of}
use Rattle.building.specs.Storing.{cells_of}

pub record Requirement : Type 0 where
  pub refusal : ℕ
  pub table : Table

-- what a reader hands back: number 0 and its table, or the refusal's number and the empty table
abbrev pub outcome : Result Table Refusal → Requirement
outcome (Ok t) = record { refusal = 0; table = t }
outcome (Err r) = record { refusal = number r; table = empty_table }

-- no refusal, and the table of what the grammar reads
abbrev pub accepted : Tree → Requirement
accepted a = record { refusal = 0; table = table_of a }

-- refusal 2, and the empty table
abbrev pub refused : Requirement
refused = record { refusal = 2; table = empty_table }

abbrev pub answer_of : Reading → Requirement
answer_of (got a n) = accepted a
answer_of none = refused

-- the answer to a text
abbrev pub requirement_of : List ℕ → Requirement
requirement_of s = answer_of (requirement_tree s)

-- ---- the same without the table: how many nodes it has, and their numbers in cells

pub record Numbered (q : Requirement) (r : Result ℕ Refusal) (cells : List ℕ) : Type 0 where
  pub refusal : number_of r ≡ q.refusal
  pub count : IfOk r (λ n. n ≡ q.table.count)
  pub numbers : IfOk r (λ n. cells ≡ cells_of q.table.nodes)
