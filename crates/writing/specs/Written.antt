-- What is handed back for a table that is to be written: the number, the length of the text, and the slice with the text in front.
-- Assumes nothing.
use Rattle.std.specs.Prelude.{ℕ, ◌≤◌, ◌&&◌, List, [], ◌∷◌, leb, length, Result, Ok, Err}
use Rattle.lists.specs.Front.{in_front}
use Rattle.refusals.specs.declared.Refusal.{Refusal}
use Rattle.refusals.specs.First.{Check, first, unless_refused}
use Rattle.refusals.specs.Number.{number}
use Rattle.tables.specs.declared.Table.{Table}
use Rattle.tables.specs.Tree.{NODES}
use Rattle.tables.specs.Rules.{TableRules, table_obeys}
use Rattle.grammar.specs.Grammar.{ENCLOSINGS, Requires}
use Rattle.grammar.specs.Tree.{size}
use Rattle.building.specs.Unshared.{tree_of}
use Rattle.spelling.specs.Text.{text_of}
use Rattle.spelling.specs.Enclosings.{enclosings}
use Rattle.writing.specs.declared.Written.{Written}

-- the text of a table: that of its root's tree, so a shared node is written once for each use
abbrev pub table_text : Table → List ℕ
table_text t = text_of (tree_of t)

-- the refusals, in the order in which they count. 3: a table rule broken, by any node
abbrev pub table_check : Table → Check
table_check t = record { number = 3; sentence = TableRules t; passes = table_obeys t }

-- 14: the unshared tree exceeds 64 nodes or its text 32 enclosings, so that the text is no requirement
abbrev pub limits_check : Table → Check
limits_check t =
    record {
      number = 14;
      sentence = Requires (table_text t) (tree_of t);
      passes = leb (size (tree_of t)) NODES && leb (enclosings (tree_of t)) ENCLOSINGS;
    }

-- 15: the text slice is too short
abbrev pub room_check : Table → ℕ → Check
room_check t room = record { number = 15; sentence = length (table_text t) ≤ room; passes = leb (length (table_text t)) room }

abbrev pub write_checks : Table → ℕ → List Check
write_checks t room = table_check t ∷ limits_check t ∷ room_check t room ∷ []

-- the first that applies to a table and a slice of so many places, 0 where none does
abbrev pub write_refusal : Table → ℕ → ℕ
write_refusal t room = first (write_checks t room)

-- none of them applies
pub record Writable (t : Table) (room : ℕ) : Type 0 where
  pub ruled : TableRules t
  pub required : Requires (table_text t) (tree_of t)
  pub fits : length (table_text t) ≤ room

-- the length is 0 under a refusal
abbrev pub no_text : ℕ → Written
no_text number = record { number = number; length = 0 }

abbrev pub outcome : Result ℕ Refusal → Written
outcome (Ok n) = record { number = 0; length = n }
outcome (Err r) = no_text (number r)

abbrev pub written_of : Table → ℕ → Written
written_of t room = unless_refused (write_refusal t room) (record { number = 0; length = length (table_text t) }) (no_text (write_refusal t room))

-- the text's bytes in front, the remainder kept; all kept under a refusal
abbrev pub text_slice : Table → List ℕ → List ℕ
text_slice t old = unless_refused (write_refusal t (length old)) (in_front (table_text t) old) old
