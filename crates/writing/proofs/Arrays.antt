-- The text is written into an array that has room for every requirement's: what the array begins with, up to the place behind the last byte, is the text.
-- Assumes nothing.
use mathlib.Core.Path.{◌≡◌, ap, ◌∙◌}
use mathlib.Core.List.{List}
use Prim.Native.Nat.{ℕ, ◌-◌}
use lib.ListN.{take}
use Rattle.printing.specs.Output.{Output, blank, printed}
use Rattle.printing.proofs.Printed.{blank_says}
use Rattle.tables.specs.declared.Table.{Table}
use Rattle.tables.specs.Rules.{TableRules}
use Rattle.grammar.specs.declared.Part.TheVariants.{Alternative as alternative}
use Rattle.grammar.specs.Grammar.{Requires}
use Rattle.building.specs.Storing.{node_from}
use Rattle.building.specs.Unshared.{unshared, tree_of}
use Rattle.spelling.specs.Text.{text_as}
use Rattle.spelling.specs.Room.{LONGEST_TEXT}
use Rattle.spelling.proofs.Fits.{text_room}
use Rattle.writing.specs.Ruled.{HoldsNodes}
use Rattle.writing.specs.Written.{table_text}
use Rattle.writing.proofs.Tables.{laid_tree}

pub text_printed : (t : Table) (cells : List ℕ) → HoldsNodes cells t → TableRules t → Requires (table_text t) (tree_of t) → {o : Output}
    → o ≡ printed (blank LONGEST_TEXT) (text_as alternative (unshared (node_from cells) (t.count - 1))) → take o.end o.bytes ≡ table_text t
text_printed t cells e r q h =
    blank_says LONGEST_TEXT (table_text t) (h ∙ ap (λ a. printed (blank LONGEST_TEXT) (text_as alternative a)) (laid_tree t cells e r)) (text_room (tree_of t) q)
