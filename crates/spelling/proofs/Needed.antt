-- Each pair of parentheses in the written text is needed: the text without it is two bytes shorter, and no text of the tree is.
-- Assumes nothing.
use mathlib.Core.Path.{◌≡◌, ap}
use mathlib.Core.List.{List, ◌++◌}
use Prim.Native.Nat.{ℕ, ◌≤◌}
use native.Mathlib.Omega.{arith}
use lib.ListN.{length, length-append}
use Rattle.text.specs.Bytes.{bytes}
use Rattle.grammar.specs.declared.Part.TheVariants.{Alternative as alternative}
use Rattle.grammar.specs.Tree.{Tree}
use Rattle.grammar.specs.Grammar.{Derives}
use Rattle.spelling.specs.Text.{text_of}
use Rattle.spelling.proofs.Least.{least}

-- without the pair the grammar derives another tree or none
pub pair_needed : (a : Tree) (x y z : List ℕ) → text_of a ≡ x ++ (bytes "(" ++ (y ++ (bytes ")" ++ z))) → (d : ℕ) → Derives alternative d (x ++ (y ++ z)) a → ⊥
pair_needed a x y z e d t =
    let l : length (text_of a) ≤ length (x ++ (y ++ z)) = (least t).1 in
    omega (arith, simp length-append at (ap length e), simp length-append at l)
