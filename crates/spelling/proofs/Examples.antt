-- The worked trees as one fact: the whole table computes to its texts and enclosings, and one lemma turns that into each entry.
-- Assumes nothing.
use mathlib.Core.Path.{◌≡◌, refl, sym, ap, ◌∙◌}
use mathlib.Core.List.{List, map}
use Prim.Native.Nat.{ℕ}
use lib.ListN.{get_or}
use Rattle.lists.proofs.Maps.{map_at}
use Rattle.printing.specs.Decimal.{digits}
use Rattle.grammar.specs.Tree.{truth}
use Rattle.text.specs.Bytes.{bytes}
use Rattle.spelling.specs.Text.{text_as, text_of}
use Rattle.spelling.specs.Enclosings.{enclosings_as, enclosings}
use Rattle.spelling.specs.Examples.{Example, examples, spells}

abbrev written : Example → Example
written e = spells e.tree (text_of e.tree) (enclosings e.tree)

table : map written examples ≡ map (λ (e : Example). e) examples
unfolding text_as enclosings_as digits
table = refl

-- the tree of entry k has the text and the enclosings that entry k says
pub example : (k : ℕ) → written (get_or examples k (spells truth (bytes "T") 0)) ≡ get_or examples k (spells truth (bytes "T") 0)
unfolding text_as enclosings_as
example k =
    sym (map_at written examples k (spells truth (bytes "T") 0))
    ∙ (ap (λ (l : List Example). get_or l k (spells truth (bytes "T") 0)) table ∙ map_at (λ (e : Example). e) examples k (spells truth (bytes "T") 0))
