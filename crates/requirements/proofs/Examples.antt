-- The worked texts as one fact: the whole table computes to its answers, and one lemma turns that into each entry.
-- Assumes nothing.
use mathlib.Core.Path.{◌≡◌, refl, sym, ap, ◌∙◌}
use mathlib.Core.List.{List, [], map}
use Prim.Native.Nat.{ℕ}
use lib.ListN.{get_or}
use Rattle.lists.proofs.Maps.{map_at}
use Rattle.text.specs.Mark.{prefix_of, mark_at}
use Rattle.text.specs.Number.{digits, value, number_at, field_at}
use Rattle.grammar.specs.Tree.{size}
use Rattle.grammar.specs.Reading.{bracket_at, high_end_at, window_at, timed_at, timed_among, leaf_at, more_turns, bind_by, unary_by, unary_at, requirement_tree}
use Rattle.requirements.specs.Requirement.{Requirement, refused, requirement_of}
use Rattle.requirements.specs.Examples.{Example, examples, is_none}

table : map (λ (e : Example). requirement_of e.text) examples ≡ map (λ (e : Example). e.answer) examples
unfolding prefix_of mark_at digits value number_at field_at size bracket_at high_end_at window_at timed_at timed_among leaf_at more_turns bind_by unary_by unary_at requirement_tree
table = refl

-- the text of entry k is answered as entry k says
pub example : (k : ℕ) → requirement_of (get_or examples k (is_none [])).text ≡ (get_or examples k (is_none [])).answer
example k =
    sym (map_at (λ (e : Example). requirement_of e.text) examples k (is_none []))
    ∙ (ap (λ (l : List Requirement). get_or l k (requirement_of [])) table ∙ (ap (λ (d : Requirement). get_or (map (λ (e : Example). e.answer) examples) k d) nothing
    ∙ map_at (λ (e : Example). e.answer) examples k (is_none [])))
  where
    nothing : requirement_of [] ≡ refused
    nothing = ap (λ (l : List Requirement). get_or l 14 refused) table
