-- How many nodes a tree has and how many enclosings its text, counted no further than one past the limits: over shared nodes the whole count may be larger than any number that is held.
-- Assumes nothing.
use Rattle.std.specs.Prelude.{ℕ, suc, ◌+◌, min, max}
use Rattle.tables.specs.Tree.{NODES}
use Rattle.tables.specs.Rules.{Use, child, number, unused}
use Rattle.grammar.specs.declared.Part.{Part}
use Rattle.grammar.specs.declared.Part.TheVariants.{Unary as unary}
use Rattle.grammar.specs.Grammar.{ENCLOSINGS}
use Rattle.grammar.specs.Tree.{Tree, size}
use Rattle.spelling.specs.Text.{left_part, right_part}
use Rattle.spelling.specs.Enclosings.{enclosings, pair, tree_part}
use Rattle.writing.specs.declared.Measure.{Measure}

abbrev pub measure : ℕ → ℕ → Part → Measure
measure nodes deep part = record { nodes = min nodes (suc NODES); enclosings = min deep (suc ENCLOSINGS); part = part }

-- of a tree: what it is as a part, without parentheses around it
abbrev pub measure_of : Tree → Measure
measure_of a = measure (size a) (enclosings a) (tree_part a)

-- ---- and from the measures of the children

abbrev pub leaf_measure : Measure
leaf_measure = measure 1 0 unary

-- a child's enclosings where a part is due
abbrev pub deep_as : Part → Measure → ℕ
deep_as due m = m.enclosings + pair due m.part

abbrev pub one_measure : Measure → Measure
one_measure a = measure (a.nodes + 1) (deep_as unary a + 1) unary

abbrev pub two_measure : Part → Measure → Measure → Measure
two_measure p a b = measure (a.nodes + b.nodes + 1) (max (deep_as (left_part p) a) (deep_as (right_part p) b)) p

-- by what the kind's left and right number are
abbrev pub node_measure : Use → Use → Part → Measure → Measure → Measure
node_measure child child p a b = two_measure p a b
node_measure child number p a b = one_measure a
node_measure child unused p a b = one_measure a
node_measure number right p a b = leaf_measure
node_measure unused right p a b = leaf_measure
