-- Worked trees: the text of each, written out by hand from document 01's grammar.
use Rattle.std.specs.Prelude.{ℕ, List, [], ◌∷◌, ◌++◌}
use Rattle.text.specs.Bytes.{bytes}
use Rattle.tables.specs.Tree.{NO_END}
use Rattle.grammar.specs.Tree.{Tree, truth}
use Rattle.requirements.specs.Examples.{p, no, and, or, until, release, eventually, always, nots, ands, times}

-- a tree, its text, and how many enclosings that has
pub record Example : Type 0 where
  pub tree : Tree
  pub text : List ℕ
  pub deep : ℕ

abbrev pub spells : Tree → List ℕ → ℕ → Example
spells a t n = record { tree = a; text = t; deep = n }

abbrev pub examples : List Example
examples =
    -- no pair where the grammar reads the tree without it
    spells (or (p 0) (and (p 1) (p 2))) (bytes "p0|p1&p2") 0
    ∷ spells (and (p 0) (until 0 1 (p 1) (p 2))) (bytes "p0&p1U[0,1]p2") 0
    ∷ spells (until 0 1 (no (p 0)) (eventually 2 3 (p 1))) (bytes "!p0U[0,1]F[2,3]p1") 1
    ∷ spells (or (or (p 0) (p 1)) (p 2)) (bytes "p0|p1|p2") 0
    ∷ spells (and (and (p 0) (p 1)) (p 2)) (bytes "p0&p1&p2") 0
    -- both group to the left
    ∷ spells (or (p 0) (or (p 1) (p 2))) (bytes "p0|(p1|p2)") 1
    ∷ spells (and (p 0) (and (p 1) (p 2))) (bytes "p0&(p1&p2)") 1
    -- an alternative inside a conjunction, a bind, a unary
    ∷ spells (and (or (p 0) (p 1)) (or (p 2) truth)) (bytes "(p0|p1)&(p2|T)") 1
    ∷ spells (until 0 1 (or (p 0) (p 1)) (p 2)) (bytes "(p0|p1)U[0,1]p2") 1
    ∷ spells (no (or (p 0) (p 1))) (bytes "!(p0|p1)") 2
    -- a conjunction inside a bind, a unary
    ∷ spells (release 0 1 (p 0) (and (p 1) (p 2))) (bytes "p0R[0,1](p1&p2)") 1
    ∷ spells (always 0 NO_END (and (p 0) (p 1))) (bytes "G[0,*](p0&p1)") 2
    -- a bind inside a unary, and on either side of a bind
    ∷ spells (eventually 0 7_200 (until 0 NO_END truth (p 15))) (bytes "F[0,7200](TU[0,*]p15)") 2
    ∷ spells (until 0 1 (until 2 3 (p 0) (p 1)) (release 4 600 (p 2) (p 3))) (bytes "(p0U[2,3]p1)U[0,1](p2R[4,600]p3)") 1
    -- the limits
    ∷ spells (nots 31 (and truth truth)) (times 31 "!" ++ bytes "(T&T)") 32
    ∷ spells (nots 32 (and truth truth)) (times 32 "!" ++ bytes "(T&T)") 33
    ∷ spells (ands 31 (no truth)) (bytes "!T" ++ times 31 "&T") 1
    ∷ []
