-- Worked texts: what document 01's grammar says of each, written out by hand.
use Rattle.std.specs.Prelude.{ℕ, zero, suc, List, [], ◌∷◌, ◌++◌}
use Prim.Native.String.{String}
use Rattle.text.specs.Bytes.{bytes}
use Rattle.tables.specs.Kind.{not_kind, and_kind, or_kind, until_kind, release_kind, eventually_kind, always_kind}
use Rattle.tables.specs.Tree.{NO_END, marked, span, no_span}
use Rattle.grammar.specs.Tree.{Tree, truth, predicate, one, two}
use Rattle.requirements.specs.Requirement.{Requirement, accepted, refused}

pub record Example : Type 0 where
  pub text : List ℕ
  pub answer : Requirement

abbrev pub reads_as : List ℕ → Tree → Example
reads_as t a = record { text = t; answer = accepted a }

abbrev pub is_none : List ℕ → Example
is_none t = record { text = t; answer = refused }

-- a text n times
abbrev pub times : ℕ → String → List ℕ
times zero t = []
times (suc n) t = bytes t ++ times n t

-- trees by the operators' names
abbrev pub p : ℕ → Tree
p n = predicate n

abbrev pub no : Tree → Tree
no a = one not_kind no_span a

abbrev pub and : Tree → Tree → Tree
and a b = two and_kind no_span a b

abbrev pub or : Tree → Tree → Tree
or a b = two or_kind no_span a b

abbrev pub until : ℕ → ℕ → Tree → Tree → Tree
until lo hi a b = two until_kind (span lo hi) a b

abbrev pub release : ℕ → ℕ → Tree → Tree → Tree
release lo hi a b = two release_kind (span lo hi) a b

abbrev pub eventually : ℕ → ℕ → Tree → Tree
eventually lo hi a = one eventually_kind (span lo hi) a

abbrev pub always : ℕ → ℕ → Tree → Tree
always lo hi a = one always_kind (span lo hi) a

-- a tree under n times `not`, and n times `and T` after it
abbrev pub nots : ℕ → Tree → Tree
nots zero a = a
nots (suc n) a = no (nots n a)

abbrev pub ands : ℕ → Tree → Tree
ands zero a = a
ands (suc n) a = ands n (and a truth)

abbrev pub examples : List Example
examples =
    -- `&` before `|`, U and R before `&`, and one unary before each of them
    reads_as (bytes "p0|p1&p2") (or (p 0) (and (p 1) (p 2)))
    ∷ reads_as (bytes "p0&p1U[0,1]p2") (and (p 0) (until 0 1 (p 1) (p 2)))
    ∷ reads_as (bytes "!p0U[0,1]p1") (until 0 1 (no (p 0)) (p 1))
    ∷ reads_as (bytes "G[0,1]p0R[2,*]p1") (release 2 NO_END (always 0 1 (p 0)) (p 1))
    -- grouped to the left, unless parentheses say otherwise; a bind is not repeated
    ∷ reads_as (bytes "p0|p1|p2") (or (or (p 0) (p 1)) (p 2))
    ∷ reads_as (bytes "p0&(p1&p2)") (and (p 0) (and (p 1) (p 2)))
    ∷ is_none (bytes "p0U[0,1]p1U[0,1]p2")
    ∷ reads_as (bytes "p0U[0,1](p1U[0,1]p2)") (until 0 1 (p 0) (until 0 1 (p 1) (p 2)))
    -- numbers
    ∷ reads_as (bytes "F[0,1000000000]p15") (eventually 0 1_000_000_000 (p 15))
    ∷ is_none (bytes "p16")
    ∷ is_none (bytes "p01")
    ∷ is_none (bytes "G[0,4294967295]p0")
    ∷ is_none (bytes "G[0,1000000001]p0")
    ∷ is_none (bytes "G[5,2]p0")
    -- nothing else may stand there
    ∷ is_none []
    ∷ is_none (bytes "p0 ")
    ∷ is_none (bytes "\0")
    ∷ is_none (255 ∷ [])
    ∷ is_none (bytes "(p0")
    ∷ is_none (bytes "p0|")
    -- 32 enclosings and 33, of both sorts
    ∷ reads_as (times 32 "(" ++ (bytes "T" ++ times 32 ")")) truth
    ∷ is_none (times 33 "(" ++ (bytes "T" ++ times 33 ")"))
    ∷ reads_as (times 32 "!" ++ bytes "T") (nots 32 truth)
    ∷ is_none (times 33 "!" ++ bytes "T")
    -- 64 nodes and 65
    ∷ reads_as (bytes "!T" ++ times 31 "&T") (ands 31 (no truth))
    ∷ is_none (bytes "!!T" ++ times 31 "&T")
    -- excluded ends; something must be left, and without end there is none to exclude
    ∷ reads_as (bytes "F(5,6]p0") (one eventually_kind (marked 5 6 1 0) (p 0))
    ∷ reads_as (bytes "p0U[5,6)p1") (two until_kind (marked 5 6 0 1) (p 0) (p 1))
    ∷ reads_as (bytes "G(1000000000,*]p0") (one always_kind (marked 1_000_000_000 NO_END 1 0) (p 0))
    ∷ is_none (bytes "F(5,5]p0")
    ∷ is_none (bytes "F[5,5)p0")
    ∷ is_none (bytes "F(5,6)p0")
    ∷ is_none (bytes "F[0,*)p0")
    -- a window's bracket is no parenthesis
    ∷ reads_as (bytes "F(0,1](p0)") (one eventually_kind (marked 0 1 1 0) (p 0))
    ∷ is_none (bytes "F (0,1]p0")
    ∷ is_none (bytes "F(p0)")
    ∷ reads_as (times 31 "!" ++ bytes "F(0,1]T") (nots 31 (one eventually_kind (marked 0 1 1 0) truth))
    ∷ is_none (times 31 "!" ++ bytes "F(0,1](T)")
    ∷ []
