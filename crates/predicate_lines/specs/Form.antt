-- The form of a sheet's predicate lines: `p= ch= lo= hi=`, by rising number, gaps allowed, perhaps none.
-- Assumes nothing.
use Rattle.std.specs.Prelude.{ℕ, ◌+◌, ◌≤◌, ◌≡◌, Bool, List, [], ◌∷◌, ◌++◌, Option, Some, None, set, replicate, ℤ}
use Rattle.text.specs.Bytes.{bytes}
use Rattle.text.specs.Mark.{prefix_of}
use Rattle.text.specs.Number.{largest}
use Rattle.text.specs.Numeral.{Numeral, Signed}
use Rattle.recordings.specs.declared.Predicate.{Predicate}
use Rattle.recordings.specs.declared.Range.{Range}
use Rattle.recordings.specs.declared.Range.TheVariants.{Free, AtLeast, AtMost, Between}
use Rattle.recordings.specs.Card.{unset_predicate}

-- the bytes of an end: `*` for a missing one
pub data EndText : List ℕ → Option ℤ → Type 0 where
  star : EndText (bytes "*") None
  number : {w : List ℕ} {v : ℤ} → Signed w v → EndText w (Some v)

-- the range that two ends make; without an end it is free
abbrev pub range_of : Option ℤ → Option ℤ → Range
range_of None None = Free
range_of (Some lo) None = AtLeast lo
range_of None (Some hi) = AtMost hi
range_of (Some lo) (Some hi) = Between lo hi

-- a predicate's line: its number is 0 to 15
pub record PredicateLine (line : List ℕ) (number : ℕ) (predicate : Predicate) : Type 0 where
  pub p : List ℕ
  pub ch : List ℕ
  pub lo : List ℕ
  pub hi : List ℕ
  pub named : Numeral p number
  pub known : number ≤ 15
  pub channel : Numeral ch predicate.channel
  pub bound : predicate.channel ≤ largest
  pub low : Option ℤ
  pub high : Option ℤ
  pub from : EndText lo low
  pub to : EndText hi high
  pub range : predicate.range ≡ range_of low high
  pub spelled : line ≡ bytes "p=" ++ p ++ bytes " ch=" ++ ch ++ bytes " lo=" ++ lo ++ bytes " hi=" ++ hi ++ bytes "\n"

-- whether a line begins as a predicate's does
abbrev pub is_predicate : List ℕ → Bool
is_predicate l = prefix_of (bytes "p=") l

-- sixteen predicates, none of them set
abbrev pub unset : List Predicate
unset = replicate 16 unset_predicate

-- lines that set predicates beside those that are set, by rising number: none is below the least that is still allowed
pub data LinesFrom : ℕ → List Predicate → List (List ℕ) → List Predicate → Type 0 where
  over : {least : ℕ} {ps : List Predicate} → LinesFrom least ps [] ps
  more : {l : List ℕ} {ls : List (List ℕ)} {ps qs : List Predicate} {least number : ℕ} {predicate : Predicate}
      → PredicateLine l number predicate → least ≤ number → LinesFrom (number + 1) (set ps number predicate) ls qs → LinesFrom least ps (l ∷ ls) qs

-- the predicate lines of a head, and the predicates that they set
abbrev pub PredicateLines : List (List ℕ) → List Predicate → Type 0
PredicateLines ls qs = LinesFrom 0 unset ls qs
