-- "Not" pushed down to predicates and true: the negation normal form. "And" with "or", until with release, eventually with always change places; windows are kept.
-- Assumes nothing.
use Rattle.std.specs.Prelude.{Bool, true, false, not}
use Rattle.logic.specs.declared.Extremum.{Extremum}
use Rattle.logic.specs.Formula.{dual, Formula, truth, atom, negation, junction, temporal}

abbrev pub turn : Bool → Extremum → Extremum
turn true e = e
turn false e = dual e

-- at true the requirement, at false its negation, with "not" pushed down
abbrev pub push : {P : Type 0} → Bool → Formula P → Formula P
push true truth = truth
push false truth = negation truth
push true (atom p) = atom p
push false (atom p) = negation (atom p)
push b (negation φ) = push (not b) φ
push b (junction e l r) = junction (turn b e) (push b l) (push b r)
push b (temporal d e w l r) = temporal d (turn b e) w (push b l) (push b r)

-- true, or a predicate
abbrev pub Plain : {P : Type 0} → Formula P → Type 0
Plain truth = Unit
Plain (atom p) = Unit
Plain (negation φ) = ⊥
Plain (junction e l r) = ⊥
Plain (temporal d e w l r) = ⊥

-- "not" stands on predicates and true alone
abbrev pub Normal : {P : Type 0} → Formula P → Type 0
Normal truth = Unit
Normal (atom p) = Unit
Normal (negation φ) = Plain φ
Normal (junction e l r) = Normal l × Normal r
Normal (temporal d e w l r) = Normal l × Normal r
