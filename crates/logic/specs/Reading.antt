-- One reading of a requirement. Read into whole numbers over the samples it is the margin; read into true and false it is the truth, over the samples or,
-- with seconds for samples, over a history.
-- Assumes nothing.
use Rattle.std.specs.Prelude.{Bool, true, false, not, ◌&&◌, ◌||◌, cond, ℕ, ◌+◌, ◌-◌, ℤ, pos, neg_ℤ}
use Rattle.numbers.specs.Order.{smaller_of, larger_of}
use Rattle.lists.specs.Fold.{fold}
use Rattle.logic.specs.declared.Window.{Window}
use Rattle.logic.specs.Window.{inside}
use Rattle.logic.specs.declared.Extremum.{Extremum}
use Rattle.logic.specs.declared.Extremum.TheVariants.{Largest, Smallest}
use Rattle.logic.specs.Formula.{dual, Formula, truth, atom, negation, junction, temporal}
use Rattle.logic.specs.declared.Direction.{Direction}
use Rattle.logic.specs.declared.Direction.TheVariants.{Future}

-- what a requirement is read into: "not", the larger and the smaller of two, and the largest and the smallest over nothing
pub record Algebra (X : Type 0) : Type 0 where
  pub negate : X → X
  pub extreme : Extremum → X → X → X
  pub over_nothing : Extremum → X

-- the places from `first` up to, not including, `end`, and the time of each
pub record Places : Type 0 where
  pub first : ℕ
  pub end : ℕ
  pub time : ℕ → ℕ

-- from place i on: the place m steps away, how many places there are, and the time between
abbrev pub place : Direction → ℕ → ℕ → ℕ
place Future i m = i + m

abbrev pub count : Direction → Places → ℕ → ℕ
count Future F i = F.end - i

abbrev pub offset : Direction → Places → ℕ → ℕ → ℕ
offset Future F i m = F.time (i + m) - F.time i

module _ {X : Type 0} (A : Algebra X) where
  -- the largest, or the smallest, of the first n
  abbrev pub extremum : Extremum → (ℕ → X) → ℕ → X
  extremum e f n = fold (A.extreme e) (A.over_nothing e) f n

  -- until: the largest, over the places m whose time d m is in the window, of the smaller of right at m and left at every place before m.
  -- Release: the smallest of the larger.
  abbrev pub along : Extremum → Window → (ℕ → ℕ) → (ℕ → X) → (ℕ → X) → ℕ → X
  along e w d l r n = extremum e (λ m. cond (inside w (d m)) (A.extreme (dual e) (r m) (extremum (dual e) l m)) (A.over_nothing e)) n

  -- the requirement table: one line for each kind
  abbrev pub read : {P : Type 0} → Places → (P → ℕ → X) → Formula P → ℕ → X
  read F at truth i = A.over_nothing Smallest
  read F at (atom p) i = at p i
  read F at (negation φ) i = A.negate (read F at φ i)
  read F at (junction e l r) i = A.extreme e (read F at l i) (read F at r i)
  read F at (temporal d e w l r) i = along e w (offset d F i) (λ m. read F at l (place d i m)) (λ m. read F at r (place d i m)) (count d F i)

-- true and false, true the larger
abbrev pub boolean_extreme : Extremum → Bool → Bool → Bool
boolean_extreme Largest a b = a || b
boolean_extreme Smallest a b = a && b

abbrev pub boolean_nothing : Extremum → Bool
boolean_nothing Largest = false
boolean_nothing Smallest = true

abbrev pub booleans : Algebra Bool
booleans = record { negate = not; extreme = boolean_extreme; over_nothing = boolean_nothing }

-- whole numbers up to `top`: a largest over nothing is -top, a smallest over nothing is top
abbrev pub margin_extreme : Extremum → ℤ → ℤ → ℤ
margin_extreme Largest a b = larger_of a b
margin_extreme Smallest a b = smaller_of a b

abbrev pub margin_nothing : ℕ → Extremum → ℤ
margin_nothing top Largest = neg_ℤ (pos top)
margin_nothing top Smallest = pos top

abbrev pub margins : ℕ → Algebra ℤ
margins top = record { negate = neg_ℤ; extreme = margin_extreme; over_nothing = margin_nothing top }
