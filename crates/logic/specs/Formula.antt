-- Requirements as trees: Metric Temporal Logic over atoms P.
-- Assumes nothing.
use Rattle.logic.specs.declared.Extremum.{Extremum}
use Rattle.logic.specs.declared.Extremum.TheVariants.{Largest, Smallest}
use Rattle.logic.specs.declared.Direction.{Direction}
use Rattle.logic.specs.declared.Direction.TheVariants.{Future}
use Rattle.logic.specs.declared.Window.{Window}

-- an operator takes the largest of two values ("or", until, eventually) or the smallest ("and", release, always, their duals), as src/ declares it
abbrev pub dual : Extremum → Extremum
dual Largest = Smallest
dual Smallest = Largest

pub data Formula (P : Type 0) : Type 0 where
  truth : Formula P
  atom : P → Formula P
  negation : Formula P → Formula P
  junction : Extremum → Formula P → Formula P → Formula P
  temporal : Direction → Extremum → Window → Formula P → Formula P → Formula P

-- the requirement table's kinds 3 to 8 by their names
abbrev pub conjunction : {P : Type 0} → Formula P → Formula P → Formula P
conjunction l r = junction Smallest l r

abbrev pub disjunction : {P : Type 0} → Formula P → Formula P → Formula P
disjunction l r = junction Largest l r

abbrev pub until : {P : Type 0} → Window → Formula P → Formula P → Formula P
until w l r = temporal Future Largest w l r

abbrev pub release : {P : Type 0} → Window → Formula P → Formula P → Formula P
release w l r = temporal Future Smallest w l r

-- eventually is until from true, always is release from false
abbrev pub eventually : {P : Type 0} → Window → Formula P → Formula P
eventually w φ = until w truth φ

abbrev pub always : {P : Type 0} → Window → Formula P → Formula P
always w φ = release w (negation truth) φ
