-- The kinds of a requirement table's nodes, by their numbers.
-- Assumes nothing.
use Rattle.std.specs.Prelude.{Bool, true, false, List, [], ◌∷◌, ℕ, get_or}
use Rattle.logic.specs.declared.Extremum.{Extremum}
use Rattle.logic.specs.declared.Extremum.TheVariants.{Largest, Smallest}
use Rattle.logic.specs.declared.Direction.TheVariants.{Future}
use Rattle.tables.specs.declared.Operator.{Operator}
use Rattle.tables.specs.declared.Operator.TheVariants.{Constant, Named, Negated, Unknown, Joined, Binary, Unary}

-- 0 true, 1 predicate, 2 not, 3 and, 4 or, 5 until, 6 release, 7 eventually, 8 always
abbrev pub kinds : List Operator
kinds =
    Constant
    ∷ Named
    ∷ Negated
    ∷ Joined Smallest
    ∷ Joined Largest
    ∷ Binary Future Largest
    ∷ Binary Future Smallest
    ∷ Unary Future Largest
    ∷ Unary Future Smallest
    ∷ []

abbrev pub operator : ℕ → Operator
operator kind = get_or kinds kind Unknown

-- the extremum that an operator takes; the others take none
abbrev pub operator_extremum : Operator → Extremum
operator_extremum Constant = Smallest
operator_extremum Named = Smallest
operator_extremum Negated = Smallest
operator_extremum Unknown = Smallest
operator_extremum (Joined e) = e
operator_extremum (Binary d e) = e
operator_extremum (Unary d e) = e

abbrev pub is_not : Operator → Bool
is_not Constant = false
is_not Named = false
is_not Negated = true
is_not Unknown = false
is_not (Joined e) = false
is_not (Binary d e) = false
is_not (Unary d e) = false

-- the kinds by their names
abbrev pub true_kind : ℕ
true_kind = 0

abbrev pub predicate_kind : ℕ
predicate_kind = 1

abbrev pub not_kind : ℕ
not_kind = 2

abbrev pub and_kind : ℕ
and_kind = 3

abbrev pub or_kind : ℕ
or_kind = 4

abbrev pub until_kind : ℕ
until_kind = 5

abbrev pub release_kind : ℕ
release_kind = 6

abbrev pub eventually_kind : ℕ
eventually_kind = 7

abbrev pub always_kind : ℕ
always_kind = 8
