-- Sixteen predicates as flat numbers: of each its range and its channel in one slice, lo and hi in another.
-- Assumes nothing.
use Rattle.std.specs.Prelude.{List, [], ◌∷◌, ℕ, ◌+◌, ◌*◌, get_or, ℤ, pos}
use Rattle.lists.specs.Fill.{fill}
use Rattle.recordings.specs.declared.Predicate.{Predicate}
use Rattle.recordings.specs.declared.Range.{Range}
use Rattle.recordings.specs.declared.Range.TheVariants.{Unset, Free, AtLeast, AtMost, Between}
use Rattle.predicate_lines.specs.Form.{unset}
use Rattle.flat.specs.declared.Parts.{Parts}

-- ---- written

abbrev pub range_number : Range → ℕ
range_number Unset = 0
range_number Free = 1
range_number (AtLeast lo) = 2
range_number (AtMost hi) = 3
range_number (Between lo hi) = 4

-- a range's ends, 0 where it has no such end
abbrev pub lo_of : Range → ℤ
lo_of Unset = pos 0
lo_of Free = pos 0
lo_of (AtLeast lo) = lo
lo_of (AtMost hi) = pos 0
lo_of (Between lo hi) = lo

abbrev pub hi_of : Range → ℤ
hi_of Unset = pos 0
hi_of Free = pos 0
hi_of (AtLeast lo) = pos 0
hi_of (AtMost hi) = hi
hi_of (Between lo hi) = hi

-- all three
abbrev pub parts_of : Range → Parts
parts_of range = record { number = range_number range; lo = lo_of range; hi = hi_of range }

-- two numbers for each of a list, one after the other
unfoldable pub pairs : {A X : Type 0} → (A → X) → (A → X) → List A → List X
pairs f g [] = []
pairs f g (x ∷ xs) = f x ∷ g x ∷ pairs f g xs

abbrev pub ranges_of : List Predicate → List ℕ
ranges_of ps = pairs (λ p. range_number p.range) (λ p. p.channel) ps

abbrev pub ends_of : List Predicate → List ℤ
ends_of ps = pairs (λ p. lo_of p.range) (λ p. hi_of p.range) ps

-- ---- read: a place that a slice doesn't have reads as 0

-- a number that no range has is unset
unfoldable pub range_from : ℕ → ℤ → ℤ → Range
range_from number lo hi = get_or (Unset ∷ Free ∷ AtLeast lo ∷ AtMost hi ∷ Between lo hi ∷ []) number Unset

abbrev pub predicate_from : List ℕ → List ℤ → ℕ → Predicate
predicate_from ranges ends p =
    record {
      channel = get_or ranges (2 * p + 1) 0;
      range = range_from (get_or ranges (2 * p) 0) (get_or ends (2 * p) (pos 0)) (get_or ends (2 * p + 1) (pos 0));
    }

unfoldable pub predicates_from : List ℕ → List ℤ → List Predicate
predicates_from ranges ends = fill 0 16 (predicate_from ranges ends) unset
