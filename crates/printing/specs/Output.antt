-- Bytes printed into a slice, from a place on.
-- Assumes nothing.
use Rattle.std.specs.Prelude.{cond, List, [], ◌∷◌, ℕ, ◌+◌, ltb, length, set, replicate}

-- what a slice holds, and the place behind the last byte that was printed
pub record Output : Type 0 where
  pub bytes : List ℕ
  pub end : ℕ

abbrev pub output : List ℕ → ℕ → Output
output slice end = record { bytes = slice; end = end }

-- n places, and nothing printed in them
abbrev pub blank : ℕ → Output
blank n = output (replicate n 0) 0

-- one byte more, where there is a place for it
abbrev pub one_more : Output → ℕ → Output
one_more o b = cond (ltb o.end (length o.bytes)) (record { bytes = set o.bytes o.end b; end = o.end + 1 }) o

-- bytes one after the other, as far as the slice goes
unfoldable pub printed : Output → List ℕ → Output
printed o [] = o
printed o (b ∷ bs) = printed (one_more o b) bs
