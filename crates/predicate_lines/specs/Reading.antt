-- The predicate lines of a text, read from a place on. `Exact` in proofs/ shows that they are read exactly where the form of Form.antt stands.
-- Assumes nothing.
use Rattle.std.specs.Prelude.{ℕ, zero, suc, ◌+◌, cond, List, Option, Some, None, set, ltb, ℤ}
use Rattle.text.specs.Bytes.{bytes}
use Rattle.text.specs.Mark.{key_at, mark_at, after, read}
use Rattle.text.specs.Number.{largest, field_at, signed_at, after_number}
use Rattle.text.specs.declared.Read.{Read}
use Rattle.recordings.specs.declared.Predicate.{Predicate}
use Rattle.predicate_lines.specs.declared.NumberedPredicate.{NumberedPredicate}
use Rattle.predicate_lines.specs.Form.{range_of, unset}

-- an end behind its key; none is written `*`
unfoldable pub end_at : List ℕ → List ℕ → ℕ → Option (Read (Option ℤ))
end_at key s at =
    after (mark_at key s at)
    (λ b. after (mark_at (bytes "*") s b) (λ n. read None n) (after_number (signed_at s b) (λ v n. read (Some v) n) None))
    None

abbrev pub set_line : ℕ → Predicate → ℕ → Option (Read NumberedPredicate)
set_line k p n = read (record { number = k; predicate = p }) n

-- the predicate line at a place
unfoldable pub line_at : List ℕ → ℕ → Option (Read NumberedPredicate)
line_at s at =
    after_number (field_at (bytes "p=") s at 15)
    (λ number a. after_number (field_at (bytes " ch=") s a largest)
    (λ channel b. after (end_at (bytes " lo=") s b)
    (λ lo. after (end_at (bytes " hi=") s lo.next)
    (λ hi. after (mark_at (bytes "\n") s hi.next) (λ n. set_line number (record { channel = channel; range = range_of lo.value hi.value }) n) None)
    None)
    None)
    None)
    None

-- one predicate more
abbrev pub stored_in : Read (List Predicate) → Read NumberedPredicate → Read (List Predicate)
stored_in ps l = record { value = set ps.value l.value.number l.value.predicate; next = l.next }

-- up to f lines with the key `p=`, by rising number from the least on; none where a line is refused
unfoldable pub lines_from : ℕ → List ℕ → ℕ → Read (List Predicate) → Option (Read (List Predicate))
lines_from zero s least ps = Some ps
lines_from (suc f) s least ps =
    cond (key_at (bytes "p=") s ps.next)
    (after (line_at s ps.next) (λ l. cond (ltb l.value.number least) None (lines_from f s (l.value.number + 1) (stored_in ps l))) None)
    (Some ps)

-- sixteen numbers can rise; a line behind them is below the least, whatever its number
unfoldable pub lines_at : List ℕ → ℕ → Option (Read (List Predicate))
lines_at s at = lines_from 17 s 0 (record { value = unset; next = at })
