-- What is known of the bytes that were read, and of those that were written.
-- Assumes nothing.
use Rattle.std.specs.Prelude.{◌≡◌, ℕ, ◌≤◌, List, length, take, Option, Result, IfOk, IfSome}
use Rattle.std.specs.Io.KnownBytes.{Appends}

-- the bytes that were read lie in the buffer
abbrev pub Within : {E : Type 0} → Result ℕ E → ℕ → Type 0
Within r size = IfOk r (λ n. n ≤ size)

-- where the reader's bytes are known, the buffer begins with them: with all of them, or with as many as there is room for
abbrev pub Reads : {E : Type 0} → Result ℕ E → List ℕ → Option (List ℕ) → Type 0
Reads r buffer known = IfOk r (λ n. IfSome known (λ xs. take n buffer ≡ take (length buffer) xs))

-- where the writer's bytes are known, they grew by the beginning of bs, perhaps by nothing
abbrev pub AppendsFront : Option (List ℕ) → Option (List ℕ) → List ℕ → Type 0
AppendsFront old new bs = (n : ℕ) × Appends old new (take n bs)
