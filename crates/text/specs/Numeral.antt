-- What a number is in a text, and a number with a sign, as productions.
use Rattle.std.specs.Prelude.{ℕ, ◌+◌, ◌*◌, ◌≤◌, ◌<◌, List, [], ◌∷◌, ◌++◌, ℤ, pos, neg_ℤ}
use Rattle.text.specs.Bytes.{bytes}
use Rattle.text.specs.Number.{largest_signed}

-- the bytes that write a number: one digit, or those of a number above 0 and one digit more. So no zero leads.
pub data Numeral : List ℕ → ℕ → Type 0 where
  digit : {d : ℕ} → d ≤ 9 → Numeral ((48 + d) ∷ []) d
  longer : {w : List ℕ} {v d : ℕ} → Numeral w v → 0 < v → d ≤ 9 → Numeral (w ++ ((48 + d) ∷ [])) (v * 10 + d)

-- the bytes of a signed number: `-` before it or not, and no `-0`
pub data Signed : List ℕ → ℤ → Type 0 where
  plain : {w : List ℕ} {v : ℕ} → Numeral w v → v ≤ largest_signed → Signed w (pos v)
  minus : {w : List ℕ} {v : ℕ} → Numeral w v → 0 < v → v ≤ largest_signed → Signed (bytes "-" ++ w) (neg_ℤ (pos v))
