-- Keys and marks: fixed bytes, due at a place of a text.
use Rattle.std.specs.Prelude.{ℕ, ◌+◌, List, [], ◌∷◌, Bool, true, false, cond, ◌&&◌, Option, Some, None, length, drop, leb, eqb}
use Rattle.text.specs.declared.Read.{Read}

-- whether a text begins with a key
unfoldable pub prefix_of : List ℕ → List ℕ → Bool
prefix_of [] s = true
prefix_of (k ∷ ks) [] = false
prefix_of (k ∷ ks) (b ∷ s) = eqb b k && prefix_of ks s

-- whether a key stands at a place of a text
abbrev pub key_at : List ℕ → List ℕ → ℕ → Bool
key_at key s at = leb at (length s) && prefix_of key (drop at s)

-- the place after a key that stands at a place
unfoldable pub mark_at : List ℕ → List ℕ → ℕ → Option ℕ
mark_at key s at = cond (key_at key s at) (Some (at + length key)) None

-- what follows what was read, and what is answered where it is missing
abbrev pub after : {A B : Type 0} → Option A → (A → B) → B → B
after (Some x) f b = f x
after None f b = b

-- what was read at a place, and the place after it
abbrev pub read : {A : Type 0} → A → ℕ → Option (Read A)
read x n = Some (record { value = x; next = n })
