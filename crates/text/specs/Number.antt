-- Number fields: up to ten digits, no leading zero, and no `-0` where a sign may stand.
use Rattle.std.specs.Prelude.{ℕ, ◌+◌, ◌-◌, ◌*◌, List, [], ◌∷◌, Bool, not, cond, ◌&&◌, length, get_or, drop, ℤ, pos, neg_ℤ, ltb, leb, eqb}
use Rattle.text.specs.Bytes.{bytes}
use Rattle.text.specs.Mark.{mark_at, after}
use Rattle.text.specs.declared.Field.{Field}
use Rattle.text.specs.declared.Field.TheVariants.{Number, Bad}

-- `0` to `9`
abbrev pub is_digit : ℕ → Bool
is_digit b = leb 48 b && leb b 57

-- the digits that a text begins with, all of them
unfoldable pub digits : List ℕ → List ℕ
digits [] = []
digits (b ∷ s) = cond (is_digit b) (b ∷ digits s) []

-- the decimal value of digits that follow the value v
unfoldable pub value : ℕ → List ℕ → ℕ
value v [] = v
value v (b ∷ ds) = value (v * 10 + (b - 48)) ds

-- whether `count` digits, the first of them given, write a number: one to ten of them, and no leading zero
abbrev pub is_numeral : ℕ → ℕ → Bool
is_numeral first count = leb 1 count && (leb count 10 && not (eqb first 48 && ltb 1 count))

-- and one of at most max
abbrev pub in_form : ℕ → ℕ → ℕ → ℕ → Bool
in_form first count v max = is_numeral first count && leb v max

abbrev pub judged : ℕ → ℕ → ℕ → ℕ → ℕ → Field ℕ
judged first count v max next = cond (in_form first count v max) (Number v next) Bad

-- the number of at most max that stands at a place of a text
unfoldable pub number_at : List ℕ → ℕ → ℕ → Field ℕ
number_at s at max =
    judged (get_or s at 0) (length (digits (drop at s))) (value 0 (digits (drop at s))) max (at + length (digits (drop at s)))

-- what follows a number, with a sign or without, and what is answered where there is none
abbrev pub after_number : {V A : Type 0} → Field V → (V → ℕ → A) → A → A
after_number (Number v n) f a = f v n
after_number Bad f a = a

-- a number that follows a key
unfoldable pub field_at : List ℕ → List ℕ → ℕ → ℕ → Field ℕ
field_at key s at max = after (mark_at key s at) (λ n. number_at s n max) Bad

-- the largest number of a field without a sign, and of one with a sign
abbrev pub largest : ℕ
largest = 4_294_967_295

abbrev pub largest_signed : ℕ
largest_signed = 2_147_483_647

-- a number with `-` before it or not, and no `-0`
unfoldable pub signed_at : List ℕ → ℕ → Field ℤ
signed_at s at =
    after (mark_at (bytes "-") s at)
    (λ d. after_number (number_at s d largest_signed) (λ v n. cond (eqb v 0) Bad (Number (neg_ℤ (pos v)) n)) Bad)
    (after_number (number_at s at largest_signed) (λ v n. Number (pos v) n) Bad)

-- a signed number that follows a key
unfoldable pub signed_field_at : List ℕ → List ℕ → ℕ → Field ℤ
signed_field_at key s at = after (mark_at key s at) (λ n. signed_at s n) Bad
