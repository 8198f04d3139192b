-- Numbers in decimal digits, as the program prints them.
-- Assumes nothing.
use Rattle.std.specs.Prelude.{cond, List, [], ◌∷◌, ◌++◌, ℕ, zero, suc, ◌+◌, ◌/◌, ◌%◌, ltb, ℤ, pos, negsuc}
use Rattle.text.specs.Bytes.{bytes}

-- the digit that stands for n below 10
abbrev pub digit_of : ℕ → ℕ
digit_of n = 48 + n % 10

-- the digits of n / 10, then the last digit; a number below 10 is its digit. n turns are enough for n.
unfoldable pub digits : ℕ → ℕ → List ℕ
digits zero n = digit_of n ∷ []
digits (suc turns) n = cond (ltb n 10) (digit_of n ∷ []) (digits turns (n / 10) ++ (digit_of n ∷ []))

abbrev pub decimal : ℕ → List ℕ
decimal n = digits n n

abbrev pub decimal_signed : ℤ → List ℕ
decimal_signed (pos n) = decimal n
decimal_signed (negsuc n) = bytes "-" ++ decimal (suc n)
