-- What is printed of a number is how the readers have it written: a numeral, so no zero leads. No other numeral writes the number.
-- Assumes nothing.
use mathlib.Core.Path.{◌≡◌, sym, ap, subst, ◌∙◌}
use mathlib.Core.List.{List, [], ◌∷◌, ◌++◌}
use Prim.Native.Nat.{ℕ, zero, suc, ◌+◌, ◌*◌, ◌/◌, ◌%◌, ◌≤◌, ◌<◌}
use native.Mathlib.Omega.{arith}
use native.Mathlib.Decide.{dec_lt}
use Rattle.text.specs.Numeral.{Numeral, digit, longer}
use Rattle.printing.specs.Decimal.{digit_of, decimal}
use Rattle.printing.proofs.Decimal.{decimal_one, decimal_more}

last_digit : (n : ℕ) → n % 10 ≤ 9
last_digit n = omega arith

one_digit : (n : ℕ) → n < 10 → Numeral (decimal n) n
one_digit n s =
    let e : n % 10 ≡ n = omega arith in
    rw (decimal_one n s) (subst (Numeral (digit_of n ∷ [])) e (digit (last_digit n)))

more_digits : (n : ℕ) → 10 ≤ n → Numeral (decimal (n / 10)) (n / 10) → Numeral (decimal n) n
more_digits n s t =
    let e : n / 10 * 10 + n % 10 ≡ n = omega arith in
    rw (decimal_more n s) (subst (Numeral (decimal (n / 10) ++ (digit_of n ∷ []))) e (longer t (omega arith) (last_digit n)))

-- by the number's size: f bounds it
sized : (f n : ℕ) → n ≤ f → Numeral (decimal n) n
sized zero n h = one_digit n (omega arith)
sized (suc f) n h = elim (dec_lt n 10) [ yes s ↦ one_digit n s | no s ↦ more_digits n (omega arith) (sized f (n / 10) (omega arith)) ]

pub decimal_numeral : (n : ℕ) → Numeral (decimal n) n
decimal_numeral n = sized n n (omega arith)

-- a number has one numeral
pub numeral_decimal : {w : List ℕ} {v : ℕ} → Numeral w v → w ≡ decimal v
numeral_decimal (digit {d} h) =
    let e : d % 10 ≡ d = omega arith in
    sym (decimal_one d (omega arith) ∙ ap (λ (n : ℕ). (48 + n) ∷ []) e)
numeral_decimal (longer {w} {v} {d} n p h) =
    let q : (v * 10 + d) / 10 ≡ v = omega arith in
    let r : (v * 10 + d) % 10 ≡ d = omega arith in
    rw (decimal_more (v * 10 + d) (omega arith), q, r) (ap (λ (l : List ℕ). l ++ ((48 + d) ∷ [])) (numeral_decimal n))
