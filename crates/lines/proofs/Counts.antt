-- How often a byte stands in a text. A number has digits alone, and perhaps a `-`.
-- Assumes nothing.
use mathlib.Core.Path.{◌≡◌, sym, ◌∙◌}
use mathlib.Core.List.{List, [], ◌∷◌, ◌++◌}
use mathlib.Core.Bool.{false, cond}
use Prim.Native.Nat.{ℕ, ◌+◌, ◌≤◌}
use native.Mathlib.Nat.{zero-add}
use native.Mathlib.Omega.{arith}
use lib.IntN.{ℤ}
use lib.Dec.{eqb}
use borrow.Author.Tests.{ne_eqb}
use Rattle.text.specs.Number.{is_digit}
use Rattle.text.specs.Numeral.{Numeral, digit, longer, Signed, plain, minus}
use Rattle.text.proofs.Tests.{false_true}
use Rattle.text.proofs.Numerals.{numeral_begins}

-- how often a byte stands in a text
unfoldable pub count : ℕ → List ℕ → ℕ
count b [] = 0
count b (x ∷ s) = cond (eqb x b) 1 0 + count b s

pub count_append : (b : ℕ) (v w : List ℕ) → count b (v ++ w) ≡ count b v + count b w
unfolding count
count_append b [] w = sym (zero-add (count b w))
count_append b (x ∷ v) w = let h : count b (v ++ w) ≡ count b v + count b w = count_append b v w in omega arith

-- ---- bytes that are no digit and no `-` stand in no number
module _ (b : ℕ) (no_digit : is_digit b ≡ false) where
  other : (d : ℕ) → d ≤ 9 → eqb (48 + d) b ≡ false
  other d h = ne_eqb (48 + d) b (λ e. false_true (sym no_digit ∙ (rw e at (numeral_begins (digit {d = d} h)).1)))

  pub numeral_count : {w : List ℕ} {v : ℕ} → Numeral w v → count b w ≡ 0
  unfolding count
  numeral_count (digit {d} h) = rw (other d h)
  numeral_count (longer {w} {v} {d} n p h) = rw (count_append b w ((48 + d) ∷ []), other d h, numeral_count n)

  module _ (no_minus : eqb 45 b ≡ false) where
    pub signed_count : {w : List ℕ} {v : ℤ} → Signed w v → count b w ≡ 0
    unfolding count
    signed_count (plain n l) = numeral_count n
    signed_count (minus n p l) = rw (no_minus, numeral_count n)
