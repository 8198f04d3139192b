-- A line of 64-bit numbers has at most `LINE` bytes: each key its own, each number twenty digits and a sign. A number of two digits in front makes it at most `NUMBERED`.
-- Assumes nothing.
use mathlib.Core.Path.{◌≡◌, refl, ap}
use mathlib.Core.List.{List, [], ◌∷◌, ◌++◌}
use Prim.Native.Nat.{ℕ, zero, suc, ◌+◌, ◌/◌, ◌≤◌, ◌<◌}
use Prim.Native.String.{String}
use native.Mathlib.Omega.{arith}
use native.Mathlib.Decide.{dec_lt}
use lib.ListN.{length, length-append}
use lib.IntN.{ℤ}
use mir.Syntax.{w64}
use mir.Val.{SFits, Fits}
use Rattle.recordings.specs.declared.Verdict.{Verdict}
use Rattle.recordings.specs.declared.Verdict.TheVariants.{Holds, Fails, NotShown}
use Rattle.text.specs.Bytes.{bytes}
use Rattle.printing.specs.Decimal.{digit_of, decimal, decimal_signed}
use Rattle.printing.proofs.Decimal.{decimal_one, decimal_more}
use Rattle.printing.proofs.Lengths.{decimal_few, signed_few}
use Rattle.outcomes.specs.declared.Outcome.{Outcome}
use Rattle.outcome_lines.specs.Printed.{LINE, NUMBERED, word_of, field, figures_line, refusal_line, line_by, line_of, numbered_line}

-- at most n bytes
record Few (bs : List ℕ) (n : ℕ) : Type 0 where
  few : length bs ≤ n

joined : {a b : List ℕ} {m n : ℕ} → Few a m → Few b n → Few (a ++ b) (m + n)
joined {a} {b} h k = record { few = omega (arith, length-append a b, h.few, k.few) }

says : (w : List ℕ) → Few w (length w)
says w = record { few = omega arith }

digits : (n : ℕ) → Fits w64 n → Few (decimal n) 20
digits n f = record { few = decimal_few n f }

signs : (v : ℤ) → SFits w64 v → Few (decimal_signed v) 21
signs v f = record { few = signed_few v f }

word : (v : Verdict) → Few (word_of v) 7
word Holds = record { few = omega arith }
word Fails = record { few = omega arith }
word NotShown = record { few = omega arith }

-- a key and what it says
said : (key : String) {value : List ℕ} {n : ℕ} → Few value n → Few (field key value) (length (bytes key) + n)
said key h = joined (says (bytes key)) h

module _ (rows filled : ℕ) (margin hold fail : ℤ) (verdict : Verdict) where
  pub figures_few : Fits w64 rows → Fits w64 filled → SFits w64 margin → SFits w64 hold → SFits w64 fail → length (figures_line rows filled margin hold fail verdict) ≤ LINE
  figures_few r f m h l =
      let s = joined (joined (joined (joined (joined (joined (said "rows=" (digits rows r)) (said " filled=" (digits filled f))) (said " margin=" (signs margin m))) (said " hold=" (signs hold h))) (said " fail=" (signs fail l))) (said " verdict=" (word verdict))) (says (bytes "\n")) in
      omega (arith, s.few)

pub refusal_few : (n : ℕ) → Fits w64 n → length (refusal_line n) ≤ LINE
refusal_few n f = let s = joined (said "refused=" (digits n f)) (says (bytes "\n")) in omega (arith, s.few)

-- a number below sixteen in front
two : (k : ℕ) → k < 16 → Few (decimal k) 2
two k h = record {
  few = elim (dec_lt k 10) [
    | yes s ↦ omega (arith, ap length (decimal_one k s))
    | no s ↦ omega (arith, ap length (decimal_more k (omega arith)), length-append (decimal (k / 10)) (digit_of k ∷ []), ap length (decimal_one (k / 10) (omega arith)))
  ];
}

pub numbered_few : (k : ℕ) (x : Outcome) → k < 16 → length (line_of x) ≤ LINE → length (numbered_line k x) ≤ NUMBERED
numbered_few k x h l =
    let n : Few (line_of x) LINE = record { few = l } in
    let s = joined (joined (said "req=" (two k h)) (says (bytes " "))) n in
    omega (arith, s.few)

-- ---- by the outcome's number
pub line_refused : (o : Outcome) → (o.number ≡ 0 → ⊥) → refusal_line o.number ≡ line_of o
unfolding line_of
line_refused o h = go o.number h
  where
    go : (n : ℕ) → (n ≡ 0 → ⊥) → refusal_line n ≡ line_by n o
    go zero h = absurd (h refl)
    go (suc n) h = refl

pub line_judged : (o : Outcome) → o.number ≡ 0 → figures_line o.rows o.filled o.margin o.hold o.fail o.verdict ≡ line_of o
unfolding line_of
line_judged o h = rw h refl
