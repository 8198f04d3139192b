-- The digits that a text begins with, and what they are worth: their value grows digit by digit, and stays below a power of ten.
-- Assumes nothing.
use mathlib.Core.Path.{◌≡◌, refl, sym, ap, ◌∙◌}
use mathlib.Core.List.{List, [], ◌∷◌}
use mathlib.Core.Bool.{Bool, true, false, cond}
use Prim.Native.Nat.{ℕ, zero, suc, ◌+◌, ◌-◌, ◌*◌, ◌^◌, ◌≤◌, ◌<◌}
use native.Mathlib.Nat.{add-zero, pow-suc}
use native.Mathlib.Numerals.{add-one}
use native.Mathlib.Omega.{arith}
use lib.ListN.{length, get_or, take, drop}
use lib.Seq.{take_all, get_or-drop}
use lib.Dec.{leb}
use borrow.Author.Tests.{leb-true, lt-leb}
use Rattle.std.specs.List.{fold, prefix_len, take_while}
use Rattle.std.proofs.lemmas.List.{length-take, length-take-le}
use Rattle.std.proofs.lemmas.List.Sums.{fold_more, take_while-cons}
use Rattle.text.specs.Number.{is_digit, digits, value, is_numeral, number_at}
use Rattle.text.specs.declared.Field.TheVariants.{Number, Bad}
use Rattle.text.proofs.Tests.{both, never, by_test, by_le}

-- a digit is 48 to 57
pub digit_range : (b : ℕ) → is_digit b ≡ true → (48 ≤ b) × (b ≤ 57)
digit_range b h = let t = both (leb 48 b) (leb b 57) h in (leb-true 48 b t.0, leb-true b 57 t.1)

-- each of the digits that a text begins with is one
digits_each : (l : List ℕ) (i : ℕ) → i < length (digits l) → is_digit (get_or (digits l) i 0) ≡ true
unfolding digits
digits_each [] i h = absurd (omega arith)
digits_each (b ∷ l) i h = go (is_digit b) refl i h (digits_each l)
  where
    go : (t : Bool) → is_digit b ≡ t → (i : ℕ) → i < length (cond t (b ∷ digits l) []) → ((j : ℕ) → j < length (digits l) → is_digit (get_or (digits l) j 0) ≡ true)
        → is_digit (get_or (cond t (b ∷ digits l) []) i 0) ≡ true
    go true e zero h rest = e
    go true e (suc i) h rest = rest i (omega arith)
    go false e i h rest = absurd (omega arith)

pub digit_at : (l : List ℕ) (i : ℕ) → i < length (digits l) → (48 ≤ get_or (digits l) i 0) × (get_or (digits l) i 0 ≤ 57)
digit_at l i h = digit_range (get_or (digits l) i 0) (digits_each l i h)

-- they are the first bytes, as many as are digits one after the other
pub digits_first : (l : List ℕ) → take_while is_digit l ≡ digits l
unfolding digits
digits_first [] = refl
digits_first (b ∷ l) = rw (take_while-cons is_digit b l) (by_test (is_digit b) (λ e. rw (e, digits_first l)) (λ e. rw e))

pub digits_few : (l : List ℕ) → length (digits l) ≤ length l
digits_few l = omega (arith, ap length (digits_first l), length-take (prefix_len is_digit l) l)

-- where no digit stands, there is none
pub run_over : (s : List ℕ) (i : ℕ) → is_digit (get_or s i 0) ≡ false → digits (drop i s) ≡ []
unfolding digits
run_over [] zero h = refl
run_over [] (suc i) h = refl
run_over (b ∷ s) zero h = rw h
run_over (b ∷ s) (suc i) h = run_over s i h

-- the digits among the first bytes are the first of the digits
digits_within : (n : ℕ) (l : List ℕ) → digits (take n l) ≡ take n (digits l)
unfolding digits
digits_within zero l = refl
digits_within (suc n) [] = refl
digits_within (suc n) (b ∷ l) = by_test (is_digit b) (λ e. rw (e, digits_within n l)) (λ e. rw e)

-- ---- what digits are worth

abbrev more : ℕ → ℕ → ℕ
more v b = v * 10 + (b - 48)

value_fold : (v : ℕ) (ds : List ℕ) → fold more v ds ≡ value v ds
unfolding value
value_fold v [] = refl
value_fold v (b ∷ ds) = value_fold (more v b) ds

-- the first i of some digits are read, and v is their value
pub record Run (ds : List ℕ) (i v : ℕ) : Type 0 where
  pub worth : fold more 0 (take i ds) ≡ v
  pub small : v < 10 ^ i

pub run_step : (ds : List ℕ) (i v : ℕ) → Run ds i v → i < length ds → (48 ≤ get_or ds i 0) × (get_or ds i 0 ≤ 57) → Run ds (i + 1) (v * 10 + (get_or ds i 0 - 48))
run_step ds i v r l d =
    record {
      worth = fold_more more 0 ds i 0 l ∙ ap (λ (x : ℕ). more x (get_or ds i 0)) r.worth;
      small = rw (add-one, pow-suc) (omega (arith, r.small));
    }

-- ---- the number that they are

-- the first of them is the first byte
first_digit : (l : List ℕ) (first : ℕ) → get_or l 0 0 ≡ first → is_numeral (get_or (digits l) 0 0) (length (digits l)) ≡ is_numeral first (length (digits l))
unfolding digits
first_digit [] first e = refl
first_digit (b ∷ l) first e = by_test (is_digit b) (λ t. rw (t, ← e)) (λ t. rw t)

-- sixty-four bytes tell whether the digits are a number, since more than ten digits are none
pub numeral_seen : (l : List ℕ) → is_numeral (get_or (digits (take 64 l)) 0 0) (length (digits (take 64 l))) ≡ is_numeral (get_or (digits l) 0 0) (length (digits l))
numeral_seen l =
    by_le (length (digits l)) 64 (λ h. rw (digits_within 64 l, take_all 64 (digits l) h))
    (λ h.
    let m : 64 ≤ length (digits l) = omega arith in
    let many : leb (length (digits l)) 10 ≡ false = lt-leb (length (digits l)) 10 (omega arith) in
    rw (digits_within 64 l, length-take-le 64 (digits l) m, many, never (leb 1 (length (digits l)))))

-- and where they are one, all of them are among them
pub digits_seen : (l : List ℕ) → is_numeral (get_or (digits (take 64 l)) 0 0) (length (digits (take 64 l))) ≡ true → digits (take 64 l) ≡ digits l
digits_seen l h =
    let e = digits_within 64 l in
    let c = both (leb 1 (length (digits (take 64 l)))) _ h in
    let d = leb-true (length (digits (take 64 l))) 10 (both (leb (length (digits (take 64 l))) 10) _ c.1).0 in
    e ∙ take_all 64 (digits l) (omega (arith, length-take 64 (digits l), ap length e))

numeral_head : (s : List ℕ) (at : ℕ) → is_numeral (get_or (digits (drop at s)) 0 0) (length (digits (drop at s))) ≡ is_numeral (get_or s at 0) (length (digits (drop at s)))
numeral_head s at = first_digit (drop at s) (get_or s at 0) (rw (get_or-drop at s 0 0, add-zero at))

module _ (s : List ℕ) (at max : ℕ) where
  pub run_bad : is_numeral (get_or (digits (drop at s)) 0 0) (length (digits (drop at s))) ≡ false → Bad ≡ number_at s at max
  unfolding number_at
  run_bad h = rw (sym (numeral_head s at) ∙ h)

  -- all of them are read, and the test t of their value decides
  pub run_done : is_numeral (get_or (digits (drop at s)) 0 0) (length (digits (drop at s))) ≡ true → (v : ℕ) → Run (digits (drop at s)) (length (digits (drop at s))) v
      → (t : Bool) → leb v max ≡ t → cond t (Number v (at + length (digits (drop at s)))) Bad ≡ number_at s at max
  unfolding number_at
  run_done h v r t g =
      let w : v ≡ value 0 (digits (drop at s)) =
      sym r.worth ∙ (ap (λ (x : List ℕ). fold more 0 x) (take_all (length (digits (drop at s))) (digits (drop at s)) (omega arith)) ∙ value_fold 0 (digits (drop at s))) in
      rw (sym (numeral_head s at) ∙ h, ← w, g)
