-- A number field is read exactly where a numeral stands: the maximal run of digits without a leading zero is a numeral, and a numeral that no digit follows is that run.
-- Assumes nothing.
use mathlib.Core.Path.{◌≡◌, refl, sym, ap, ◌∙◌}
use mathlib.Core.List.{List, [], ◌∷◌, ◌++◌, append_assoc, append-nil}
use mathlib.Core.Bool.{Bool, true, false, cond, ◌&&◌}
use Prim.Native.Nat.{ℕ, ◌+◌, ◌-◌, ◌*◌, ◌^◌, ◌≤◌, ◌<◌}
use native.Mathlib.Nat.{zero-add, add-zero, pow-suc, pow-le-pow_right}
use native.Mathlib.Numerals.{add-one}
use native.Mathlib.Omega.{arith}
use lib.ListN.{length, get_or, drop, length-append, length-drop, get_or-append}
use lib.Seq.{drop-drop, get_or-drop}
use lib.Dec.{leb, ltb, eqb}
use borrow.Author.Tests.{leb-true, leb-false, le-leb, ltb-false, le-ltb, eqb-true, eqb-false, eq-eqb, ne_eqb, not-true}
use Rattle.text.specs.Number.{is_digit, digits, value, is_numeral, in_form, number_at}
use Rattle.text.specs.Numeral.{Numeral, digit, longer}
use Rattle.text.specs.declared.Field.TheVariants.{Number, Bad}
use Rattle.text.proofs.Tests.{both, never, by_test, false_true, above_zero}
use Rattle.text.proofs.Places.{Between}
use Rattle.text.proofs.Digits.{digit_range, run_over}

-- ---- digits

digit_is : (d : ℕ) → d ≤ 9 → is_digit (48 + d) ≡ true
digit_is d h = rw (le-leb 48 (48 + d) (omega arith), le-leb (48 + d) 57 (omega arith))

digits_split : (l : List ℕ) → l ≡ digits l ++ drop (length (digits l)) l
unfolding digits
digits_split [] = refl
digits_split (b ∷ l) = by_test (is_digit b) (λ e. rw (e, ← digits_split l)) (λ e. rw e)

digits_again : (l : List ℕ) → digits (digits l) ≡ digits l
unfolding digits
digits_again [] = refl
digits_again (b ∷ l) = by_test (is_digit b) (λ e. rw (e, e, digits_again l)) (λ e. rw e)

value_append : (v : ℕ) (w ds : List ℕ) → value v (w ++ ds) ≡ value (value v w) ds
unfolding value
value_append v [] ds = refl
value_append v (b ∷ w) ds = value_append (v * 10 + (b - 48)) w ds

-- the head of digits is one, and the rest are
all_digits : (b : ℕ) (ds : List ℕ) → digits (b ∷ ds) ≡ b ∷ ds → (is_digit b ≡ true) × (digits ds ≡ ds)
unfolding digits
all_digits b ds h = by_test (is_digit b) (λ e. (e, tail (rw e at h))) (λ e. absurd (empty (rw e at h)))
  where
    tail : b ∷ digits ds ≡ b ∷ ds → digits ds ≡ ds
    tail g = cc

    empty : ◌≡◌ {A = List ℕ} [] (b ∷ ds) → ⊥
    empty g = let z : ◌≡◌ {A = ℕ} 0 1 = cc in omega arith

-- ---- a run without a leading zero is a numeral

grow : {w : List ℕ} {v : ℕ} (ds : List ℕ) → Numeral w v → 0 < v → digits ds ≡ ds → Numeral (w ++ ds) (value v ds)
unfolding value
grow {w = w} {v} [] n p h = rw append-nil n
grow {w = w} {v} (b ∷ ds) n p h =
    let a = all_digits b ds h in
    let r = digit_range b a.0 in
    let e : 48 + (b - 48) ≡ b = omega arith in
    let m : Numeral (w ++ (b ∷ [])) (v * 10 + (b - 48)) = rw e at (longer {d = b - 48} n p (omega arith)) in
    rw append_assoc at (grow {w = w ++ (b ∷ [])} ds m (omega arith) a.1)

run_numeral : (b : ℕ) (ds : List ℕ) → digits (b ∷ ds) ≡ b ∷ ds → eqb b 48 && ltb 1 (length (b ∷ ds)) ≡ false → Numeral (b ∷ ds) (value 0 (b ∷ ds))
unfolding value
run_numeral b ds h g =
    let a = all_digits b ds h in
    let r = digit_range b a.0 in
    let e : 48 + (b - 48) ≡ b = omega arith in
    let one : Numeral (b ∷ []) (b - 48) = rw e at (digit {d = b - 48} (omega arith)) in
    rw zero-add (by_test (eqb b 48) (λ z. alone ds a.1 (ltb-false _ _ (rw z at g)) one) (λ z. grow ds one (above r (ne z)) a.1))
  where
    alone : (ds : List ℕ) → digits ds ≡ ds → length (b ∷ ds) ≤ 1 → Numeral (b ∷ []) (b - 48) → Numeral (b ∷ ds) (value (b - 48) ds)
    alone [] h l n = n
    alone (c ∷ ds) h l n = absurd (omega arith)

    ne : eqb b 48 ≡ false → b ≡ 48 → ⊥
    ne z e = false_true (sym z ∙ eq-eqb b 48 e)

    above : (48 ≤ b) × (b ≤ 57) → (b ≡ 48 → ⊥) → 0 < b - 48
    above r f = omega arith

-- ---- a numeral is such a run

numeral_digits : {w : List ℕ} {v : ℕ} → Numeral w v → (r : List ℕ) → digits (w ++ r) ≡ w ++ digits r
unfolding digits
numeral_digits (digit {d} h) r = rw (digit_is d h)
numeral_digits (longer {w} {v} {d} n p h) r =
    let e : digits ((48 + d) ∷ r) ≡ (48 + d) ∷ digits r = rw (digit_is d h) in
    rw (append_assoc w ((48 + d) ∷ []) r, numeral_digits n ((48 + d) ∷ r), e, append_assoc w ((48 + d) ∷ []) (digits r))

pub numeral_value : {w : List ℕ} {v : ℕ} → Numeral w v → value 0 w ≡ v
unfolding value
numeral_value (digit {d} h) = omega arith
numeral_value (longer {w} {v} {d} n p h) = rw (value_append 0 w ((48 + d) ∷ []), numeral_value n) (omega arith)

-- a numeral begins with a digit
pub numeral_begins : {w : List ℕ} {v : ℕ} → Numeral w v → (0 < length w) × (is_digit (get_or w 0 0) ≡ true)
numeral_begins (digit {d} h) = (omega arith, digit_is d h)
numeral_begins (longer {w} {v} {d} n p h) =
    let b = numeral_begins n in
    (rw length-append (omega arith), rw (get_or-append w ((48 + d) ∷ []) 0 0 b.0) b.1)

-- that of a number above 0 does not begin with 0, and it has at most one digit more than the power of ten in it
numeral_leads : {w : List ℕ} {v : ℕ} → Numeral w v → 0 < v → get_or w 0 0 ≡ 48 → ⊥
numeral_leads (digit {d} h) q e = omega arith
numeral_leads (longer {w} {v} {d} n p h) q e = numeral_leads n p (rw (get_or-append w ((48 + d) ∷ []) 0 0 (numeral_begins n).0) at e)

numeral_size : {w : List ℕ} {v : ℕ} → Numeral w v → 0 < v → 10 ^ length w ≤ v * 10
numeral_size (digit {d} h) q = omega arith
numeral_size (longer {w} {v} {d} n p h) q =
    let i : 10 ^ length w ≤ v * 10 = numeral_size n p in
    let e : 10 ^ (length w + 1) ≡ 10 ^ length w * 10 = rw add-one (pow-suc 10 (length w)) in
    rw (length-append, e) (omega arith)

-- the numeral of 0 is one digit
numeral_zero : {w : List ℕ} {v : ℕ} → Numeral w v → v ≡ 0 → length w ≡ 1
numeral_zero (digit h) e = refl
numeral_zero (longer n p h) e = absurd (omega arith)

-- a number of ten digits' range is written with at most ten digits
numeral_short : {w : List ℕ} {v : ℕ} → Numeral w v → v < 10 ^ 10 → length w ≤ 10
numeral_short {w} {v} n l = by_test (eqb v 0) (λ z. zeros (eqb-true v 0 z)) (λ z. size (above_zero v (eqb-false v 0 z)))
  where
    zeros : v ≡ 0 → length w ≤ 10
    zeros e = let k : length w ≡ 1 = numeral_zero n e in omega arith

    long : 10 ^ length w ≤ v * 10 → 10 < length w → ⊥
    long g h = let p : 10 ^ 11 ≤ 10 ^ length w = pow-le-pow_right {n = 10} (omega arith) h in omega arith

    size : 0 < v → length w ≤ 10
    size q = by_test (leb (length w) 10) (λ e. leb-true _ _ e) (λ e. absurd (long (numeral_size n q) (leb-false _ _ e)))

-- ---- the reader

-- a number that was read: within its bound, and its bytes are a numeral from `at` up to `n`
pub record Numbered (s : List ℕ) (at max v n : ℕ) : Type 0 where
  pub word : List ℕ
  pub numeral : Numeral word v
  pub between : Between s at n word
  pub bound : v ≤ max
  pub past : at < n

number_of : (t : Bool) (v next w n : ℕ) → cond t (Number v next) Bad ≡ Number w n → (t ≡ true) × (v ≡ w) × (next ≡ n)
number_of true v next w n h = (refl, cc, cc)
number_of false v next w n h = let z : ◌≡◌ {A = ℕ} 0 1 = cc in absurd (omega arith)

-- what the form asks of the run ds that stands at a place
run_of : (ds : List ℕ) (first max : ℕ) → digits ds ≡ ds → (0 < length ds → first ≡ get_or ds 0 0) → in_form first (length ds) (value 0 ds) max ≡ true
    → Numeral ds (value 0 ds) × (value 0 ds ≤ max) × (0 < length ds)
run_of [] first max h f g = absurd (false_true g)
run_of (b ∷ ds) first max h f g =
    let m = both (is_numeral first (length (b ∷ ds))) _ g in
    let k = both (leb 1 (length (b ∷ ds))) _ m.0 in
    let l = both (leb (length (b ∷ ds)) 10) _ k.1 in
    let e : first ≡ b = f (omega arith) in
    (run_numeral b ds h (rw e at (not-true (eqb first 48 && ltb 1 (length (b ∷ ds))) l.1)), leb-true _ max m.1, omega arith)

-- the first byte of what stands at a place
head_at : (s : List ℕ) (at : ℕ) (w r : List ℕ) → drop at s ≡ w ++ r → 0 < length w → get_or w 0 0 ≡ get_or s at 0
head_at s at w r e p =
    let a : get_or (drop at s) 0 0 ≡ get_or s at 0 = rw (get_or-drop at s 0 0, add-zero at) in
    sym (get_or-append w r 0 0 p) ∙ (sym (ap (λ (l : List ℕ). get_or l 0 0) e) ∙ a)

-- sound: a number that is read stands there as a numeral
pub number_is : (s : List ℕ) (at max v n : ℕ) → number_at s at max ≡ Number v n → Numbered s at max v n
unfolding number_at
number_is s at max v n h =
    let a = number_of _ _ _ v n h in
    let r = run_of (digits (drop at s)) (get_or s at 0) max (digits_again (drop at s)) (λ p. sym (first p)) a.0 in
    let l : length (digits (drop at s)) ≤ length s - at = rw length-drop at (run_inside (drop at s)) in
    let e : at + length (digits (drop at s)) ≡ n = a.2 in
    record {
      word = digits (drop at s);
      numeral = rw (← a.1) r.0;
      between = record {
        bytes = rw (← e, ← drop-drop (length (digits (drop at s))) at s) (digits_split (drop at s));
        end = sym e;
        inside = let p = r.2 in omega arith;
      };
      bound = rw (← a.1) r.1;
      past = let p = r.2 in omega arith;
    }
  where
    run_inside : (l : List ℕ) → length (digits l) ≤ length l
    run_inside l = let e : length l ≡ length (digits l) + length (drop (length (digits l)) l) = ap length (digits_split l) ∙ length-append (digits l) (drop (length (digits l)) l) in omega arith

    first : 0 < length (digits (drop at s)) → get_or (digits (drop at s)) 0 0 ≡ get_or s at 0
    first p = head_at s at (digits (drop at s)) _ (digits_split (drop at s)) p

-- complete: a numeral within the bound that no digit follows is read
pub number_made : (s : List ℕ) (at max v : ℕ) (w r : List ℕ) → drop at s ≡ w ++ r → Numeral w v → v ≤ max → max < 10 ^ 10 → is_digit (get_or r 0 0) ≡ false
    → number_at s at max ≡ Number v (at + length w)
unfolding number_at
number_made s at max v w r e n l m f =
    let b = numeral_begins n in
    let o : digits r ≡ [] = run_over r 0 f in
    let d : digits (drop at s) ≡ w = rw (e, numeral_digits n r, o) (append-nil w) in
    let k : in_form (get_or s at 0) (length w) v max ≡ true =
    rw (← head_at s at w r e b.0, le-leb 1 (length w) b.0, le-leb (length w) 10 (numeral_short n (omega arith)), unpadded, le-leb v max l) in
    rw (d, numeral_value n, k)
  where
    unpadded : eqb (get_or w 0 0) 48 && ltb 1 (length w) ≡ false
    unpadded =
        by_test (eqb v 0)
        (λ z. rw (le-ltb 1 (length w) (let k : length w ≡ 1 = numeral_zero n (eqb-true v 0 z) in omega arith)) (never (eqb (get_or w 0 0) 48)))
        (λ z. rw (ne_eqb (get_or w 0 0) 48 (numeral_leads n (above_zero v (eqb-false v 0 z)))))
