-- A mark, a number and a signed number are read exactly where their bytes stand: what a reader above takes out of an answer, and how it is led to one.
-- Assumes nothing.
use mathlib.Core.Path.{◌≡◌, refl, sym, ap, ◌∙◌}
use mathlib.Core.List.{List, [], ◌++◌}
use mathlib.Core.Bool.{false}
use Prim.Native.Nat.{ℕ, ◌+◌, ◌^◌, ◌≤◌, ◌<◌}
use native.Mathlib.Omega.{arith}
use lib.ListN.{length, get_or, drop, get_or-append}
use lib.IntN.{ℤ}
use lib.Dec.{eqb}
use borrow.Author.Tests.{ne_eqb, eqb-false}
use Rattle.text.specs.Bytes.{bytes}
use Rattle.text.specs.Mark.{mark_at, after}
use Rattle.text.specs.Number.{is_digit, largest_signed, number_at, field_at, signed_at, signed_field_at, after_number}
use Rattle.text.specs.Numeral.{Numeral, Signed, plain, minus}
use Rattle.std.specs.Prelude.{Option, Some, None}
use Rattle.text.specs.declared.Field.{Field}
use Rattle.text.specs.declared.Field.TheVariants.{Number, Bad}
use Rattle.text.proofs.Tests.{false_true, test_case, above_zero}
use Rattle.text.proofs.Places.{Between, between_both, after_bytes}
use Rattle.text.proofs.Numerals.{number_is, number_made, numeral_begins}
use Rattle.text.proofs.Answers.{mark_is, mark_made, mark_first, field_made}

-- ---- what holds of an answer, by its cases
module _ {A : Type 0} (P : A → Type 0) where
  pub after_case : {B : Type 0} (x : Option B) (f : B → A) (a : A) → ((y : B) → x ≡ Some y → P (f y)) → (x ≡ None → P a) → P (after x f a)
  after_case (Some y) f a h k = h y refl
  after_case None f a h k = k refl

  pub number_case : {V : Type 0} (x : Field V) (f : V → ℕ → A) (a : A) → ((v : V) (n : ℕ) → x ≡ Number v n → P (f v n)) → (x ≡ Bad → P a) → P (after_number x f a)
  number_case (Number v n) f a h k = h v n refl
  number_case Bad f a h k = k refl

-- ---- a signed number that is read stands there
abbrev SignedHere : List ℕ → ℕ → Field ℤ → Type 0
SignedHere s at (Number v n) = (w : List ℕ) × Between s at n w × Signed w v
SignedHere s at Bad = Unit

signed_here : (s : List ℕ) (at : ℕ) → SignedHere s at (signed_at s at)
unfolding signed_at
signed_here s at =
    after_case (SignedHere s at) (mark_at (bytes "-") s at) _ _
    (λ d e. number_case (SignedHere s at) (number_at s d largest_signed) _ _
    (λ v n f. test_case (SignedHere s at) (eqb v 0) _ _ (λ z. tt)
    (λ z. let a = number_is s d largest_signed v n f in
    (bytes "-" ++ a.word, between_both (mark_is (bytes "-") s at d e) a.between, minus a.numeral (above_zero v (eqb-false v 0 z)) a.bound)))
    (λ f. tt))
    (λ e. number_case (SignedHere s at) (number_at s at largest_signed) _ _
    (λ v n f. let a = number_is s at largest_signed v n f in (a.word, a.between, plain a.numeral a.bound))
    (λ f. tt))

pub signed_bytes : (s : List ℕ) (at : ℕ) (v : ℤ) (n : ℕ) → signed_at s at ≡ Number v n → (w : List ℕ) × Between s at n w × Signed w v
signed_bytes s at v n h = rw h at (signed_here s at)

pub signed_field_bytes : (key s : List ℕ) (at : ℕ) (v : ℤ) (n : ℕ) → signed_field_at key s at ≡ Number v n
    → (w : List ℕ) × Between s at n (key ++ w) × Signed w v
unfolding signed_field_at
signed_field_bytes key s at v n h = go (mark_at key s at) refl h
  where
    go : (m : Option ℕ) → mark_at key s at ≡ m → after m (λ k. signed_at s k) Bad ≡ Number v n → (w : List ℕ) × Between s at n (key ++ w) × Signed w v
    go (Some m) e g = let b = signed_bytes s m v n g in (b.0, between_both (mark_is key s at m e) b.1, b.2)
    go None e g = let z : ◌≡◌ {A = ℕ} 0 1 = cc in absurd (omega arith)

-- ---- what stands at a place is read, and the rest follows it
module _ (s : List ℕ) (at : ℕ) (r : List ℕ) where
  pub mark_taken : (key : List ℕ) → 0 < length key → drop at s ≡ key ++ r → (n : ℕ) × (mark_at key s at ≡ Some n) × (drop n s ≡ r)
  mark_taken key p e = (at + length key, mark_made key s r at p e, after_bytes s at key r e)

  module _ (stop : is_digit (get_or r 0 0) ≡ false) where
    pub number_taken : (max : ℕ) {v : ℕ} {w : List ℕ} → drop at s ≡ w ++ r → Numeral w v → v ≤ max → max < 10 ^ 10
        → (n : ℕ) × (number_at s at max ≡ Number v n) × (drop n s ≡ r)
    number_taken max {v} {w} e m l b = (at + length w, number_made s at max v w r e m l b stop, after_bytes s at w r e)

pub field_taken : (s : List ℕ) (at : ℕ) (r : List ℕ) → is_digit (get_or r 0 0) ≡ false → (key : List ℕ) → 0 < length key
    → (max : ℕ) {v : ℕ} {w : List ℕ} → drop at s ≡ key ++ (w ++ r) → Numeral w v → v ≤ max → max < 10 ^ 10
    → (n : ℕ) × (field_at key s at max ≡ Number v n) × (drop n s ≡ r)
field_taken s at r stop key p max {v} {w} e m l b =
    (at + length key + length w, field_made key s at max v w r p e m l b stop, after_bytes s (at + length key) w r (after_bytes s at key (w ++ r) e))

-- a number begins with no other byte than a digit, or `-` where it has a sign
numeral_first : (c : ℕ) → is_digit c ≡ false → {w : List ℕ} {v : ℕ} (r : List ℕ) → Numeral w v → eqb (get_or (w ++ r) 0 0) c ≡ false
numeral_first c n {w} r m =
    let b = numeral_begins m in
    ne_eqb (get_or (w ++ r) 0 0) c
    (λ (e : get_or (w ++ r) 0 0 ≡ c). false_true (sym n ∙ (ap is_digit (sym e) ∙ (ap is_digit (get_or-append w r 0 0 b.0) ∙ b.1))))

pub signed_first : (c : ℕ) → is_digit c ≡ false → eqb 45 c ≡ false → {w : List ℕ} {v : ℤ} (r : List ℕ) → Signed w v → eqb (get_or (w ++ r) 0 0) c ≡ false
signed_first c n d r (plain m l) = numeral_first c n r m
signed_first c n d r (minus m p l) = d

pub signed_taken : (s : List ℕ) (at : ℕ) (r : List ℕ) → is_digit (get_or r 0 0) ≡ false → {w : List ℕ} {v : ℤ} → drop at s ≡ w ++ r → Signed w v
    → (n : ℕ) × (signed_at s at ≡ Number v n) × (drop n s ≡ r)
unfolding signed_at
signed_taken s at r stop e (plain {w} {v} m l) =
    let n = number_taken s at r stop largest_signed e m l (omega arith) in
    (n.0, rw (mark_first 45 [] s at (w ++ r) e (numeral_first 45 refl r m), n.1), n.2)
signed_taken s at r stop e (minus {w} {v} m p l) =
    let k = mark_taken s at (w ++ r) (bytes "-") (omega arith) e in
    let n = number_taken s k.0 r stop largest_signed k.2 m l (omega arith) in
    (n.0, rw (k.1, n.1, ne_eqb v 0 (λ (z : v ≡ 0). omega arith)), n.2)

pub signed_field_taken : (s : List ℕ) (at : ℕ) (r : List ℕ) → is_digit (get_or r 0 0) ≡ false → (key : List ℕ) → 0 < length key
    → {w : List ℕ} {v : ℤ} → drop at s ≡ key ++ (w ++ r) → Signed w v
    → (n : ℕ) × (signed_field_at key s at ≡ Number v n) × (drop n s ≡ r)
unfolding signed_field_at
signed_field_taken s at r stop key p {w} {v} e m =
    let k = mark_taken s at (w ++ r) key p e in
    let n = signed_taken s k.0 r stop k.2 m in
    (n.0, rw k.1 n.1, n.2)
