-- Bytes printed one after the other are the bytes printed together. Where the slice has room for them they stand in it from the place on, and it holds all else as before.
-- Assumes nothing.
use mathlib.Core.Path.{◌≡◌, refl, sym, ap, subst, ◌∙◌}
use mathlib.Core.List.{List, [], ◌∷◌, ◌++◌}
use Prim.Native.Nat.{ℕ, suc, ◌+◌, ◌≤◌, ◌<◌}
use native.Mathlib.Omega.{arith}
use native.Mathlib.Decide.{dec_lt}
use native.Mathlib.Numerals.{add-one}
use lib.Seq.{sets, sets-eq, take-suc, take-append_seam}
use lib.ListN.{length, set, take, drop, get_or, replicate, length-set, length-replicate}
use borrow.Author.Tests.{lt-ltb, le-ltb}
use Rattle.printing.specs.Output.{Output, blank, one_more, printed}

pub printed_append : (o : Output) (a b : List ℕ) → printed o (a ++ b) ≡ printed (printed o a) b
unfolding printed
printed_append o [] b = refl
printed_append o (x ∷ a) b = printed_append (one_more o x) a b

-- so each word is put in front of what is printed after it
pub printed_then : (o : Output) (a b : List ℕ) {m n : Output} → m ≡ printed o a → n ≡ printed m b → n ≡ printed o (a ++ b)
printed_then o a b e f = f ∙ (ap (λ (x : Output). printed x b) e ∙ sym (printed_append o a b))

pub printed_none : (o : Output) → o ≡ printed o []
unfolding printed
printed_none o = refl

-- one byte, where there is room and where there is none
pub printed_room : (o : Output) (b : ℕ) → o.end < length o.bytes → record { bytes = set o.bytes o.end b; end = o.end + 1 } ≡ printed o (b ∷ [])
unfolding printed
printed_room o b h = rw (lt-ltb o.end (length o.bytes) h)

pub printed_full : (o : Output) (b : ℕ) → length o.bytes ≤ o.end → o ≡ printed o (b ∷ [])
unfolding printed
printed_full o b h = rw (le-ltb o.end (length o.bytes) h)

-- one byte more of a word
pub printed_next : (w : List ℕ) (i : ℕ) (o : Output) {m : Output} → i < length w → m ≡ printed o (take i w) → printed m (get_or w i 0 ∷ []) ≡ printed o (take (i + 1) w)
printed_next w i o {m} h e = rw (add-one i, take-suc w i 0 h, printed_append o (take i w) (get_or w i 0 ∷ []), e) refl

-- with room for all bytes, they stand from the place on
pub printed_whole : (o : Output) (bs : List ℕ) → o.end + length bs ≤ length o.bytes → printed o bs ≡ record { bytes = sets o.bytes o.end bs; end = o.end + length bs }
unfolding printed
printed_whole o [] h = let e : o.end ≡ o.end + 0 = omega arith in ap (λ (n : ℕ). record { bytes = o.bytes; end = n }) e
printed_whole o (b ∷ bs) h =
    let n : o.end + 1 ≡ suc o.end = add-one o.end in
    let e : o.end + 1 + length bs ≡ o.end + suc (length bs) = omega arith in
    printed_append o (b ∷ []) bs
    ∙ ap (λ (m : Output). printed m bs) (sym (printed_room o b (omega arith)))
    ∙ printed_whole (record { bytes = set o.bytes o.end b; end = o.end + 1 }) bs (rw length-set (omega arith))
    ∙ rw (e, n) refl

-- the slice keeps its length, and the place never leaves it
one_length : (o : Output) (b : ℕ) → length (printed o (b ∷ [])).bytes ≡ length o.bytes
one_length o b = elim (dec_lt o.end (length o.bytes)) [
  | yes r ↦ ap (λ (m : Output). length m.bytes) (sym (printed_room o b r)) ∙ length-set o.bytes o.end b
  | no r ↦ ap (λ (m : Output). length m.bytes) (sym (printed_full o b (omega arith)))
]

pub printed_length : (o : Output) (bs : List ℕ) → length (printed o bs).bytes ≡ length o.bytes
unfolding printed
printed_length o [] = refl
printed_length o (b ∷ bs) = printed_length (one_more o b) bs ∙ one_length o b

one_inside : (o : Output) (b : ℕ) → o.end ≤ length o.bytes → (printed o (b ∷ [])).end ≤ length (printed o (b ∷ [])).bytes
one_inside o b h = elim (dec_lt o.end (length o.bytes)) [
  | yes r ↦ subst (λ (m : Output). m.end ≤ length m.bytes) (printed_room o b r) (rw length-set (omega arith))
  | no r ↦ subst (λ (m : Output). m.end ≤ length m.bytes) (printed_full o b (omega arith)) h
]

pub printed_inside : (o : Output) (bs : List ℕ) → o.end ≤ length o.bytes → (printed o bs).end ≤ length (printed o bs).bytes
unfolding printed
printed_inside o [] h = h
printed_inside o (b ∷ bs) h = printed_inside (one_more o b) bs (one_inside o b h)

pub place_inside : (o : Output) (bs : List ℕ) {slice : List ℕ} {end : ℕ} → record { bytes = slice; end = end } ≡ printed o bs → o.end ≤ length o.bytes → end ≤ length slice
place_inside o bs e h = subst (λ (m : Output). m.end ≤ length m.bytes) (sym e) (printed_inside o bs h)

-- at the front of a slice with room for them, the bytes are what it begins with
pub front_says : (slice₀ bs : List ℕ) {slice : List ℕ} {end : ℕ} → record { bytes = slice; end = end } ≡ printed (record { bytes = slice₀; end = 0 }) bs → length bs ≤ length slice₀ → (end ≡ length bs) × (take end slice ≡ bs)
front_says slice₀ bs e h =
    let w = e ∙ printed_whole (record { bytes = slice₀; end = 0 }) bs (omega arith) in
    let z : 0 + length bs ≡ length bs = omega arith in
    let n = ap (λ (o : Output). o.end) w ∙ z in
    (n, rw (n, ap (λ (o : Output). o.bytes) w, sets-eq bs slice₀ 0 (omega arith), z) (take-append_seam bs (drop (length bs) slice₀)))

-- so what is printed into n places, where it fits, is what can be read of them
pub blank_says : (n : ℕ) (bs : List ℕ) {o : Output} → o ≡ printed (blank n) bs → length bs ≤ n → take o.end o.bytes ≡ bs
blank_says n bs {o} e h = (front_says (replicate n 0) bs {slice = o.bytes} {end = o.end} e (omega (arith, h, length-replicate {A = ℕ} n 0))).1
