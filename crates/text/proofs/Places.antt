-- Which bytes stand between two places of a text: places follow one another as their bytes do.
-- Assumes nothing.
use mathlib.Core.Path.{◌≡◌, sym, ap, ◌∙◌}
use mathlib.Core.List.{List, ◌++◌, append_assoc}
use Prim.Native.Nat.{ℕ, ◌+◌, ◌-◌, ◌≤◌, ◌<◌}
use native.Mathlib.Omega.{arith}
use lib.ListN.{length, take, drop, length-append, length-drop}
use lib.Seq.{take_all, drop-drop, drop-append_seam}

-- the bytes of s from a place `at` up to the place `n` are w
pub record Between (s : List ℕ) (at n : ℕ) (w : List ℕ) : Type 0 where
  pub bytes : drop at s ≡ w ++ drop n s
  pub end : n ≡ at + length w
  pub inside : n ≤ length s

-- and those that follow
pub between_both : {s : List ℕ} {a b c : ℕ} {v w : List ℕ} → Between s a b v → Between s b c w → Between s a c (v ++ w)
between_both {s} {a} {b} {c} {v} {w} p q =
    record {
      bytes = p.bytes ∙ (ap (λ (l : List ℕ). v ++ l) q.bytes ∙ sym (append_assoc v w (drop c s)));
      end = let e = p.end in let f = q.end in rw length-append (omega arith);
      inside = q.inside;
    }

-- what stands after the bytes w of a place
pub after_bytes : (s : List ℕ) (at : ℕ) (w r : List ℕ) → drop at s ≡ w ++ r → drop (at + length w) s ≡ r
after_bytes s at w r e = sym (drop-drop (length w) at s) ∙ (ap (drop (length w)) e ∙ drop-append_seam w r)

-- the part of a text from a place to its end is all that is behind the place
pub whole_behind : (s : List ℕ) (at : ℕ) → take (length s - at) (drop at s) ≡ drop at s
whole_behind s at = take_all (length s - at) (drop at s) (rw length-drop (omega arith))

-- how far the text reaches behind a place where w stands
pub length_behind : (s : List ℕ) (at : ℕ) (w r : List ℕ) → drop at s ≡ w ++ r → length s - at ≡ length w + length r
length_behind s at w r e = sym (length-drop at s) ∙ (ap length e ∙ length-append w r)

-- where bytes stand, the place is inside
pub place_inside : (s : List ℕ) (at : ℕ) (w r : List ℕ) → drop at s ≡ w ++ r → 0 < length w → at < length s
place_inside s at w r e p = let l = length_behind s at w r e in omega arith

-- and the place behind them is as many further as they are
pub place_after : (s : List ℕ) (at n : ℕ) (w r : List ℕ) → drop at s ≡ w ++ r → drop n s ≡ r → at ≤ length s → n ≤ length s → n ≡ at + length w
place_after s at n w r e f p q =
    let a = length_behind s at w r e in
    let b : length s - n ≡ length r = sym (length-drop n s) ∙ ap length f in
    omega arith
