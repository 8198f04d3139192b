-- Which lines stand between two places of a text: places follow one another as their lines do.
-- Assumes nothing.
use mathlib.Core.Path.{◌≡◌, refl, sym, ap, ◌∙◌}
use mathlib.Core.List.{List, [], ◌∷◌, ◌++◌, append_assoc}
use Prim.Native.Nat.{ℕ, ◌+◌, ◌-◌, ◌≤◌, ◌<◌}
use native.Mathlib.Omega.{arith}
use lib.ListN.{length, drop, length-drop}
use lib.Seq.{drop-append-add}
use Rattle.text.proofs.Places.{Between}
use Rattle.lines.specs.Lines.{lines, size}
use Rattle.lines.proofs.Lines.{Fed, fed_some, lines_fed, lines_split, size_append, size_lines}

-- the lines of s from a place `at` up to the place `n` are ls
pub record LinesBetween (s : List ℕ) (at n : ℕ) (ls : List (List ℕ)) : Type 0 where
  pub cuts : lines (drop at s) ≡ ls ++ lines (drop n s)
  pub place : n ≡ at + size ls

pub no_line : (s : List ℕ) (at : ℕ) → LinesBetween s at at []
unfolding size
no_line s at = record { cuts = refl; place = omega arith }

-- a line, and the lines behind it
pub fed_lines : {s l : List ℕ} {at n : ℕ} → Between s at n l → Fed l → lines (drop at s) ≡ l ∷ lines (drop n s)
fed_lines {s} {l} {at} {n} b f = rw b.bytes (lines_fed (drop n s) f)

pub one_line : {s l : List ℕ} {at n : ℕ} → Between s at n l → Fed l → LinesBetween s at n (l ∷ [])
unfolding size
one_line b f = record { cuts = fed_lines b f; place = omega (arith, b.end) }

-- and those that follow
pub lines_both : {s : List ℕ} {a b c : ℕ} {ls ms : List (List ℕ)} → LinesBetween s a b ls → LinesBetween s b c ms → LinesBetween s a c (ls ++ ms)
lines_both {s} {a} {b} {c} {ls} {ms} p q = record {
  cuts = p.cuts ∙ (ap (λ (x : List (List ℕ)). ls ++ x) q.cuts ∙ sym (append_assoc ls ms (lines (drop c s))));
  place = omega (arith, p.place, q.place, size_append ls ms);
}

-- and the place behind them is inside
pub lines_inside : {s : List ℕ} {at n : ℕ} {ls : List (List ℕ)} → LinesBetween s at n ls → at ≤ length s → n ≤ length s
lines_inside {s} {at} {n} {ls} b l =
    let e : length s - at ≡ size ls + size (lines (drop n s)) = sym (length-drop at s) ∙ (sym (size_lines (drop at s)) ∙ (ap size b.cuts ∙ size_append ls (lines (drop n s)))) in
    omega (arith, b.place)

-- a line has a byte at least
pub fed_past : {s l : List ℕ} {at n : ℕ} → Between s at n l → Fed l → at < n
fed_past b f = omega (arith, b.end, fed_some f)

-- the lines behind the first ones
pub lines_behind : (ls ks : List (List ℕ)) (s : List ℕ) → lines s ≡ ls ++ ks → lines (drop (size ls) s) ≡ ks
unfolding size
lines_behind [] ks s h = h
lines_behind (l ∷ ls) ks s h =
    let t = lines_split s l (ls ++ ks) h in
    let e : drop (length l + size ls) s ≡ drop (size ls) t.0 = ap (drop (length l + size ls)) t.1 ∙ drop-append-add l t.0 (size ls) in
    ap lines e ∙ lines_behind ls ks t.0 t.2
