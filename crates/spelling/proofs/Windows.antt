-- A window has one text: what is written of it is a window of the grammar where its ends obey the rules, and every window of the grammar with these ends is written so.
-- Assumes nothing.
use mathlib.Core.Path.{◌≡◌, refl, subst}
use mathlib.Core.List.{List, ◌++◌}
use mathlib.Core.Bool.{Bool, true, false}
use mathlib.Core.Logic.{inl, inr}
use Prim.Native.Nat.{ℕ, zero, suc, ◌+◌, ◌≤◌}
use native.Mathlib.Omega.{arith}
use lib.ListN.{length, length-append}
use lib.Dec.{ltb, eqb}
use borrow.Author.Tests.{ne_eqb}
use Rattle.tables.specs.Tree.{LONGEST, NO_END, marked}
use Rattle.text.specs.Bytes.{bytes}
use Rattle.tables.specs.Rules.{WindowRules}
use Rattle.printing.specs.Decimal.{decimal}
use Rattle.printing.proofs.Numerals.{decimal_numeral, numeral_decimal}
use Rattle.printing.proofs.Lengths.{decimal_ten}
use Rattle.tables.specs.declared.Span.{Span}
use Rattle.grammar.specs.Grammar.{WindowText, ended, endless}
use Rattle.grammar.specs.Tree.{opens, closes, mark}
use Rattle.spelling.specs.Text.{opening_of, closing_of, window_text}

-- hi of a window with an end is not the number that says it has none
has_end : (hi : ℕ) → hi ≤ LONGEST → eqb hi NO_END ≡ false
has_end hi h = ne_eqb hi NO_END (λ (e : hi ≡ NO_END). omega arith)

-- a mark that obeys the rules is that of its bracket
mark_of : (m : ℕ) → m ≤ 1 → mark (ltb 0 m) ≡ m
mark_of zero h = refl
mark_of (suc zero) h = refl
mark_of (suc (suc m)) h = absurd (omega arith)

of_mark : (b : Bool) → ltb 0 (mark b) ≡ b
of_mark false = refl
of_mark true = refl

pub window_made : (w : Span) → WindowRules w → WindowText (window_text true w) w
window_made w r = elim r.high [
  | inl h ↦
      let t : WindowText (window_text true (marked w.lo NO_END (mark (ltb 0 w.openlo)) 0)) (marked w.lo NO_END (mark (ltb 0 w.openlo)) 0) = rw (of_mark (ltb 0 w.openlo)) (endless (ltb 0 w.openlo) (decimal_numeral w.lo) r.low) in
      subst (λ (x : Span). WindowText (window_text true x) x) (rw (mark_of w.openlo r.marks.0, ← h.0, ← h.1) refl) t
  | inr h ↦
      let a = mark_of w.openlo r.marks.0 in
      let s = mark_of w.openhi r.marks.1 in
      let fits : w.lo + mark (ltb 0 w.openlo) + mark (ltb 0 w.openhi) ≤ w.hi = rw (a, s) h.1 in
      rw (has_end w.hi h.0) (subst (λ (x : Span). WindowText (opening_of w.openlo ++ (decimal w.lo ++ (bytes "," ++ (decimal w.hi ++ closing_of w.openhi)))) x) (rw (a, s) refl) (ended (ltb 0 w.openlo) (ltb 0 w.openhi) (decimal_numeral w.lo) (decimal_numeral w.hi) fits h.0))
]

pub window_one : {x : List ℕ} {w : Span} → WindowText x w → x ≡ window_text true w
window_one (ended {v} {w} {lo} {hi} low high a b l h) = rw (of_mark low, of_mark high, has_end hi h, numeral_decimal a, numeral_decimal b) refl
window_one (endless {v} {lo} low a l) = rw (of_mark low, numeral_decimal a) refl

bracket_long : (b : Bool) → (length (opens b) ≡ 1) × (length (closes b) ≡ 1)
bracket_long false = (refl, refl)
bracket_long true = (refl, refl)

-- at most `[1000000000,1000000000]`
pub window_long : (w : Span) → WindowRules w → length (window_text true w) ≤ 23
window_long w r =
    let o = (bracket_long (ltb 0 w.openlo)).0 in
    let c = (bracket_long (ltb 0 w.openhi)).1 in
    elim r.high [
      | inl e ↦ rw (e.0, length-append (opening_of w.openlo), length-append (decimal w.lo), o) (omega (arith, decimal_ten w.lo (omega (arith, r.low))))
      | inr h ↦ rw (has_end w.hi h.0, length-append (opening_of w.openlo), length-append (decimal w.lo), length-append (decimal w.hi), o, c) (omega (arith, decimal_ten w.lo (omega (arith, r.low)), decimal_ten w.hi (omega arith)))
    ]
