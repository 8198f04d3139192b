-- A window's text is refused as empty exactly where no second is inside the window as it is read.
-- Assumes nothing.
use mathlib.Core.Path.{◌≡◌}
use mathlib.Core.Bool.{Bool, true}
use mathlib.Core.List.{List, ◌++◌}
use mathlib.Core.Logic.{inl, inr}
use Prim.Native.Nat.{ℕ, ◌+◌, ◌≤◌}
use native.Mathlib.Omega.{arith}
use lib.Dec.{T}
use Rattle.logic.specs.Window.{inside}
use Rattle.text.specs.Bytes.{bytes}
use Rattle.text.specs.Numeral.{Numeral}
use Rattle.tables.specs.declared.Span.{Span}
use Rattle.tables.specs.Tree.{LONGEST, marked, as_read}
use Rattle.tables.proofs.Rules.{limits_pass}
use Rattle.tables.proofs.Windows.{some_second, second_obeys}
use Rattle.grammar.specs.Tree.{opens, closes, mark}
use Rattle.grammar.specs.Grammar.{WindowText, ended}
use Rattle.requirements.proofs.Rules.{mark_small, window_ends}

pub text_second : {x : List ℕ} {w : Span} → WindowText x w → inside (as_read w) (w.lo + w.openlo) ≡ true
text_second {x} {w} t = some_second w (window_ends t)

pub second_text : {v w : List ℕ} {lo hi : ℕ} (low high : Bool) → Numeral v lo → Numeral w hi → lo ≤ LONGEST → hi ≤ LONGEST → (d : ℕ) → T (inside (as_read (marked lo hi (mark low) (mark high))) d)
    → WindowText (opens low ++ (v ++ (bytes "," ++ (w ++ closes high)))) (marked lo hi (mark low) (mark high))
second_text {v} {w} {lo} {hi} low high a b l h d t =
    let r = second_obeys (marked lo hi (mark low) (mark high)) (limits_pass (marked lo hi (mark low) (mark high)) l (mark_small low) (mark_small high)) h d t in
    ended low high a b (elim r.high [ inl e ↦ absurd (omega (arith, e.0)) | inr e ↦ e.1 ]) h
