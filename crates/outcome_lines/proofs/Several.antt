-- Lines of several requirements. Before turn n of the loop the lines of the first n places of the order are printed, none longer than `NUMBERED`.
-- Assumes nothing.
use mathlib.Core.Path.{◌≡◌, refl, sym, ap, ◌∙◌}
use mathlib.Core.List.{List, [], ◌∷◌, ◌++◌, append_assoc, append-nil}
use Prim.Native.Nat.{ℕ, zero, suc, ◌+◌, ◌*◌, ◌≤◌, ◌<◌}
use native.Mathlib.Omega.{arith}
use native.Mathlib.Numerals.{add-one}
use lib.ListN.{length, get_or, take, length-append}
use lib.Seq.{take-suc, take_all}
use Rattle.std.proofs.lemmas.List.{get_or_default}
use Rattle.printing.specs.Output.{Output, printed}
use Rattle.printing.proofs.Printed.{printed_none, printed_then}
use Rattle.refusals.specs.First.{unless_refused}
use Rattle.outcomes.specs.declared.Outcome.{Outcome}
use Rattle.outcomes.specs.Outcome.{TextOutcome}
use Rattle.outcomes.specs.Order.{past_end, entry}
use Rattle.outcomes.specs.Arrangement.{arrange_below, arrangement}
use Rattle.outcomes.proofs.Arrangements.{length_arrangement, arrangement_below}
use Rattle.outcome_lines.specs.Printed.{NUMBERED, LINES, refusal_line, line_of, numbered_line, lines_in, entry_lines, lines_of}

-- one line more
lines_last : (xs : List Outcome) (ks : List ℕ) (k : ℕ) → lines_in xs (ks ++ (k ∷ [])) ≡ lines_in xs ks ++ numbered_line k (entry xs k)
unfolding lines_in
lines_last xs [] k = append-nil _
lines_last xs (j ∷ ks) k = ap (λ (l : List ℕ). numbered_line j (entry xs j) ++ l) (lines_last xs ks k) ∙ sym (append_assoc (numbered_line j (entry xs j)) (lines_in xs ks) (numbered_line k (entry xs k)))

lines_next : (xs : List Outcome) (ks : List ℕ) (n : ℕ) → n < length ks → lines_in xs (take (n + 1) ks) ≡ lines_in xs (take n ks) ++ numbered_line (get_or ks n 0) (entry xs (get_or ks n 0))
lines_next xs ks n h = rw (add-one n, take-suc ks n 0 h) (lines_last xs (take n ks) (get_or ks n 0))

pub record Printing (xs : List Outcome) (start here : Output) (n : ℕ) : Type 0 where
  pub inside : n ≤ length xs
  pub so_far : here ≡ printed start (lines_in xs (take n (arrangement xs)))
  pub short : length (lines_in xs (take n (arrangement xs))) ≤ n * NUMBERED

pub printing_none : (xs : List Outcome) (start : Output) → Printing xs start start 0
unfolding lines_in
printing_none xs start = record { inside = omega arith; so_far = printed_none start; short = omega arith }

-- the place that stands next in the order
pub printing_next : (xs : List Outcome) {start here there : Output} {n k : ℕ} {x : Outcome} → Printing xs start here n → n < length xs
    → k ≡ get_or (arrangement xs) n 0 → x ≡ entry xs k → there ≡ printed here (numbered_line k x) → length (numbered_line k x) ≤ NUMBERED → Printing xs start there (n + 1)
printing_next xs {start} {n = n} {k} {x} p h e f t r =
    let l = lines_next xs (arrangement xs) n (omega (arith, length_arrangement xs)) in
    record {
      inside = omega arith;
      so_far = rw (l, ← e, ← f) (printed_then start (lines_in xs (take n (arrangement xs))) (numbered_line k x) p.so_far t);
      short = rw (l, ← e, ← f) (omega (arith, length-append (lines_in xs (take n (arrangement xs))) (numbered_line k x), p.short));
    }

-- what stands there is a place of the outcomes
pub next_place : (xs : List Outcome) {order : List ℕ} {n : ℕ} → order ≡ arrangement xs → n < length order → get_or order n 0 < length xs
next_place xs {n = n} e h = rw e (arrangement_below xs n (omega (arith, ap length e, length_arrangement xs)))

pub entry_at : (xs : List Outcome) (k : ℕ) (d : Outcome) → k < length xs → get_or xs k d ≡ entry xs k
entry_at xs k d h = get_or_default xs k d past_end h

-- after the last turn all lines are printed
module _ (xs : List Outcome) {start here : Output} {n : ℕ} (p : Printing xs start here n) (all : length xs ≤ n) where
  whole : take n (arrangement xs) ≡ arrangement xs
  whole = take_all n (arrangement xs) (omega (arith, length_arrangement xs))

  pub printing_room : length xs ≤ 16 → length (lines_in xs (arrangement xs)) ≤ LINES
  printing_room h = let s = rw whole at p.short in omega (arith, s, p.inside)

-- ---- by the count of requirements, and by the whole text's number
pub lines_single : (xs : List Outcome) → length xs ≡ 1 → line_of (entry xs 0) ≡ entry_lines xs
unfolding entry_lines
lines_single [] h = absurd (omega arith)
lines_single (x ∷ []) h = refl
lines_single (x ∷ y ∷ xs) h = absurd (omega arith)

pub lines_several : (xs : List Outcome) → (length xs ≡ 1 → ⊥) → lines_in xs (arrangement xs) ≡ entry_lines xs
unfolding entry_lines lines_in arrangement arrange_below
lines_several [] h = refl
lines_several (x ∷ []) h = absurd (h refl)
lines_several (x ∷ y ∷ xs) h = refl

pub lines_refused : (a : TextOutcome) → (a.number ≡ 0 → ⊥) → refusal_line a.number ≡ lines_of a
unfolding lines_of
lines_refused a h = go a.number h
  where
    go : (n : ℕ) → (n ≡ 0 → ⊥) → refusal_line n ≡ unless_refused n (entry_lines a.entries) (refusal_line n)
    go zero h = absurd (h refl)
    go (suc n) h = refl

pub lines_judged : (a : TextOutcome) → a.number ≡ 0 → entry_lines a.entries ≡ lines_of a
unfolding lines_of
lines_judged a h = rw h refl
