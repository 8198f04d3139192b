-- A line of a key and a number is read exactly where it is written.
-- Assumes nothing.
use mathlib.Core.Path.{◌≡◌, refl, ap, ◌∙◌}
use mathlib.Core.List.{List, ◌∷◌, ◌++◌, append_assoc}
use Prim.Native.Nat.{ℕ, ◌+◌, ◌≤◌, ◌<◌}
use native.Mathlib.Omega.{arith}
use lib.ListN.{length, drop, length-append}
use Rattle.text.specs.Bytes.{bytes}
use Rattle.std.specs.Prelude.{Option, Some, IfSome}
use Rattle.text.specs.Mark.{mark_at, read}
use Rattle.text.specs.Number.{largest, field_at}
use Rattle.text.specs.declared.Read.{Read}
use Rattle.text.proofs.Places.{Between, between_both, place_inside, place_after}
use Rattle.text.proofs.Answers.{mark_is, field_is}
use Rattle.text.proofs.Fields.{after_case, number_case, mark_taken, field_taken}
use Rattle.lines.specs.Lines.{lines}
use Rattle.lines.proofs.Counts.{count, count_append, numeral_count}
use Rattle.lines.proofs.Lines.{lines_split, Fed}
use Rattle.number_lines.specs.Form.{NumberLine}
use Rattle.number_lines.specs.Reading.{number_line_at}

abbrev NumberHere : List ℕ → List ℕ → ℕ → Option (Read ℕ) → Type 0
NumberHere key s at x = IfSome x (λ r. (l : List ℕ) × Between s at r.next l × NumberLine key l r.value)

number_here : (key s : List ℕ) (at : ℕ) → NumberHere key s at (number_line_at key s at)
unfolding number_line_at
number_here key s at =
    number_case (NumberHere key s at) (field_at key s at largest) _ _
    (λ v e h. after_case (NumberHere key s at) (mark_at (bytes "\n") s e) _ _
    (λ n k. let a = field_is key s at largest v e h in (
      key ++ a.2.word ++ bytes "\n",
      between_both (between_both a.1 a.2.between) (mark_is (bytes "\n") s e n k),
      record { digits = a.2.word; numeral = a.2.numeral; bound = a.2.bound; spelled = refl },
    ))
    (λ k. tt))
    (λ h. tt)

pub number_line_is : (key s : List ℕ) (at : ℕ) (r : Read ℕ) → number_line_at key s at ≡ Some r → (l : List ℕ) × Between s at r.next l × NumberLine key l r.value
number_line_is key s at r h = rw h at (number_here key s at)

pub number_line_taken : (key s : List ℕ) (at : ℕ) {l : List ℕ} {v : ℕ} (ls : List (List ℕ)) → 0 < length key → NumberLine key l v → lines (drop at s) ≡ l ∷ ls
    → (n : ℕ) × (number_line_at key s at ≡ read v n) × (lines (drop n s) ≡ ls) × (n ≡ at + length l)
unfolding number_line_at
number_line_taken key s at {l} {v} ls p f h =
    let t = lines_split (drop at s) l ls h in
    let r : List ℕ = t.0 in
    let g : drop at s ≡ key ++ (f.digits ++ (bytes "\n" ++ r)) = simp append_assoc at (t.1 ∙ ap (λ (x : List ℕ). x ++ r) f.spelled) in
    let k = field_taken s at (bytes "\n" ++ r) refl key p largest g f.numeral f.bound (omega arith) in
    let n = mark_taken s k.0 r (bytes "\n") (omega arith) k.2 in
    let i : n.0 ≤ length s = (mark_is (bytes "\n") s k.0 n.0 n.1).inside in
    let w : length l ≡ length (key ++ f.digits) + 1 = ap length f.spelled ∙ length-append (key ++ f.digits) (bytes "\n") in
    let o = place_inside s at l r t.1 (omega arith) in
    (n.0, rw (k.1, n.1), rw n.2 t.2, place_after s at n.0 l r t.1 n.2 (omega arith) i)

pub number_line_fed : {key l : List ℕ} {v : ℕ} → count 10 key ≡ 0 → NumberLine key l v → Fed l
number_line_fed {key} c f =
    record {
      body = key ++ f.digits;
      ends = f.spelled;
      clear = count_append 10 key f.digits ∙ omega (arith, numeral_count 10 refl f.numeral);
    }
