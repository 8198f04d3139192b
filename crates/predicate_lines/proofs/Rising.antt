-- Lines have the form exactly where each is a predicate's and their numbers rise: the least number still allowed is one above the line before, so every later number is above it.
-- Assumes nothing.
use mathlib.Core.Path.{◌≡◌, sym, ap, ◌∙◌}
use mathlib.Core.List.{List, [], ◌∷◌, append-nil}
use Prim.Native.Nat.{ℕ, zero, suc, ◌+◌, ◌≤◌, ◌<◌}
use native.Mathlib.Omega.{arith}
use lib.ListN.{length, get_or, set}
use Rattle.recordings.specs.declared.Predicate.{Predicate}
use Rattle.recordings.specs.Card.{unset_predicate}
use Rattle.std.specs.Prelude.{Option}
use Rattle.text.specs.Mark.{after}
use Rattle.text.specs.declared.Read.{Read}
use Rattle.predicate_lines.specs.declared.NumberedPredicate.{NumberedPredicate}
use Rattle.predicate_lines.specs.Form.{PredicateLine, LinesFrom, over, more, PredicateLines, unset}
use Rattle.predicate_lines.specs.Rising.{Numbered, Rising}
use Rattle.predicate_lines.specs.Reading.{set_line}
use Rattle.predicate_lines.proofs.Written.{line_taken}

-- a line has one number and one predicate
pub line_one : {l : List ℕ} {j k : ℕ} {p q : Predicate} → PredicateLine l j p → PredicateLine l k q → (j ≡ k) × (p ≡ q)
line_one {l} {j} {k} {p} {q} a b =
    let x = line_taken l 0 [] a (sym (append-nil l)) in
    let y = line_taken l 0 [] b (sym (append-nil l)) in
    let e : set_line j p x.0 ≡ set_line k q y.0 = sym x.1 ∙ y.1 in (
      ap (λ (z : Option (Read NumberedPredicate)). after z (λ r. r.value.number) 0) e,
      ap (λ (z : Option (Read NumberedPredicate)). after z (λ r. r.value.predicate) unset_predicate) e,
    )

-- ---- the form says that numbers rise

from_least : {least : ℕ} {ps qs : List Predicate} {ls : List (List ℕ)} → LinesFrom least ps ls qs → (i : ℕ) → i < length ls → (n : ℕ) → Numbered (get_or ls i []) n → least ≤ n
from_least over i h n a = absurd (omega arith)
from_least (more line rises rest) zero h n a = omega (arith, rises, (line_one line a.1).0)
from_least (more line rises rest) (suc i) h n a = omega (arith, rises, from_least rest i (omega arith) n a)

form_each : {least : ℕ} {ps qs : List Predicate} {ls : List (List ℕ)} → LinesFrom least ps ls qs → (i : ℕ) → i < length ls → (n : ℕ) × Numbered (get_or ls i []) n
form_each over i h = absurd (omega arith)
form_each (more {number = n} {predicate = p} line rises rest) zero h = (n, (p, line))
form_each (more line rises rest) (suc i) h = form_each rest i (omega arith)

form_rise : {least : ℕ} {ps qs : List Predicate} {ls : List (List ℕ)} → LinesFrom least ps ls qs
    → (i j : ℕ) → i < j → j < length ls → (m n : ℕ) → Numbered (get_or ls i []) m → Numbered (get_or ls j []) n → m < n
form_rise over i j l h m n a b = absurd (omega arith)
form_rise (more line rises rest) i zero l h m n a b = absurd (omega arith)
form_rise (more line rises rest) zero (suc j) l h m n a b = omega (arith, (line_one line a.1).0, from_least rest j (omega arith) n b)
form_rise (more line rises rest) (suc i) (suc j) l h m n a b = form_rise rest i j (omega arith) (omega arith) m n a b

pub lines_rise : {qs : List Predicate} {ls : List (List ℕ)} → PredicateLines ls qs → Rising ls
lines_rise f = record { each = form_each f; rise = form_rise f }

-- ---- lines whose numbers rise have the form

rising_from : (ls : List (List ℕ)) → Rising ls → (least : ℕ) → ((i : ℕ) → i < length ls → (n : ℕ) → Numbered (get_or ls i []) n → least ≤ n) → (ps : List Predicate)
    → (qs : List Predicate) × LinesFrom least ps ls qs
rising_from [] r least h ps = (ps, over)
rising_from (l ∷ ls) r least h ps =
    let a = r.each 0 (omega arith) in
    let t : Rising ls = record {
      each = λ i m. r.each (suc i) (omega arith);
      rise = λ i j m n. r.rise (suc i) (suc j) (omega arith) (omega arith);
    } in
    let b = rising_from ls t (a.0 + 1) (λ i m n c. omega (arith, r.rise 0 (suc i) (omega arith) (omega arith) a.0 n a.1 c)) (set ps a.0 a.1.0) in
    (b.0, more a.1.1 (h 0 (omega arith) a.0 a.1) b.1)

pub rising_lines : (ls : List (List ℕ)) → Rising ls → (qs : List Predicate) × PredicateLines ls qs
rising_lines ls r = rising_from ls r 0 (λ i h n a. omega arith) unset
