-- What the lines set: each line's predicate stands at its number, since no later line has that number, and a number without a line stays unset.
-- Assumes nothing.
use mathlib.Core.Path.{◌≡◌, refl, sym, ap, ◌∙◌}
use mathlib.Core.List.{List, []}
use Prim.Native.Nat.{ℕ, zero, suc, ◌<◌}
use native.Mathlib.Omega.{arith}
use lib.ListN.{length, get_or, length-set, get_or-replicate}
use lib.Seq.{get_or-set_same, get_or-set_other}
use Rattle.recordings.specs.declared.Predicate.{Predicate}
use Rattle.recordings.specs.Card.{unset_predicate}
use Rattle.predicate_lines.specs.Form.{PredicateLine, LinesFrom, over, more, PredicateLines}
use Rattle.predicate_lines.specs.Rising.{Numbered}
use Rattle.predicate_lines.proofs.Rising.{line_one}

-- what stands below the least stays
below_kept : {least : ℕ} {ps qs : List Predicate} {ls : List (List ℕ)} → LinesFrom least ps ls qs → (k : ℕ) → k < least → get_or qs k unset_predicate ≡ get_or ps k unset_predicate
below_kept over k h = refl
below_kept (more {ps} {number = j} {predicate = p} line rises rest) k h =
    below_kept rest k (omega (arith, rises)) ∙ get_or-set_other ps j k p unset_predicate (λ e. omega (arith, rises))

sets_from : {least : ℕ} {ps qs : List Predicate} {ls : List (List ℕ)} → LinesFrom least ps ls qs → length ps ≡ 16 → (i : ℕ) → i < length ls
    → (k : ℕ) (p : Predicate) → PredicateLine (get_or ls i []) k p → get_or qs k unset_predicate ≡ p
sets_from over w i h k p a = absurd (omega arith)
sets_from (more {ps} {qs} {number = j} {predicate = q} line rises rest) w zero h k p a =
    let e = line_one line a in
    ap (λ (n : ℕ). get_or qs n unset_predicate) (sym e.0)
    ∙ (below_kept rest j (omega arith) ∙ (get_or-set_same ps j q unset_predicate (omega (arith, line.known)) ∙ e.1))
sets_from (more {ps} {number = j} {predicate = q} line rises rest) w (suc i) h k p a = sets_from rest (length-set ps j q ∙ w) i (omega arith) k p a

-- each line's predicate is the one of its number
pub predicates_set : {qs : List Predicate} {ls : List (List ℕ)} → PredicateLines ls qs → (i : ℕ) → i < length ls → (k : ℕ) (p : Predicate) → PredicateLine (get_or ls i []) k p
    → get_or qs k unset_predicate ≡ p
predicates_set f = sets_from f refl

unnamed_kept : {least : ℕ} {ps qs : List Predicate} {ls : List (List ℕ)} → LinesFrom least ps ls qs → (k : ℕ) → ((i : ℕ) → i < length ls → Numbered (get_or ls i []) k → ⊥)
    → get_or qs k unset_predicate ≡ get_or ps k unset_predicate
unnamed_kept over k h = refl
unnamed_kept (more {ps} {number = j} {predicate = p} line rises rest) k h =
    unnamed_kept rest k (λ i l a. h (suc i) (omega arith) a)
    ∙ get_or-set_other ps j k p unset_predicate (λ e. h 0 (omega arith) (p, rw e line))

-- and a number without a line is unset
pub others_unset : {qs : List Predicate} {ls : List (List ℕ)} → PredicateLines ls qs → (k : ℕ) → k < 16 → ((i : ℕ) → i < length ls → Numbered (get_or ls i []) k → ⊥)
    → get_or qs k unset_predicate ≡ unset_predicate
others_unset f k l h = unnamed_kept f k h ∙ get_or-replicate 16 k unset_predicate unset_predicate l
