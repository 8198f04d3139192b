-- A requirement's line is read exactly where it is written.
-- Assumes nothing.
use mathlib.Core.Path.{◌≡◌, refl, ap, ◌∙◌}
use mathlib.Core.List.{List, [], ◌∷◌, ◌++◌, append_assoc}
use Prim.Native.Nat.{ℕ, ◌+◌, ◌<◌}
use native.Mathlib.Nat.{zero-add}
use native.Mathlib.Omega.{arith}
use lib.ListN.{length, drop}
use lib.Seq.{drop-drop}
use lib.Dec.{eqb}
use Rattle.text.specs.Bytes.{bytes}
use Rattle.text.specs.Mark.{mark_at}
use Rattle.std.specs.Prelude.{Option, Some, not, ◌==◌, IfSome}
use Rattle.std.specs.List.{take_while}
use Rattle.std.proofs.lemmas.List.Sums.{take_while-cons}
use Rattle.text.specs.declared.Read.{Read}
use Rattle.text.proofs.Tests.{by_test}
use Rattle.text.proofs.Places.{Between, between_both, after_bytes}
use Rattle.text.proofs.Answers.{mark_is}
use Rattle.text.proofs.Fields.{after_case, mark_taken}
use Rattle.lines.proofs.Counts.{count, count_append}
use Rattle.lines.proofs.Lines.{Fed}
use Rattle.requirement_lines.specs.declared.Place.{Place}
use Rattle.requirement_lines.specs.Form.{requirement_line}
use Rattle.requirement_lines.specs.Reading.{until_feed, placed_line, requirement_at}

-- ---- the bytes before the first line feed

-- the code takes them one after the other
pub until_taken : (s : List ℕ) → take_while (λ b. not (b == 10)) s ≡ until_feed s
unfolding until_feed
until_taken [] = refl
until_taken (b ∷ s) = rw (take_while-cons (λ b. not (b == 10)) b s) (by_test (eqb b 10) (λ t. rw t) (λ t. rw (t, until_taken s)))

until_split : (s : List ℕ) → s ≡ until_feed s ++ drop (length (until_feed s)) s
unfolding until_feed
until_split [] = refl
until_split (b ∷ s) = by_test (eqb b 10) (λ t. rw t) (λ t. rw (t, ← until_split s))

until_clear : (s : List ℕ) → count 10 (until_feed s) ≡ 0
unfolding until_feed count
until_clear [] = refl
until_clear (b ∷ s) = by_test (eqb b 10) (λ t. rw t) (λ t. rw (t, t, until_clear s))

until_feed_is : (w r : List ℕ) → count 10 w ≡ 0 → until_feed (w ++ (10 ∷ r)) ≡ w
unfolding until_feed count
until_feed_is [] r h = refl
until_feed_is (b ∷ w) r h = by_test (eqb b 10) (λ t. absurd (full (rw t at h))) (λ t. rw (t, until_feed_is w r (rw (t, zero-add) at h)))
  where
    full : 1 + count 10 w ≡ 0 → ⊥
    full g = omega arith

-- ---- sound

pub record RequirementIs (s : List ℕ) (at : ℕ) (p : Place) (n : ℕ) : Type 0 where
  pub requirement : List ℕ
  pub between : Between s at n (requirement_line requirement)
  pub clear : count 10 requirement ≡ 0
  pub place : p ≡ record { from = at + 4; to = at + 4 + length requirement }
  pub next : n ≡ at + 4 + length requirement + 1

abbrev RequirementHere : List ℕ → ℕ → Option (Read Place) → Type 0
RequirementHere s at x = IfSome x (λ r. RequirementIs s at r.value r.next)

requirement_here : (s : List ℕ) (at : ℕ) → RequirementHere s at (requirement_at s at)
unfolding requirement_at
requirement_here s at =
    after_case (RequirementHere s at) (mark_at (bytes "req=") s at) _ _
    (λ from e. after_case (RequirementHere s at) (mark_at (bytes "\n") s (from + length (until_feed (drop from s)))) _ _ (λ n f. is from n e f) (λ f. tt))
    (λ e. tt)
  where
    is : (from n : ℕ) → mark_at (bytes "req=") s at ≡ Some from → mark_at (bytes "\n") s (from + length (until_feed (drop from s))) ≡ Some n
        → RequirementIs s at (record { from = from; to = from + length (until_feed (drop from s)) }) n
    is from n e f =
        let a = mark_is (bytes "req=") s at from e in
        let b = mark_is (bytes "\n") s (from + length (until_feed (drop from s))) n f in
        let w : Between s from (from + length (until_feed (drop from s))) (until_feed (drop from s)) =
        record {
          bytes = rw (← drop-drop (length (until_feed (drop from s))) from s) (until_split (drop from s));
          end = refl;
          inside = omega (arith, b.inside, b.end);
        } in
        let z : from ≡ at + 4 = a.end in
        record {
          requirement = until_feed (drop from s);
          between = between_both (between_both a w) b;
          clear = until_clear (drop from s);
          place = ap (λ (k : ℕ). record { from = k; to = k + length (until_feed (drop from s)) }) z;
          next = omega (arith, b.end);
        }

pub requirement_is : (s : List ℕ) (at : ℕ) (r : Read Place) → requirement_at s at ≡ Some r → RequirementIs s at r.value r.next
requirement_is s at r h = rw h at (requirement_here s at)

-- a requirement without a line feed has a line that ends in its only one
pub line_fed : (r : List ℕ) → count 10 r ≡ 0 → Fed (requirement_line r)
unfolding count
line_fed r c = record { body = bytes "req=" ++ r; ends = refl; clear = count_append 10 (bytes "req=") r ∙ omega arith }

-- the next line begins past this one's beginning
pub requirement_past : (s : List ℕ) (at : ℕ) (r : Read Place) → requirement_at s at ≡ Some r → at < r.next
requirement_past s at r h = omega (arith, (requirement_is s at r h).next)

-- ---- complete

requirement_read : (s : List ℕ) (at from n : ℕ) (w r : List ℕ) → mark_at (bytes "req=") s at ≡ Some from → drop from s ≡ w ++ (10 ∷ r) → count 10 w ≡ 0
    → mark_at (bytes "\n") s (from + length w) ≡ Some n → requirement_at s at ≡ placed_line from (from + length w) n
unfolding requirement_at
requirement_read s at from n w r e f c g =
    let h : until_feed (drop from s) ≡ w = ap until_feed f ∙ until_feed_is w r c in
    rw (e, h, g)

pub requirement_taken : (s : List ℕ) (at : ℕ) (w r : List ℕ) → drop at s ≡ requirement_line w ++ r → count 10 w ≡ 0
    → (requirement_at s at ≡ placed_line (at + 4) (at + 4 + length w) (at + 4 + length w + 1)) × (drop (at + 4) s ≡ w ++ (bytes "\n" ++ r)) × (drop (at + 4 + length w + 1) s ≡ r)
requirement_taken s at w r e c =
    let g : drop at s ≡ bytes "req=" ++ (w ++ (bytes "\n" ++ r)) = simp append_assoc at e in
    let k = mark_taken s at (w ++ (bytes "\n" ++ r)) (bytes "req=") (omega arith) g in
    let p : k.0 ≡ at + 4 = (mark_is (bytes "req=") s at k.0 k.1).end in
    let f : drop (at + 4) s ≡ w ++ (bytes "\n" ++ r) = rw p at k.2 in
    let n = mark_taken s (at + 4 + length w) r (bytes "\n") (omega arith) (after_bytes s (at + 4) w (bytes "\n" ++ r) f) in
    let q : n.0 ≡ at + 4 + length w + 1 = (mark_is (bytes "\n") s (at + 4 + length w) n.0 n.1).end in
    (requirement_read s at (at + 4) (at + 4 + length w + 1) w r (rw p at k.1) f c (rw q at n.1), f, rw q at n.2)
