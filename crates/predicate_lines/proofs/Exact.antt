-- Predicate lines are read exactly where lines set predicates by rising number: every line leaves fewer of the sixteen numbers, so they end.
-- Assumes nothing.
use mathlib.Core.Path.{◌≡◌, refl, ap, ◌∙◌}
use mathlib.Core.List.{List, [], ◌∷◌, ◌++◌}
use mathlib.Core.Bool.{true, false}
use Prim.Native.Nat.{ℕ, zero, suc, ◌+◌, ◌-◌, ◌≤◌, ◌<◌}
use native.Mathlib.Omega.{arith}
use lib.ListN.{length, drop, length-set}
use lib.Dec.{leb, ltb}
use borrow.Author.Tests.{le-leb, le-ltb, ltb-false}
use Rattle.text.specs.Bytes.{bytes}
use Rattle.text.specs.Mark.{prefix_of, key_at}
use Rattle.text.proofs.Tests.{never, test_case}
use Rattle.text.proofs.Places.{place_inside}
use Rattle.lines.specs.Lines.{lines}
use Rattle.lines.proofs.Lines.{Each, none, also, fed_some, lines_split}
use Rattle.lines.proofs.Places.{LinesBetween, no_line, one_line, lines_both}
use Rattle.recordings.specs.declared.Predicate.{Predicate}
use Rattle.std.specs.Prelude.{Option, Some, None, IfSome}
use Rattle.text.specs.Mark.{read}
use Rattle.text.specs.declared.Read.{Read}
use Rattle.text.proofs.Fields.{after_case}
use Rattle.predicate_lines.specs.declared.NumberedPredicate.{NumberedPredicate}
use Rattle.predicate_lines.specs.Form.{PredicateLine, is_predicate, unset, LinesFrom, over, more, PredicateLines}
use Rattle.predicate_lines.specs.Reading.{line_at, stored_in, lines_from, lines_at}
use Rattle.predicate_lines.proofs.Written.{line_is, line_taken, line_fed}
use Rattle.predicate_lines.proofs.Rest.{turn_over, behind, turn_line}

-- ---- sound

-- the lines between two places, and what they set
pub record LinesRead (s : List ℕ) (at least : ℕ) (ps : List Predicate) (n : ℕ) (qs : List Predicate) : Type 0 where
  pub taken : List (List ℕ)
  pub between : LinesBetween s at n taken
  pub form : LinesFrom least ps taken qs

abbrev LinesHere : List ℕ → ℕ → Read (List Predicate) → Option (Read (List Predicate)) → Type 0
LinesHere s least ps x = IfSome x (λ q. LinesRead s ps.next least ps.value q.next q.value)

none_here : (s : List ℕ) (least : ℕ) (ps : Read (List Predicate)) → LinesHere s least ps (Some ps)
none_here s least ps = record { taken = []; between = no_line s ps.next; form = over }

more_here : (s : List ℕ) (least : ℕ) (ps : Read (List Predicate)) (l : Read NumberedPredicate) → line_at s ps.next ≡ Some l → least ≤ l.value.number
    → (x : Option (Read (List Predicate))) → LinesHere s (l.value.number + 1) (stored_in ps l) x → LinesHere s least ps x
more_here s least ps l e rises None h = tt
more_here s least ps l e rises (Some q) m =
    let a = line_is s ps.next l e in
    record { taken = a.0 ∷ m.taken; between = lines_both (one_line a.1 (line_fed a.2)) m.between; form = more a.2 rises m.form }

lines_here : (f : ℕ) (s : List ℕ) (least : ℕ) (ps : Read (List Predicate)) → LinesHere s least ps (lines_from f s least ps)
unfolding lines_from
lines_here zero s least ps = none_here s least ps
lines_here (suc f) s least ps =
    test_case (LinesHere s least ps) (key_at (bytes "p=") s ps.next) _ _
    (λ t. after_case (LinesHere s least ps) (line_at s ps.next) _ _
    (λ l e. test_case (LinesHere s least ps) (ltb l.value.number least) _ _
    (λ b. tt)
    (λ b. more_here s least ps l e (ltb-false l.value.number least b) _ (lines_here f s (l.value.number + 1) (stored_in ps l))))
    (λ e. tt))
    (λ t. none_here s least ps)

pub predicates_are : (s : List ℕ) (at : ℕ) (q : Read (List Predicate)) → lines_at s at ≡ Some q → LinesRead s at 0 unset q.next q.value
unfolding lines_at
predicates_are s at q o = rw o at (lines_here 17 s 0 (record { value = unset; next = at }))

-- ---- complete

-- a predicate's line has the key `p=`
line_due : {k : ℕ} {p : Predicate} {l : List ℕ} (s : List ℕ) (at : ℕ) (r : List ℕ) → PredicateLine l k p → drop at s ≡ l ++ r → key_at (bytes "p=") s at ≡ true
unfolding prefix_of
line_due {l} s at r f e =
    let z : at < length s = place_inside s at l r e (fed_some (line_fed f)) in
    rw (le-leb at (length s) (omega arith), e, f.spelled)

lines_taken : {least : ℕ} {ps qs : List Predicate} {ls : List (List ℕ)} → LinesFrom least ps ls qs → (f : ℕ) (s : List ℕ) (at : ℕ) (rest : List (List ℕ))
    → 16 ≤ least + f → lines (drop at s) ≡ ls ++ rest → ((x : List ℕ) → lines x ≡ rest → is_predicate x ≡ false)
    → (n : ℕ) × (lines_from f s least (record { value = ps; next = at }) ≡ read qs n) × (lines (drop n s) ≡ rest)
lines_taken {least} {ps} over f s at rest u e stop = (at, turn_over f s least (record { value = ps; next = at }) (rw (stop (drop at s) e, never (leb at (length s)))), e)
lines_taken {least} {ps} (more {l} {ls} {number = k} line rises lines') f s at rest u e stop =
    let a = lines_split (drop at s) l (ls ++ rest) e in
    let b = line_taken s at a.0 line a.1 in
    let here : Read (List Predicate) = record { value = ps; next = at } in
    let d = lines_taken lines' (f - 1) s b.0 rest (omega arith) (ap lines b.2 ∙ a.2) stop in
    let g : f ≡ suc (f - 1) = omega (arith, line.known) in (
      d.0,
      ap (λ (j : ℕ). lines_from j s least here) g
          ∙ (turn_line (f - 1) s least here (line_due s at a.0 line a.1) ∙ (ap (behind (f - 1) s least here) b.1 ∙ rw (le-ltb k least rises) d.1)),
      d.2,
    )

pub predicates_taken : {qs : List Predicate} {ls : List (List ℕ)} → PredicateLines ls qs → (s : List ℕ) (at : ℕ) (rest : List (List ℕ))
    → lines (drop at s) ≡ ls ++ rest → ((x : List ℕ) → lines x ≡ rest → is_predicate x ≡ false)
    → (n : ℕ) × (lines_at s at ≡ read qs n) × (lines (drop n s) ≡ rest)
unfolding lines_at
predicates_taken form s at rest e stop = lines_taken form 17 s at rest (omega arith) e stop

-- ---- a head's predicate lines

module _ {A : List ℕ → Type 0} (f : (l : List ℕ) (k : ℕ) (p : Predicate) → PredicateLine l k p → A l) where
  -- what is true of every predicate's line is true of each of them
  pub each_line : {least : ℕ} {ps qs : List Predicate} {ls : List (List ℕ)} → LinesFrom least ps ls qs → Each A ls
  each_line over = none
  each_line (more {number = k} {predicate = p} line rises rest) = also (f _ k p line) (each_line rest)

-- there are sixteen predicates before and after
pub lines_keep : {least : ℕ} {ps qs : List Predicate} {ls : List (List ℕ)} → LinesFrom least ps ls qs → length qs ≡ length ps
lines_keep over = refl
lines_keep (more {ps} {number = k} {predicate = p} line rises rest) = lines_keep rest ∙ length-set ps k p
