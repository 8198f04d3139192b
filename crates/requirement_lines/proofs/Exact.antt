-- Requirement lines are read exactly where the form stands, and the bytes at each place that is found are its requirement.
-- Assumes nothing.
use mathlib.Core.Path.{◌≡◌, refl, sym, ap, ◌∙◌}
use mathlib.Core.List.{List, [], ◌∷◌, ◌++◌}
use mathlib.Core.Bool.{true, false}
use Prim.Native.Nat.{ℕ, zero, suc, ◌+◌, ◌-◌, ◌≤◌, ◌<◌}
use native.Mathlib.Nat.{add-zero}
use native.Mathlib.Omega.{arith}
use lib.ListN.{length, get_or, drop, length-append, drop_of_length-le}
use lib.Seq.{drop-drop, take-append_seam}
use lib.Dec.{leb}
use borrow.Author.Tests.{le-leb}
use Rattle.text.specs.Bytes.{bytes}
use Rattle.text.specs.Mark.{prefix_of, key_at}
use Rattle.text.proofs.Tests.{never, test_case}
use Rattle.text.proofs.Places.{place_inside}
use Rattle.lines.specs.Lines.{lines, size}
use Rattle.lines.proofs.Counts.{count, count_append}
use Rattle.lines.proofs.Lines.{Fed, fed_some, Each, none, also as more, lines_split, lines_clear}
use Rattle.lines.proofs.Places.{LinesBetween, no_line, one_line, lines_both, lines_behind}
use Rattle.lines.specs.Reading.{also}
use Rattle.requirement_lines.specs.declared.Place.{Place}
use Rattle.std.specs.Prelude.{Some, None, IfSome}
use Rattle.text.specs.Mark.{read}
use Rattle.text.proofs.Fields.{after_case}
use Rattle.requirement_lines.specs.Form.{requirement_line, requirement_lines, places_from, StandsAt, Over}
use Rattle.requirement_lines.specs.Reading.{requirement_at, Found, requirements_from, requirements_at}
use Rattle.requirement_lines.proofs.Written.{RequirementIs, requirement_is, line_fed, requirement_taken}
use Rattle.requirement_lines.proofs.Collecting.{from_over, from_turn}
use Rattle.requirement_lines.proofs.Over.{over_made, over_is, key_off}

-- ---- sound

pub record RequirementsAre (s : List ℕ) (at : ℕ) (ps : List Place) (n : ℕ) : Type 0 where
  pub requirements : List (List ℕ)
  pub places : ps ≡ places_from at requirements
  pub between : LinesBetween s at n (requirement_lines requirements)
  pub over : Over (lines (drop n s))

abbrev FoundHere : List ℕ → ℕ → Found → Type 0
FoundHere s at x = IfSome x (λ r. RequirementsAre s at r.value r.next)

none_here : (s : List ℕ) (at : ℕ) → prefix_of (bytes "req=") (drop at s) ≡ false → RequirementsAre s at [] at
unfolding requirement_lines places_from
none_here s at h = record { requirements = []; places = refl; between = no_line s at; over = over_made (drop at s) h }

also_here : (s : List ℕ) (at : ℕ) (p : Place) (n : ℕ) → RequirementIs s at p n → (x : Found) → FoundHere s n x → FoundHere s at (also p x)
unfolding requirement_lines places_from
also_here s at p n r (Some f) h =
    let q : places_from n h.requirements ≡ places_from (at + 4 + length r.requirement + 1) h.requirements = ap (λ (k : ℕ). places_from k h.requirements) r.next in
    record {
      requirements = r.requirement ∷ h.requirements;
      places = rw (r.place, h.places, q);
      between = lines_both (one_line r.between (line_fed r.requirement r.clear)) h.between;
      over = h.over;
    }
also_here s at p n r None h = tt

found_here : (f : ℕ) (s : List ℕ) (at : ℕ) → length s ≤ at + f → FoundHere s at (requirements_from f s at)
unfolding requirements_from prefix_of
found_here zero s at l = none_here s at (rw (drop_of_length-le s {i = at} (omega arith)))
found_here (suc f) s at l =
    test_case (FoundHere s at) (key_at (bytes "req=") s at) _ _
    (λ t. after_case (FoundHere s at) (requirement_at s at) _ _
    (λ x e. let r = requirement_is s at x e in also_here s at x.value x.next r (requirements_from f s x.next) (found_here f s x.next (omega (arith, r.next))))
    (λ e. tt))
    (λ t. none_here s at (key_off s at t))

pub requirements_are : (s : List ℕ) (at : ℕ) (ps : List Place) (n : ℕ) → requirements_at s at ≡ read ps n → RequirementsAre s at ps n
requirements_are s at ps n h = rw h at (found_here (length s) s at (omega arith))

-- ---- complete

-- a requirement's line at the front of a text: what stands behind it, and that the requirement has no line feed
record Front (s : List ℕ) (at : ℕ) (r : List ℕ) (ls : List (List ℕ)) : Type 0 where
  rest : List ℕ
  bytes_are : drop at s ≡ requirement_line r ++ rest
  behind : lines rest ≡ ls
  clear : count 10 r ≡ 0

front : (s : List ℕ) (at : ℕ) (r : List ℕ) (ls : List (List ℕ)) → lines (drop at s) ≡ requirement_line r ∷ ls → Front s at r ls
unfolding count
front s at r ls h =
    let t = lines_split (drop at s) (requirement_line r) ls h in
    let c : count 10 (bytes "req=" ++ r) ≡ 0 = lines_clear (drop at s) (bytes "req=" ++ r) ls h in
    record { rest = t.0; bytes_are = t.1; behind = t.2; clear = omega (arith, count_append 10 (bytes "req=") r) }

front_key : (s : List ℕ) (at : ℕ) (r : List ℕ) (ls : List (List ℕ)) → Front s at r ls → key_at (bytes "req=") s at ≡ true
unfolding prefix_of
front_key s at r ls f = let l : at < length s = place_inside s at (requirement_line r) f.rest f.bytes_are (fed_some (line_fed r f.clear)) in rw (le-leb at (length s) (omega arith), f.bytes_are)

size_requirement : (r : List ℕ) (rs : List (List ℕ)) → size (requirement_lines (r ∷ rs)) ≡ 4 + length r + 1 + size (requirement_lines rs)
unfolding requirement_lines size
size_requirement r rs = omega (arith, length-append (bytes "req=" ++ r) (bytes "\n"), length-append (bytes "req=") r)

pub places_length : (at : ℕ) (rs : List (List ℕ)) → length (places_from at rs) ≡ length rs
unfolding places_from
places_length at [] = refl
places_length at (r ∷ rs) = ap suc (places_length (at + 4 + length r + 1) rs)

-- the next line's place, and that of the lines behind it
next_front : (s : List ℕ) (at : ℕ) (r : List ℕ) (ls : List (List ℕ)) → Front s at r ls → lines (drop (at + 4 + length r + 1) s) ≡ ls
next_front s at r ls f = ap lines (requirement_taken s at r f.rest f.bytes_are f.clear).2 ∙ f.behind

pub requirement_lines_fed : (s : List ℕ) (at : ℕ) (rs rest : List (List ℕ)) → lines (drop at s) ≡ requirement_lines rs ++ rest → Each Fed (requirement_lines rs)
unfolding requirement_lines
requirement_lines_fed s at [] rest h = none
requirement_lines_fed s at (r ∷ rs) rest h =
    let f = front s at r (requirement_lines rs ++ rest) h in
    more (line_fed r f.clear) (requirement_lines_fed s (at + 4 + length r + 1) rs rest (next_front s at r (requirement_lines rs ++ rest) f))

taken_from : (f : ℕ) (s : List ℕ) (at : ℕ) (rs rest : List (List ℕ)) → length s ≤ at + f → lines (drop at s) ≡ requirement_lines rs ++ rest → Over rest
    → requirements_from f s at ≡ read (places_from at rs) (at + size (requirement_lines rs))
unfolding requirement_lines places_from size
taken_from f s at [] rest l h o =
    let e : prefix_of (bytes "req=") (drop at s) ≡ false = over_is rest o (drop at s) h in
    rw add-zero (from_over f s at (rw (e, never (leb at (length s)))))
taken_from f s at (r ∷ rs) rest l h o =
    let w = front s at r (requirement_lines rs ++ rest) h in
    let n : ℕ = at + 4 + length r + 1 in
    let p : Place = record { from = at + 4; to = at + 4 + length r } in
    let t = requirement_taken s at r w.rest w.bytes_are w.clear in
    let k : key_at (bytes "req=") s at ≡ true = front_key s at r (requirement_lines rs ++ rest) w in
    let m : requirements_from (f - 1) s n ≡ read (places_from n rs) (n + size (requirement_lines rs)) =
    taken_from (f - 1) s n rs rest (omega arith) (next_front s at r (requirement_lines rs ++ rest) w) o in
    let z : n + size (requirement_lines rs) ≡ at + size (requirement_lines (r ∷ rs)) = omega (arith, size_requirement r rs) in
    from_turn f s at l k ∙ rw (t.0, m) (ap (read (p ∷ places_from n rs)) z)

pub requirements_taken : (s : List ℕ) (at : ℕ) (rs rest : List (List ℕ)) → lines (drop at s) ≡ requirement_lines rs ++ rest → Over rest
    → (requirements_at s at ≡ read (places_from at rs) (at + size (requirement_lines rs))) × (lines (drop (at + size (requirement_lines rs)) s) ≡ rest)
requirements_taken s at rs rest h o = (
  taken_from (length s) s at rs rest (omega arith) h o,
  ap lines (sym (drop-drop (size (requirement_lines rs)) at s)) ∙ lines_behind (requirement_lines rs) rest (drop at s) h,
)

-- ---- the bytes at a requirement's place are the requirement

pub place_holds : (s : List ℕ) (at : ℕ) (rs rest : List (List ℕ)) → lines (drop at s) ≡ requirement_lines rs ++ rest → (k : ℕ) (d : Place) → k < length rs
    → StandsAt s (get_or (places_from at rs) k d) (get_or rs k [])
unfolding requirement_lines places_from
place_holds s at [] rest h k d l = absurd (omega arith)
place_holds s at (r ∷ rs) rest h zero d l =
    let w = front s at r (requirement_lines rs ++ rest) h in
    let t = requirement_taken s at r w.rest w.bytes_are w.clear in
    let e : at + 4 + length r - (at + 4) ≡ length r = omega arith in
    record {
      bytes = rw (e, t.1) (take-append_seam r (bytes "\n" ++ w.rest));
      ordered = omega arith;
      inside = omega (arith, (requirement_is s at _ t.0).between.inside);
    }
place_holds s at (r ∷ rs) rest h (suc k) d l =
    let w = front s at r (requirement_lines rs ++ rest) h in
    place_holds s (at + 4 + length r + 1) rs rest (next_front s at r (requirement_lines rs ++ rest) w) k d (omega arith)
