-- The rows of a text are read exactly where its lines are rows, so filled rows reach nothing but their count: texts that differ in them alone have one reading.
-- Assumes nothing.
use mathlib.Core.Path.{◌≡◌, refl, sym, ap, subst, ◌∙◌}
use mathlib.Core.Logic.{◌↔◌}
use mathlib.Core.List.{List, [], ◌∷◌, ◌++◌}
use mathlib.Core.Bool.{Bool, true, false}
use Prim.Native.Nat.{ℕ, zero, suc, ◌+◌, ◌-◌, ◌≤◌, ◌<◌}
use native.Mathlib.Omega.{arith}
use lib.ListN.{length, get_or, drop, drop_of_length-le, length-drop}
use lib.IntN.{ℤ}
use lib.Dec.{leb}
use borrow.Author.Tests.{leb-true, le-leb, lt-leb}
use Rattle.text.proofs.Tests.{false_true, test_case}
use Rattle.text.proofs.Places.{place_inside}
use Rattle.row_lines.specs.declared.RowLine.{RowLine}
use Rattle.row_lines.specs.declared.RowLine.TheVariants.{Measured, Filled}
use Rattle.std.specs.Prelude.{Option, Some, None}
use Rattle.lines.specs.Lines.{lines}
use Rattle.lines.proofs.Lines.{Fed, fed_some, lines_split, lines_none, Each, none, also}
use Rattle.lines.proofs.Places.{fed_lines, fed_past}
use Rattle.row_lines.specs.Form.{Row, Sample, Rows, no_row, measured, filled, AreRows}
use Rattle.row_lines.specs.Reading.{measured_row, filled_row, row_at, after_row, Listing, listed, broken, is_broken, also_measured, also_filled, sample_at, rows_from, rows_of}
use Rattle.row_lines.specs.Same.{Alike, no_line, same, filled as Alike·filled, SameButFilled}
use Rattle.row_lines.proofs.Written.{RowHere, row_here, row_taken}
use Rattle.row_lines.proofs.Lines.{row_fed, one_width, one_source}

-- ---- a row has a byte at least

abbrev pub Past : ℕ → Option RowLine → Type 0
Past at (Some (Measured r)) = at < r.next
Past at (Some (Filled n)) = at < n
Past at None = Unit

past_of : (ch : ℕ) (s : List ℕ) (at : ℕ) (x : Option RowLine) → RowHere ch s at x → Past at x
past_of ch s at (Some (Measured r)) h = fed_past h.1 (row_fed h.2)
past_of ch s at (Some (Filled n)) h = fed_past h.3 (row_fed h.4)
past_of ch s at None h = tt

-- the next line begins past this one's beginning
pub row_past : (ch : ℕ) (s : List ℕ) (at : ℕ) (x : Option RowLine) → x ≡ row_at s at ch → Past at x
row_past ch s at x e = rw e (past_of ch s at (row_at s at ch) (row_here ch s at))

-- ---- the rows from a place on, one by one

module _ (f ch : ℕ) (s : List ℕ) (at : ℕ) where
  pub rows_over : length s ≤ at → rows_from f ch s at ≡ listed [] 0
  unfolding rows_from
  rows_over l = go f
    where
      go : (k : ℕ) → rows_from k ch s at ≡ listed [] 0
      go zero = rw (le-leb _ _ l)
      go (suc k) = rw (le-leb _ _ l)

rows_suc : (f ch : ℕ) (s : List ℕ) (at : ℕ) (x : Option RowLine) → at < length s → x ≡ row_at s at ch
    → rows_from (suc f) ch s at ≡ after_row x (λ t a n. also_measured (sample_at s ch t a) (rows_from f ch s n)) (λ n. also_filled (rows_from f ch s n)) broken
unfolding rows_from
rows_suc f ch s at x l e = rw (lt-leb _ _ l, e)

-- f lines are enough from a place on
pub rows_turn : (f ch : ℕ) (s : List ℕ) (at : ℕ) (x : Option RowLine) → length s ≤ at + f → at < length s → x ≡ row_at s at ch
    → rows_from f ch s at ≡ after_row x (λ t a n. also_measured (sample_at s ch t a) (rows_from (f - 1) ch s n)) (λ n. also_filled (rows_from (f - 1) ch s n)) broken
rows_turn f ch s at x h l e = let g : f ≡ suc (f - 1) = omega arith in ap (λ (k : ℕ). rows_from k ch s at) g ∙ rows_suc (f - 1) ch s at x l e

-- ---- sound: lines that are read as rows are rows

abbrev RowsHere : ℕ → List ℕ → ℕ → Listing → Type 0
RowsHere ch s at (listed xs k) = Rows ch (lines (drop at s)) xs k
RowsHere ch s at broken = Unit

measured_here : (ch : ℕ) (s : List ℕ) (at t a n : ℕ) (y : Listing) → RowHere ch s at (measured_row t a n) → RowsHere ch s n y → RowsHere ch s at (also_measured (sample_at s ch t a) y)
measured_here ch s at t a n (listed xs k) h r = rw (fed_lines h.1 (row_fed h.2)) (measured h.2 r)
measured_here ch s at t a n broken h r = tt

filled_here : (ch : ℕ) (s : List ℕ) (at n : ℕ) (y : Listing) → RowHere ch s at (filled_row n) → RowsHere ch s n y → RowsHere ch s at (also_filled y)
filled_here ch s at n (listed xs k) h r = rw (fed_lines h.3 (row_fed h.4)) (filled h.4 r)
filled_here ch s at n broken h r = tt

turn_here : (f ch : ℕ) (s : List ℕ) (at : ℕ) (x : Option RowLine) → RowHere ch s at x → ((n : ℕ) → RowsHere ch s n (rows_from f ch s n))
    → RowsHere ch s at (after_row x (λ t a n. also_measured (sample_at s ch t a) (rows_from f ch s n)) (λ n. also_filled (rows_from f ch s n)) broken)
turn_here f ch s at (Some (Measured r)) h more = measured_here ch s at r.time r.values r.next (rows_from f ch s r.next) h (more r.next)
turn_here f ch s at (Some (Filled n)) h more = filled_here ch s at n (rows_from f ch s n) h (more n)
turn_here f ch s at None h more = tt

end_here : (ch : ℕ) (s : List ℕ) (at : ℕ) → length s ≤ at → RowsHere ch s at (listed [] 0)
unfolding lines
end_here ch s at l = rw (drop_of_length-le s l) no_row

rows_here : (f ch : ℕ) (s : List ℕ) (at : ℕ) → RowsHere ch s at (rows_from f ch s at)
unfolding rows_from
rows_here zero ch s at = test_case (RowsHere ch s at) (leb (length s) at) _ _ (λ t. end_here ch s at (leb-true _ _ t)) (λ t. tt)
rows_here (suc f) ch s at =
    test_case (RowsHere ch s at) (leb (length s) at) _ _
    (λ t. end_here ch s at (leb-true _ _ t))
    (λ t. turn_here f ch s at (row_at s at ch) (row_here ch s at) (λ n. rows_here f ch s n))

-- ---- complete: lines that are rows are read as such

starts : (s : List ℕ) (at : ℕ) (l r : List ℕ) → drop at s ≡ l ++ r → Fed l → at < length s
starts s at l r e f = place_inside s at l r e (fed_some f)

rows_taken : {ch k : ℕ} {ls : List (List ℕ)} {xs : List Sample} → Rows ch ls xs k
    → (f : ℕ) (s : List ℕ) (at : ℕ) → length s ≤ at + f → lines (drop at s) ≡ ls → rows_from f ch s at ≡ listed xs k
rows_taken {ch} no_row f s at h e =
    let g : 0 ≡ length s - at = sym (ap length (lines_none (drop at s) e)) ∙ length-drop at s in
    rows_over f ch s at (omega arith)
rows_taken {ch} (measured {l} {ls} {t} {vs} {samples = xs} {filled = k} row rest) f s at h e =
    let p = lines_split (drop at s) l ls e in
    let a = row_taken true s at p.0 row p.1 in
    let n : ℕ = a.1 in
    let past : at < n = row_past ch s at (measured_row t a.0 n) (sym a.2) in
    let more : rows_from (f - 1) ch s n ≡ listed xs k = rows_taken rest (f - 1) s n (omega arith) (ap lines a.4 ∙ p.2) in
    rows_turn f ch s at (measured_row t a.0 n) h (starts s at l p.0 p.1 (row_fed row)) (sym a.2) ∙ (rw (more, a.3))
rows_taken {ch} (filled {l} {ls} {t} {vs} {samples = xs} {filled = k} row rest) f s at h e =
    let p = lines_split (drop at s) l ls e in
    let a = row_taken false s at p.0 row p.1 in
    let n : ℕ = a.0 in
    let past : at < n = row_past ch s at (filled_row n) (sym a.1) in
    let more : rows_from (f - 1) ch s n ≡ listed xs k = rows_taken rest (f - 1) s n (omega arith) (ap lines a.2 ∙ p.2) in
    rows_turn f ch s at (filled_row n) h (starts s at l p.0 p.1 (row_fed row)) (sym a.1) ∙ rw more

-- a text is read as rows exactly when its lines are rows
pub rows_exact : (ch : ℕ) (s : List ℕ) (xs : List Sample) (k : ℕ) → (rows_of ch s ≡ listed xs k) ↔ Rows ch (lines s) xs k
rows_exact ch s xs k = ((λ e. rw e at (rows_here (length s) ch s 0)), (λ h. rows_taken h (length s) s 0 (omega arith) refl))

-- and is broken exactly when they are not, whichever samples and count are tried
pub rows_broken : (ch : ℕ) (s : List ℕ) → (rows_of ch s ≡ broken) ↔ ((xs : List Sample) (k : ℕ) → Rows ch (lines s) xs k → ⊥)
rows_broken ch s = ((λ e xs k h. let f : broken ≡ listed xs k = sym e ∙ (rows_exact ch s xs k).1 h in let z : ◌≡◌ {A = ℕ} 0 1 = cc in omega arith), go (rows_of ch s) refl)
  where
    go : (x : Listing) → rows_of ch s ≡ x → ((xs : List Sample) (k : ℕ) → Rows ch (lines s) xs k → ⊥) → rows_of ch s ≡ broken
    go (listed xs k) e h = absurd (h xs k ((rows_exact ch s xs k).0 e))
    go broken e h = e

-- so the test of the listing is exact
pub unbroken_rows : (ch : ℕ) (s : List ℕ) → is_broken (rows_of ch s) ≡ false → AreRows ch (lines s)
unbroken_rows ch s h = go (rows_of ch s) refl h
  where
    go : (x : Listing) → rows_of ch s ≡ x → is_broken x ≡ false → AreRows ch (lines s)
    go (listed xs k) e h = (xs, k, (rows_exact ch s xs k).0 e)
    go broken e h = absurd (false_true (sym h))

pub rows_unbroken : (ch : ℕ) (s : List ℕ) → AreRows ch (lines s) → is_broken (rows_of ch s) ≡ false
rows_unbroken ch s r = rw ((rows_exact ch s r.0 r.1).1 r.2)

-- ---- filled rows reach nothing

pub alike_sym : {ls ms : List (List ℕ)} → Alike ls ms → Alike ms ls
alike_sym no_line = no_line
alike_sym (same a) = same (alike_sym a)
alike_sym (Alike·filled f g a) = Alike·filled g f (alike_sym a)

pub alike_rows : {ch k : ℕ} {ls ms : List (List ℕ)} {xs : List Sample} → Alike ls ms → Rows ch ls xs k → Rows ch ms xs k
alike_rows no_line r = r
alike_rows (same a) (measured row rest) = measured row (alike_rows a rest)
alike_rows (same a) (filled row rest) = filled row (alike_rows a rest)
alike_rows (Alike·filled f g a) (measured row rest) = absurd (one_source row f)
alike_rows (Alike·filled f g a) (filled row rest) = filled (rw (one_width f row) at g) (alike_rows a rest)

-- two texts that differ in filled rows alone have the same measured rows and the same count of filled ones, or are both broken
pub rows_alike : (a b : List ℕ) → SameButFilled a b → (ch : ℕ) → rows_of ch a ≡ rows_of ch b
rows_alike a b h ch = go (rows_of ch a) (rows_of ch b) refl refl
  where
    lead : (a b : List ℕ) → SameButFilled a b → (xs : List Sample) (k : ℕ) → rows_of ch a ≡ listed xs k → rows_of ch b ≡ listed xs k
    lead a b h xs k e = (rows_exact ch b xs k).1 (alike_rows h ((rows_exact ch a xs k).0 e))

    go : (x y : Listing) → rows_of ch a ≡ x → rows_of ch b ≡ y → rows_of ch a ≡ rows_of ch b
    go (listed xs k) y e f = e ∙ sym (lead a b h xs k e)
    go broken (listed xs k) e f = lead b a (alike_sym h) xs k f ∙ sym f
    go broken broken e f = e ∙ sym f

row_first : {ch t : ℕ} {l : List ℕ} {m : Bool} {vs : List ℤ} → Row ch l m t vs → get_or l 0 0 ≡ 116
row_first f = ap (λ (l : List ℕ). get_or l 0 0) f.spelled

-- a line that does not begin with `t`, as every row does
pub record NoRow (l : List ℕ) : Type 0 where
  pub first : get_or l 0 0 ≡ 116 → ⊥

alike_line : {ls ms : List (List ℕ)} → Alike ls ms → (l : List ℕ) (ks : List (List ℕ)) → ls ≡ l ∷ ks → NoRow l → (ns : List (List ℕ)) × (ms ≡ l ∷ ns) × Alike ks ns
alike_line no_line l ks e h = let z : ◌≡◌ {A = ℕ} 0 1 = cc in absurd (omega arith)
alike_line (same {l = k} {ls} {ms} a) l ks e h =
    let f : k ≡ l = cc in
    let g : ls ≡ ks = cc in
    (ms, rw f, subst (λ (x : List (List ℕ)). Alike x ms) g a)
alike_line (Alike·filled {l = k} r q a) l ks e h =
    let f : k ≡ l = cc in
    absurd (h.first (ap (λ (y : List ℕ). get_or y 0 0) (sym f) ∙ row_first r))

-- lines in front, none of which is a row, stand in both texts
pub alike_front : {ls xs ms : List (List ℕ)} → Each NoRow ls → Alike xs ms → (ks : List (List ℕ)) → xs ≡ ls ++ ks → (ns : List (List ℕ)) × (ms ≡ ls ++ ns) × Alike ks ns
alike_front {xs} {ms} none a ks e = (ms, refl, subst (λ (x : List (List ℕ)). Alike x ms) e a)
alike_front (also {l} {ls} p h) a ks e =
    let t = alike_line a l (ls ++ ks) e p in
    let u = alike_front h t.2 ks refl in
    (u.0, t.1 ∙ ap (λ (x : List (List ℕ)). l ∷ x) u.1, u.2)
