-- A text is written as a sheet or gives none; written, its lines are read as they stand. So it gives a sheet exactly when it has the form, and then the form's contents, and
-- texts that differ in filled rows alone give one sheet: the lines before the rows are the same.
-- Assumes nothing.
use mathlib.Core.Path.{◌≡◌, refl, sym, ap, subst, ◌∙◌}
use mathlib.Core.Logic.{◌↔◌, ◌⊎◌, inl, inr, ⊎_elim}
use mathlib.Core.List.{List, [], ◌∷◌, ◌++◌}
use mathlib.Core.Bool.{Bool, true, false, not, ◌&&◌}
use Prim.Native.Nat.{ℕ, ◌+◌, ◌≤◌}
use native.Mathlib.Omega.{arith}
use lib.ListN.{length, drop}
use lib.IntN.{ℤ}
use lib.Dec.{leb, ltb}
use borrow.Author.Tests.{leb-true, leb-false, le-ltb, ltb-false}
use Rattle.text.specs.Mark.{prefix_of}
use Rattle.text.proofs.Tests.{false_true, by_test}
use Rattle.lines.specs.Lines.{lines, size, joined}
use Rattle.lines.proofs.Lines.{Each, none, also, each_map, size_append, lines_joined, size_lines}
use Rattle.lines.proofs.Places.{lines_behind, lines_inside}
use Rattle.row_lines.specs.Form.{Row, AreRows}
use Rattle.row_lines.specs.Reading.{limit, channels_in_range, is_broken, rows_of}
use Rattle.row_lines.specs.Same.{Alike, no_line, same, filled, SameButFilled}
use Rattle.row_lines.proofs.Exact.{unbroken_rows, rows_unbroken, alike_sym, alike_rows, NoRow, alike_front}
use Rattle.heads.specs.declared.Head.{Head}
use Rattle.std.specs.Prelude.{Option, Some, None}
use Rattle.text.specs.Mark.{after, read}
use Rattle.text.specs.declared.Read.{Read}
use Rattle.heads.specs.Reading.{head_of}
use Rattle.heads.proofs.Exact.{head_is, head_taken, head_lines}
use Rattle.requirement_lines.specs.declared.Place.{Place}
use Rattle.requirement_lines.specs.declared.Requirements.{Requirements}
use Rattle.requirement_lines.specs.Form.{requirement_line, requirement_lines, places_from, is_requirement, Over, MOST_REQUIREMENTS, sixteen}
use Rattle.requirement_lines.specs.Reading.{Found, requirements_at, stored}
use Rattle.requirement_lines.proofs.Exact.{requirements_are, requirements_taken, places_length}
use Rattle.sheets.specs.Form.{SheetAnswer, Written, IsWritten, Form, Crowded, blank}
use Rattle.sheets.specs.Sheets.{rows_kept, lines_kept, behind_head, sheet_of}
use Rattle.sheets.proofs.Chain.{behind_none, lines_there, refusal_broken, refusal_crowded, refusal_none, behind_refused, behind_read, sheet_long, sheet_headless, sheet_behind}

-- ---- the rows behind

kept_listed : (ch : ℕ) (s : List ℕ) (at : ℕ) → rows_kept s at ch ≡ true → channels_in_range ch ≡ true → AreRows ch (lines (drop at s))
kept_listed ch s at h w = unbroken_rows ch (drop at s) (go (is_broken (rows_of ch (drop at s))) (rw w at h))
  where
    go : (b : Bool) → not (true && b) ≡ true → b ≡ false
    go true e = absurd (false_true e)
    go false e = refl

listed_kept : (ch : ℕ) (s : List ℕ) (at : ℕ) → (channels_in_range ch ≡ true → AreRows ch (lines (drop at s))) → rows_kept s at ch ≡ true
listed_kept ch s at h = go (channels_in_range ch) refl
  where
    go : (t : Bool) → channels_in_range ch ≡ t → rows_kept s at ch ≡ true
    go true e = rw (e, rows_unbroken ch (drop at s) (h e))
    go false e = rw e

-- ---- sound: a text is written as a sheet, or gives none

module _ (s : List ℕ) (l : ltb limit (length s) ≡ false) (h : Read Head) (o : head_of s ≡ Some h) where
  is_written : (r : Read (List Place)) → requirements_at s h.next ≡ Some r → 1 ≤ length r.value → rows_kept s r.next h.value.setup.channels ≡ true → IsWritten s
  is_written r e some kept =
      let x = head_is s h o in
      let y = requirements_are s h.next r.value r.next e in
      let c : length r.value ≡ length y.requirements = ap length y.places ∙ places_length h.next y.requirements in (
        h.value,
        y.requirements,
        lines (drop r.next s),
        record {
          front = x.0;
          short = ltb-false limit (length s) l;
          cuts = x.2.cuts ∙ ap (λ (z : List (List ℕ)). x.0 ++ z) y.between.cuts;
          begins = x.1;
          some = omega arith;
          over = y.over;
          listed = λ w. kept_listed h.value.setup.channels s r.next kept w;
        },
      )

  -- the requirements that were read, as the reader hands them back
  abbrev handed : Read (List Place) → Read Requirements
  handed r = record { value = record { count = length r.value; places = sixteen r.value }; next = r.next }

  none_written : (r : Read (List Place)) → requirements_at s h.next ≡ Some r → lines_kept s h.value (handed r) ≡ false → blank 1 ≡ sheet_of s
  none_written r e k =
      sheet_behind s l h o (Some (handed r)) (ap stored e) (blank 1) (behind_refused s h.value (handed r) 1 (refusal_broken _ (length r.value) k) (λ z. omega arith))

  found_either : (x : Found) → requirements_at s h.next ≡ x → IsWritten s ⊎ (sheet_of s ≡ blank 1)
  found_either (Some r) e =
      by_test (leb 1 (length r.value))
      (λ p. by_test (rows_kept s r.next h.value.setup.channels)
      (λ k. inl (is_written r e (leb-true 1 (length r.value) p) k))
      (λ k. inr (sym (none_written r e (rw (p, k) refl)))))
      (λ p. inr (sym (none_written r e (rw p refl))))
  found_either None e = inr (sym (sheet_behind s l h o None (ap stored e) (blank 1) (behind_none s h.value)))

pub written_or_blank : (s : List ℕ) → IsWritten s ⊎ (sheet_of s ≡ blank 1)
written_or_blank s =
    by_test (ltb limit (length s))
    (λ t. inr (sym (sheet_long s t)))
    (λ t. go t (head_of s) refl)
  where
    go : ltb limit (length s) ≡ false → (x : Option (Read Head)) → head_of s ≡ x → IsWritten s ⊎ (sheet_of s ≡ blank 1)
    go t (Some h) o = found_either s t h o (requirements_at s h.next) refl
    go t None o = inr (sym (sheet_headless s t o))

-- the place behind the requirements is inside the text
pub requirements_inside : (s : List ℕ) (h : Read Head) → head_of s ≡ Some h → (rs : Read Requirements) → stored (requirements_at s h.next) ≡ Some rs → rs.next ≤ length s
requirements_inside s h e rs g = go (requirements_at s h.next) refl g (lines_inside (head_is s h e).2 (omega arith))
  where
    go : (x : Found) → requirements_at s h.next ≡ x → stored x ≡ Some rs → h.next ≤ length s → rs.next ≤ length s
    go (Some r) f q i =
        let m : r.next ≡ rs.next = ap (λ (y : Option (Read Requirements)). after y (λ z. z.next) 0) q in
        rw (← m) (lines_inside (requirements_are s h.next r.value r.next f).between i)
    go None f q i = let z : ◌≡◌ {A = ℕ} 0 1 = cc in absurd (omega arith)

-- ---- complete: a text that is written as a sheet is read as it stands

module _ {s : List ℕ} {h : Head} {rs rows : List (List ℕ)} (w : Written s h rs rows) where
  abbrev at : ℕ
  at = size w.front

  abbrev next : ℕ
  next = size w.front + size (requirement_lines rs)

  taken : (requirements_at s at ≡ read (places_from at rs) next) × (lines (drop next s) ≡ rows)
  taken = requirements_taken s at rs rows (lines_behind w.front (requirement_lines rs ++ rows) s w.cuts) w.over

  -- the rows stand behind the requirements, and are all that follows them
  pub written_rows : lines (drop next s) ≡ rows
  written_rows = taken.1

  pub rows_text : drop next s ≡ joined rows
  rows_text = sym (lines_joined (drop next s)) ∙ ap joined written_rows

  pub joined_rows : lines (joined rows) ≡ rows
  joined_rows = ap lines (sym rows_text) ∙ written_rows

  -- the text is as long as its three parts
  pub written_size : length s ≡ size w.front + (size (requirement_lines rs) + size rows)
  written_size =
      sym (size_lines s) ∙ (ap size w.cuts ∙ (size_append w.front (requirement_lines rs ++ rows) ∙ ap (λ (n : ℕ). size w.front + n) (size_append (requirement_lines rs) rows)))

  abbrev handed_back : Read Requirements
  handed_back = record { value = record { count = length (places_from at rs); places = sixteen (places_from at rs) }; next = next }

  lines_stand : lines_kept s h handed_back ≡ true
  lines_stand =
      let c : length (places_from at rs) ≡ length rs = places_length at rs in
      lines_there s h handed_back (omega (arith, w.some)) ∙ listed_kept h.setup.channels s next (λ z. rw (written_rows) (w.listed z))

  read_as : (x : SheetAnswer) → x ≡ behind_head s h (Some handed_back) → x ≡ sheet_of s
  read_as x e =
      sheet_behind s (le-ltb limit (length s) w.short) (record { value = h; next = at }) (head_taken s (requirement_lines rs ++ rows) w.begins w.cuts)
      (Some handed_back) (ap stored taken.0) x e

  abbrev pub contents : SheetAnswer
  contents = record { number = 0; head = h; count = length rs; requirements = sixteen (places_from at rs); rows = next }

  pub written_read : length rs ≤ MOST_REQUIREMENTS → sheet_of s ≡ contents
  written_read few =
      let c : length (places_from at rs) ≡ length rs = places_length at rs in
      sym (read_as _ (behind_read s h handed_back 0 (refusal_none _ (length (places_from at rs)) lines_stand (omega arith)) refl))
      ∙ ap (λ (n : ℕ). record { number = 0; head = h; count = n; requirements = sixteen (places_from at rs); rows = next }) c

  written_crowded : MOST_REQUIREMENTS + 1 ≤ length rs → sheet_of s ≡ blank 12
  written_crowded many =
      let c : length (places_from at rs) ≡ length rs = places_length at rs in
      sym (read_as (blank 12) (behind_refused s h handed_back 12 (refusal_crowded _ (length (places_from at rs)) lines_stand (omega arith)) (λ z. omega arith)))

  abbrev pub written_form : length rs ≤ MOST_REQUIREMENTS → Form s contents
  written_form few = record { requirements = rs; rows = rows; written = w; few = few; count = refl; places = refl; behind = refl; number = refl }

  -- up to sixteen requirements, or more
  written_either : Form s (sheet_of s) ⊎ (sheet_of s ≡ blank 12)
  written_either =
      by_test (leb (length rs) MOST_REQUIREMENTS)
      (λ t. let few = leb-true (length rs) MOST_REQUIREMENTS t in inl (rw (written_read few) (written_form few)))
      (λ t. inr (written_crowded (leb-false (length rs) MOST_REQUIREMENTS t)))

-- ---- number 0, and the form's contents, exactly when the text has the form

-- a text has the form, or gives the blank sheet of 1 or of 12
pub sheet_cases : (s : List ℕ) → Form s (sheet_of s) ⊎ ((sheet_of s ≡ blank 1) ⊎ (sheet_of s ≡ blank 12))
sheet_cases s = ⊎_elim (λ p. ⊎_elim (λ f. inl f) (λ e. inr (inr e)) (written_either p.3)) (λ e. inr (inl e)) (written_or_blank s)

pub sheet_sound : (s : List ℕ) → (sheet_of s).number ≡ 0 → Form s (sheet_of s)
sheet_sound s z = ⊎_elim (λ f. f)
    (λ b. absurd (⊎_elim
    (λ e. let n : ◌≡◌ {A = ℕ} 1 0 = ap (λ (x : SheetAnswer). x.number) (sym e) ∙ z in omega arith)
    (λ e. let n : ◌≡◌ {A = ℕ} 12 0 = ap (λ (x : SheetAnswer). x.number) (sym e) ∙ z in omega arith) b))
    (sheet_cases s)

same_sheet : (x : SheetAnswer) (i k : ℕ) (ps : List Place) → i ≡ x.count → ps ≡ x.requirements → k ≡ x.rows → x.number ≡ 0
    → record { number = 0; head = x.head; count = i; requirements = ps; rows = k } ≡ x
same_sheet x i k ps p q r e = rw (p, q, r) (ap (λ (m : ℕ). record { number = m; head = x.head; count = x.count; requirements = x.requirements; rows = x.rows }) (sym e))

pub sheet_complete : (s : List ℕ) (x : SheetAnswer) → Form s x → sheet_of s ≡ x
sheet_complete s x f = written_read f.written f.few ∙ same_sheet x _ _ _ (sym f.count) (sym f.places) (sym f.behind) f.number

pub sheet_exact : (s : List ℕ) → (x : SheetAnswer) → Form s x ↔ ((sheet_of s ≡ x) × (x.number ≡ 0))
sheet_exact s x = (
  (λ f. (sheet_complete s x f, f.number)),
  (λ h. subst (λ (y : SheetAnswer). Form s y) h.0 (sheet_sound s (ap (λ (y : SheetAnswer). y.number) h.0 ∙ h.1))),
)

-- ---- otherwise the blank sheet: of 1 exactly when the text is not written as a sheet, of 12 exactly when it is, with a seventeenth requirement

pub sheet_refused : (s : List ℕ) → (sheet_of s ≡ blank 1) ↔ (IsWritten s → ⊥)
sheet_refused s = (
  (λ e p. ⊎_elim
      (λ f. let z : ◌≡◌ {A = ℕ} 1 0 = ap (λ (y : SheetAnswer). y.number) (sym e) ∙ f.number in omega arith)
      (λ g. let z : ◌≡◌ {A = ℕ} 1 12 = ap (λ (y : SheetAnswer). y.number) (sym e ∙ g) in omega arith)
      (written_either p.3)),
  (λ h. ⊎_elim (λ p. absurd (h p)) (λ e. e) (written_or_blank s)),
)

pub sheet_crowded : (s : List ℕ) → (sheet_of s ≡ blank 12) ↔ Crowded s
sheet_crowded s = (
  (λ e. ⊎_elim
      (λ p. record {
        head = p.0;
        requirements = p.1;
        rows = p.2;
        written = p.3;
        many = by_test (leb (length p.1) MOST_REQUIREMENTS)
            (λ t. let z : ◌≡◌ {A = ℕ} 12 0 = ap (λ (y : SheetAnswer). y.number) (sym e ∙ written_read p.3 (leb-true (length p.1) MOST_REQUIREMENTS t)) in absurd (omega arith))
            (λ t. leb-false (length p.1) MOST_REQUIREMENTS t);
      })
      (λ b. absurd (let z : ◌≡◌ {A = ℕ} 12 1 = ap (λ (y : SheetAnswer). y.number) (sym e ∙ b) in omega arith))
      (written_or_blank s)),
  (λ c. written_crowded c.written c.many),
)

-- ---- filled rows reach nothing

-- no line of a requirement is a row
no_rows : (rs : List (List ℕ)) → Each NoRow (requirement_lines rs)
unfolding requirement_lines
no_rows [] = none
no_rows (r ∷ rs) = also {l = requirement_line r} (record { first = λ (e : ◌≡◌ {A = ℕ} 114 116). omega arith }) (no_rows rs)

-- a row does not begin with `req=`
row_over : {ch t : ℕ} {l : List ℕ} {m : Bool} {vs : List ℤ} → Row ch l m t vs → is_requirement l ≡ false
unfolding prefix_of
row_over f = ap is_requirement f.spelled

alike_over : {ls ms : List (List ℕ)} → Alike ls ms → Over ls → Over ms
alike_over no_line h = h
alike_over (same a) h = h
alike_over (filled r q a) h = row_over q

module _ (a b : List ℕ) (alike : SameButFilled a b) (short : length b ≤ limit) {h : Head} {rs rows : List (List ℕ)} (w : Written a h rs rows) where
  -- the same head, the same requirements, and rows that differ in filled ones alone
  pub alike_written : (ns : List (List ℕ)) × Alike rows ns × (v : Written b h rs ns) × (v.front ≡ w.front)
  alike_written =
      let t = alike_front (each_map (λ l x. record { first = x.no_row }) (head_lines w.begins)) alike (requirement_lines rs ++ rows) w.cuts in
      let u = alike_front (no_rows rs) t.2 rows refl in (
        u.0,
        u.2,
        record {
          front = w.front;
          short = short;
          cuts = t.1 ∙ ap (λ (x : List (List ℕ)). w.front ++ x) u.1;
          begins = w.begins;
          some = w.some;
          over = alike_over u.2 w.over;
          listed = λ z. let r = w.listed z in (r.0, r.1, alike_rows u.2 r.2);
        },
        refl,
      )

  alike_read : sheet_of a ≡ sheet_of b
  unfolding alike_written
  alike_read =
      let v = alike_written in
      by_test (leb (length rs) MOST_REQUIREMENTS)
      (λ t. let few = leb-true (length rs) MOST_REQUIREMENTS t in written_read w few ∙ sym (written_read v.2 few))
      (λ t. let many = leb-false (length rs) MOST_REQUIREMENTS t in written_crowded w many ∙ sym (written_crowded v.2 many))

-- two texts within the size limit that differ in filled rows alone give the same sheet
pub sheet_alike : (a b : List ℕ) → length a ≤ limit → length b ≤ limit → SameButFilled a b → sheet_of a ≡ sheet_of b
sheet_alike a b p q h =
    ⊎_elim (λ w. alike_read a b h q w.3)
    (λ e. ⊎_elim (λ w. sym (alike_read b a (alike_sym h) p w.3)) (λ f. e ∙ sym f) (written_or_blank b))
    (written_or_blank a)
