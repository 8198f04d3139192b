-- The text that keeps one requirement alone has the head, that requirement and the rows of the text: its lines are these, since each ends in its line feed.
-- Assumes nothing.
use mathlib.Core.Path.{◌≡◌, refl, sym, ap, ◌∙◌}
use mathlib.Core.List.{List, [], ◌∷◌, ◌++◌, append_assoc, append-nil}
use mathlib.Core.Bool.{Bool, true, false}
use Prim.Native.Nat.{ℕ, zero, suc, ◌+◌, ◌≤◌, ◌<◌}
use native.Mathlib.Omega.{arith}
use lib.ListN.{length, get_or}
use borrow.Author.Tests.{ne_eqb}
use Rattle.text.specs.Mark.{prefix_of}
use Rattle.lines.specs.Lines.{lines, size, joined}
use Rattle.lines.proofs.Lines.{Fed, Each, none, also, each_append, each_map, size_append, joined_append, joined_length, joined_lines}
use Rattle.lines.proofs.Places.{lines_behind}
use Rattle.heads.specs.declared.Head.{Head}
use Rattle.heads.proofs.Exact.{HeadLine, head_lines}
use Rattle.requirement_lines.specs.Form.{requirement_line, requirement_lines, is_requirement, Over}
use Rattle.requirement_lines.proofs.Exact.{requirement_lines_fed}
use Rattle.sheets.specs.Form.{Written}
use Rattle.sheets.specs.Only.{before_first, from_first, is_other, head_lines_of, requirement_lines_of, row_lines_of, only}
use Rattle.sheets.proofs.Exact.{written_size, joined_rows}

-- ---- lines before the first of a kind

module _ (kind : List ℕ → Bool) where
  before_others : {ls : List (List ℕ)} (ms : List (List ℕ)) → Each (λ (l : List ℕ). kind l ≡ false) ls → before_first kind (ls ++ ms) ≡ ls ++ before_first kind ms
  unfolding before_first
  before_others ms none = refl
  before_others ms (also {l} p h) = rw p (ap (λ (x : List (List ℕ)). l ∷ x) (before_others ms h))

  from_others : {ls : List (List ℕ)} (ms : List (List ℕ)) → Each (λ (l : List ℕ). kind l ≡ false) ls → from_first kind (ls ++ ms) ≡ from_first kind ms
  unfolding from_first
  from_others ms none = refl
  from_others ms (also p h) = rw p (from_others ms h)

  -- a list that begins with one of the kind
  before_here : (l : List ℕ) (ls : List (List ℕ)) → kind l ≡ true → before_first kind (l ∷ ls) ≡ []
  unfolding before_first
  before_here l ls p = rw p

  from_here : (l : List ℕ) (ls : List (List ℕ)) → kind l ≡ true → from_first kind (l ∷ ls) ≡ l ∷ ls
  unfolding from_first
  from_here l ls p = rw p

-- ---- which lines are requirements'

head_requires : (l : List ℕ) → HeadLine l → is_requirement l ≡ false
unfolding prefix_of
head_requires [] h = refl
head_requires (b ∷ l) h = rw (ne_eqb b 114 h.no_requirement)

line_requires : (r : List ℕ) → is_requirement (requirement_line r) ≡ true
unfolding prefix_of
line_requires r = refl

all_require : (rs : List (List ℕ)) → Each (λ (l : List ℕ). is_other l ≡ false) (requirement_lines rs)
unfolding requirement_lines
all_require [] = none
all_require (r ∷ rs) = also {l = requirement_line r} (rw (line_requires r) refl) (all_require rs)

none_left : (rows : List (List ℕ)) → Over rows → before_first is_other rows ≡ []
unfolding before_first
none_left [] h = refl
none_left (l ∷ ls) h = before_here is_other l ls (rw h refl)

all_left : (rows : List (List ℕ)) → Over rows → from_first is_other rows ≡ rows
unfolding from_first
all_left [] h = refl
all_left (l ∷ ls) h = from_here is_other l ls (rw h refl)

-- ---- one line of several

line_at : (rs : List (List ℕ)) (k : ℕ) → k < length rs → get_or (requirement_lines rs) k [] ≡ requirement_line (get_or rs k [])
unfolding requirement_lines
line_at [] k l = absurd (omega arith)
line_at (r ∷ rs) zero l = refl
line_at (r ∷ rs) (suc k) l = line_at rs k (omega arith)

each_at : {P : List ℕ → Type 0} (rs : List (List ℕ)) (k : ℕ) → k < length rs → Each P (requirement_lines rs) → P (requirement_line (get_or rs k []))
unfolding requirement_lines
each_at [] k l h = absurd (omega arith)
each_at (r ∷ rs) zero l (also p h) = p
each_at (r ∷ rs) (suc k) l (also p h) = each_at rs k (omega arith) h

size_at : (rs : List (List ℕ)) (k : ℕ) → k < length rs → length (requirement_line (get_or rs k [])) ≤ size (requirement_lines rs)
unfolding requirement_lines size
size_at [] k l = absurd (omega arith)
size_at (r ∷ rs) zero l = omega arith
size_at (r ∷ rs) (suc k) l = let h = size_at rs k (omega arith) in omega (arith, h)

-- ---- the text with one requirement

module _ {s : List ℕ} {h : Head} {rs rows : List (List ℕ)} (w : Written s h rs rows) where
  abbrev front : List (List ℕ)
  front = w.front

  others : Each (λ (l : List ℕ). is_requirement l ≡ false) front
  others = each_map head_requires (head_lines w.begins)

  -- the requirements' lines begin the lines from the first of them on
  begin : from_first is_requirement (requirement_lines rs ++ rows) ≡ requirement_lines rs ++ rows
  unfolding requirement_lines
  begin = go rs w.some
    where
      go : (xs : List (List ℕ)) → 1 ≤ length xs → from_first is_requirement (requirement_lines xs ++ rows) ≡ requirement_lines xs ++ rows
      go [] l = absurd (omega arith)
      go (r ∷ xs) l = from_here is_requirement (requirement_line r) (requirement_lines xs ++ rows) (line_requires r)

  end : before_first is_requirement (requirement_lines rs ++ rows) ≡ []
  unfolding requirement_lines
  end = go rs w.some
    where
      go : (xs : List (List ℕ)) → 1 ≤ length xs → before_first is_requirement (requirement_lines xs ++ rows) ≡ []
      go [] l = absurd (omega arith)
      go (r ∷ xs) l = before_here is_requirement (requirement_line r) (requirement_lines xs ++ rows) (line_requires r)

  pub heads_are : head_lines_of s ≡ front
  heads_are = ap (before_first is_requirement) w.cuts ∙ (before_others is_requirement (requirement_lines rs ++ rows) others ∙ (ap (λ (x : List (List ℕ)). front ++ x) end ∙ append-nil front))

  behind_are : from_first is_requirement (lines s) ≡ requirement_lines rs ++ rows
  behind_are = ap (from_first is_requirement) w.cuts ∙ (from_others is_requirement (requirement_lines rs ++ rows) others ∙ begin)

  requirements_are : requirement_lines_of s ≡ requirement_lines rs
  requirements_are =
      ap (before_first is_other) behind_are
      ∙ (before_others is_other rows (all_require rs) ∙ (ap (λ (x : List (List ℕ)). requirement_lines rs ++ x) (none_left rows w.over) ∙ append-nil (requirement_lines rs)))

  rows_are : row_lines_of s ≡ rows
  rows_are = ap (from_first is_other) behind_are ∙ (from_others is_other rows (all_require rs) ∙ all_left rows w.over)

  module _ (k : ℕ) (l : k < length rs) where
    abbrev kept : List (List ℕ)
    kept = requirement_line (get_or rs k []) ∷ []

    only_is : only k s ≡ joined (front ++ (requirement_line (get_or rs k []) ∷ rows))
    unfolding only
    only_is = rw (heads_are, requirements_are, rows_are, line_at rs k l) refl

    fed : Each Fed (front ++ kept)
    fed = each_append (each_map (λ x y. y.fed) (head_lines w.begins)) (also (each_at rs k l (requirement_lines_fed s (size front) rs rows (lines_behind front (requirement_lines rs ++ rows) s w.cuts))) none)

    only_lines : lines (only k s) ≡ front ++ (requirement_lines (get_or rs k [] ∷ []) ++ rows)
    unfolding requirement_lines
    only_lines =
        ap lines (only_is ∙ (ap joined (sym (append_assoc front kept rows)) ∙ joined_append (front ++ kept) rows))
        ∙ (joined_lines (joined rows) fed
        ∙ (ap (λ (x : List (List ℕ)). (front ++ kept) ++ x) (joined_rows w)
        ∙ append_assoc front kept rows))

    only_short : length (only k s) ≤ length s
    unfolding size
    only_short =
        let a : length (only k s) ≡ size (front ++ (requirement_line (get_or rs k []) ∷ rows)) = ap length only_is ∙ joined_length _ in
        let b : size (front ++ (requirement_line (get_or rs k []) ∷ rows)) ≡ size front + (length (requirement_line (get_or rs k [])) + size rows) = size_append front (requirement_line (get_or rs k []) ∷ rows) in
        let c = written_size w in
        let d = size_at rs k l in
        omega (arith, a, b, c, d)

    -- the same head, the one requirement, the same rows
    pub only_written : Written (only k s) h (get_or rs k [] ∷ []) rows
    only_written = record {
      front = front;
      short = omega (arith, only_short, w.short);
      cuts = only_lines;
      begins = w.begins;
      some = omega arith;
      over = w.over;
      listed = w.listed;
    }
