-- The parts' readers one after the other: the first that fails refuses the sheet, and the last gives it.
-- Assumes nothing.
use mathlib.Core.Path.{◌≡◌, refl, sym}
use mathlib.Core.List.{List}
use mathlib.Core.Bool.{Bool, true, false}
use Prim.Native.Nat.{ℕ, ◌≤◌, ◌<◌}
use lib.ListN.{length}
use lib.Dec.{ltb}
use borrow.Author.Tests.{le-leb, lt-leb}
use Rattle.refusals.proofs.First.{unless_some}
use Rattle.row_lines.specs.Reading.{limit}
use Rattle.heads.specs.declared.Head.{Head}
use Rattle.std.specs.Prelude.{Option, Some, None}
use Rattle.text.specs.declared.Read.{Read}
use Rattle.heads.specs.Reading.{head_of}
use Rattle.requirement_lines.specs.declared.Requirements.{Requirements}
use Rattle.requirement_lines.specs.Form.{MOST_REQUIREMENTS}
use Rattle.requirement_lines.specs.Reading.{requirements_at, stored}
use Rattle.sheets.specs.Form.{SheetAnswer, blank}
use Rattle.sheets.specs.Sheets.{rows_kept, lines_kept, sheet_refusal, behind_head, sheet_of}

-- ---- what follows the head

module _ (s : List ℕ) (h : Head) where
  pub behind_none : blank 1 ≡ behind_head s h None
  unfolding behind_head
  behind_none = refl

  module _ (rs : Read Requirements) where
    pub lines_there : 1 ≤ rs.value.count → lines_kept s h rs ≡ rows_kept s rs.next h.setup.channels
    lines_there l = rw (le-leb _ _ l)

    -- by the refusal's number
    module _ (n : ℕ) (e : n ≡ sheet_refusal (lines_kept s h rs) rs.value.count) where
      pub behind_refused : (n ≡ 0 → ⊥) → blank n ≡ behind_head s h (Some rs)
      unfolding behind_head
      behind_refused z = rw (← e) (sym (unless_some n _ _ z))

      pub behind_read : n ≡ 0 → record { number = 0; head = h; count = rs.value.count; requirements = rs.value.places; rows = rs.next } ≡ behind_head s h (Some rs)
      unfolding behind_head
      behind_read z = rw (← e, z)

-- ---- the refusal

module _ (kept : Bool) (count : ℕ) where
  pub refusal_broken : kept ≡ false → 1 ≡ sheet_refusal kept count
  refusal_broken k = rw k

  pub refusal_crowded : kept ≡ true → MOST_REQUIREMENTS < count → 12 ≡ sheet_refusal kept count
  refusal_crowded k l = rw (k, lt-leb _ _ l)

  pub refusal_none : kept ≡ true → count ≤ MOST_REQUIREMENTS → 0 ≡ sheet_refusal kept count
  refusal_none k l = rw (k, le-leb _ _ l)

-- ---- the whole sheet

pub sheet_long : (s : List ℕ) → ltb limit (length s) ≡ true → blank 1 ≡ sheet_of s
unfolding sheet_of
sheet_long s l = rw l

module _ (s : List ℕ) (l : ltb limit (length s) ≡ false) where
  pub sheet_headless : head_of s ≡ None → blank 1 ≡ sheet_of s
  unfolding sheet_of
  sheet_headless o = rw (l, o)

  pub sheet_behind : (h : Read Head) → head_of s ≡ Some h → (x : Option (Read Requirements)) → stored (requirements_at s h.next) ≡ x
      → (y : SheetAnswer) → y ≡ behind_head s h.value x → y ≡ sheet_of s
  unfolding sheet_of
  sheet_behind h e x g y f = rw (l, e, g) f
