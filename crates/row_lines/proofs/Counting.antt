-- Counting the rows one by one: what was counted and what is left are together the counts of the whole text.
-- Assumes nothing.
use mathlib.Core.Path.{◌≡◌, refl, sym, ◌∙◌}
use mathlib.Core.List.{List}
use Prim.Native.Nat.{ℕ, suc, ◌+◌, ◌-◌, ◌≤◌, ◌<◌}
use native.Mathlib.Nat.{zero-add, add-zero}
use native.Mathlib.Omega.{arith}
use lib.ListN.{length}
use Rattle.row_lines.specs.declared.RowLine.{RowLine}
use Rattle.std.specs.Prelude.{Option, Some, None}
use Rattle.row_lines.specs.declared.Counts.{Counts}
use Rattle.row_lines.specs.Form.{Sample}
use Rattle.row_lines.specs.Reading.{measured_row, filled_row, row_at, Listing, listed, broken, also_measured, also_filled, sample_at, rows_from, rows_of, counts}
use Rattle.row_lines.proofs.Exact.{row_past, rows_over, rows_turn}

-- the counts after m measured and k filled rows
abbrev tally : ℕ → ℕ → Listing → Option Counts
tally m k (listed xs f) = Some (record { rows = m + length xs; filled = k + f })
tally m k broken = None

tally_none : (x : Listing) → tally 0 0 x ≡ counts x
tally_none (listed xs f) = simp zero-add
tally_none broken = refl

tally_measured : (m k : ℕ) (x : Sample) (y : Listing) → tally m k (also_measured x y) ≡ tally (m + 1) k y
tally_measured m k x (listed xs f) = let e : m + suc (length xs) ≡ m + 1 + length xs = omega arith in rw e
tally_measured m k x broken = refl

tally_filled : (m k : ℕ) (y : Listing) → tally m k (also_filled y) ≡ tally m (k + 1) y
tally_filled m k (listed xs f) = let e : k + suc f ≡ k + 1 + f = omega arith in rw e
tally_filled m k broken = refl

-- the rows before a place are counted
pub record Counting (ch : ℕ) (s : List ℕ) (at m k : ℕ) : Type 0 where
  pub fuel : ℕ
  pub enough : length s ≤ at + fuel
  pub few : m + k ≤ at
  pub same : tally m k (rows_from fuel ch s at) ≡ counts (rows_of ch s)

pub count_start : (ch : ℕ) (s : List ℕ) → Counting ch s 0 0 0
count_start ch s = record { fuel = length s; enough = omega arith; few = omega arith; same = tally_none (rows_of ch s) }

module _ (ch : ℕ) (s : List ℕ) (at m k : ℕ) (i : Counting ch s at m k) where
  pub count_over : length s ≤ at → Some (record { rows = m; filled = k }) ≡ counts (rows_of ch s)
  count_over l =
      let e : Some (record { rows = m + 0; filled = k + 0 }) ≡ counts (rows_of ch s) = rw (rows_over i.fuel ch s at l) at i.same in
      simp add-zero at e

  module _ (x : Option RowLine) (l : at < length s) (e : x ≡ row_at s at ch) where
    pub count_bad : x ≡ None → None ≡ counts (rows_of ch s)
    count_bad h = rw (rows_turn i.fuel ch s at None i.enough l (sym h ∙ e)) at i.same

    pub count_measured : (t a n : ℕ) → x ≡ measured_row t a n → (at < n) × Counting ch s n (m + 1) k
    count_measured t a n h =
        let p : at < n = row_past ch s at (measured_row t a n) (sym h ∙ e) in (
          p,
          record {
            fuel = i.fuel - 1;
            enough = omega (arith, i.enough);
            few = omega (arith, i.few);
            same = sym (tally_measured m k (sample_at s ch t a) (rows_from (i.fuel - 1) ch s n))
                ∙ (rw (rows_turn i.fuel ch s at (measured_row t a n) i.enough l (sym h ∙ e)) at i.same);
          },
        )

    pub count_filled : (n : ℕ) → x ≡ filled_row n → (at < n) × Counting ch s n m (k + 1)
    count_filled n h =
        let p : at < n = row_past ch s at (filled_row n) (sym h ∙ e) in (
          p,
          record {
            fuel = i.fuel - 1;
            enough = omega (arith, i.enough);
            few = omega (arith, i.few);
            same = sym (tally_filled m k (rows_from (i.fuel - 1) ch s n))
                ∙ (rw (rows_turn i.fuel ch s at (filled_row n) i.enough l (sym h ∙ e)) at i.same);
          },
        )
