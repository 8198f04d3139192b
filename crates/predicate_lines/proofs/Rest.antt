-- One line at a time: the lines that are left give what all of them give. Each takes a larger number than the one before, of sixteen, so they end.
-- Assumes nothing.
use mathlib.Core.Path.{◌≡◌, refl, sym, ap, ◌∙◌}
use mathlib.Core.List.{List}
use mathlib.Core.Bool.{true, false, cond}
use Prim.Native.Nat.{ℕ, zero, suc, ◌+◌, ◌-◌, ◌≤◌, ◌<◌}
use native.Mathlib.Omega.{arith}
use lib.Dec.{ltb}
use borrow.Author.Tests.{lt-ltb, le-ltb}
use Rattle.text.specs.Bytes.{bytes}
use Rattle.text.specs.Mark.{key_at}
use Rattle.std.specs.Prelude.{Option, Some, None}
use Rattle.text.specs.Mark.{after}
use Rattle.text.specs.declared.Read.{Read}
use Rattle.recordings.specs.declared.Predicate.{Predicate}
use Rattle.predicate_lines.specs.declared.NumberedPredicate.{NumberedPredicate}
use Rattle.predicate_lines.specs.Form.{unset}
use Rattle.predicate_lines.specs.Reading.{line_at, stored_in, lines_from, lines_at}
use Rattle.predicate_lines.proofs.Written.{line_is}

-- ---- a turn

module _ (f : ℕ) (s : List ℕ) (least : ℕ) (ps : Read (List Predicate)) where
  pub turn_over : key_at (bytes "p=") s ps.next ≡ false → lines_from f s least ps ≡ Some ps
  unfolding lines_from
  turn_over h = go f
    where
      go : (k : ℕ) → lines_from k s least ps ≡ Some ps
      go zero = refl
      go (suc k) = rw h

  -- what a line leaves to the turns behind it
  abbrev pub behind : Option (Read NumberedPredicate) → Option (Read (List Predicate))
  behind x = after x (λ l. cond (ltb l.value.number least) None (lines_from f s (l.value.number + 1) (stored_in ps l))) None

  pub turn_line : key_at (bytes "p=") s ps.next ≡ true → lines_from (suc f) s least ps ≡ behind (line_at s ps.next)
  unfolding lines_from
  turn_line h = rw h

-- a line that was read has one of sixteen numbers
pub line_known : (s : List ℕ) (at : ℕ) (l : Read NumberedPredicate) → line_at s at ≡ Some l → l.value.number < 16
line_known s at l e = omega (arith, (line_is s at l e).2.known)

-- ---- what is left

-- the lines before a place are read; behind them, a turn for each number that is left and one more are enough
pub record Rest (s : List ℕ) (at least : ℕ) (ps : Read (List Predicate)) : Type 0 where
  pub turns : ℕ
  pub enough : 17 ≤ least + turns
  pub few : least ≤ 16
  pub same : lines_from turns s least ps ≡ lines_at s at

pub rest_start : (s : List ℕ) (at : ℕ) → Rest s at 0 (record { value = unset; next = at })
unfolding lines_at
rest_start s at = record { turns = 17; enough = omega arith; few = omega arith; same = refl }

module _ (s : List ℕ) (at least : ℕ) (ps : Read (List Predicate)) (i : Rest s at least ps) where
  pub rest_over : key_at (bytes "p=") s ps.next ≡ false → Some ps ≡ lines_at s at
  rest_over h = sym (turn_over i.turns s least ps h) ∙ i.same

  module _ (h : key_at (bytes "p=") s ps.next ≡ true) where
    rest_turn : behind (i.turns - 1) s least ps (line_at s ps.next) ≡ lines_at s at
    rest_turn =
        let g : i.turns ≡ suc (i.turns - 1) = omega (arith, i.enough, i.few) in
        sym (turn_line (i.turns - 1) s least ps h) ∙ (ap (λ (f : ℕ). lines_from f s least ps) (sym g) ∙ i.same)

    pub rest_bad : line_at s ps.next ≡ None → None ≡ lines_at s at
    rest_bad b = rw b at rest_turn

    module _ (l : Read NumberedPredicate) (b : line_at s ps.next ≡ Some l) where
      pub rest_below : l.value.number < least → None ≡ lines_at s at
      rest_below t = rw (b, lt-ltb l.value.number least t) at rest_turn

      module _ (t : least ≤ l.value.number) where
        pub rest_less : 16 - (l.value.number + 1) < 16 - least
        rest_less = omega (arith, line_known s ps.next l b)

        pub rest_more : Rest s at (l.value.number + 1) (stored_in ps l)
        rest_more = record {
          turns = i.turns - 1;
          enough = omega (arith, i.enough);
          few = omega (arith, line_known s ps.next l b);
          same = rw (b, le-ltb l.value.number least t) at rest_turn;
        }
