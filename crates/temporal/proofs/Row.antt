-- The row before place i: the places before it are filled. Both operands' rows stand before the row, so they are as they were, whatever stands
-- meanwhile in the row's own places.
-- Assumes nothing.
use mathlib.Core.Path.{◌≡◌, refl}
use mathlib.Core.List.{List}
use Prim.Native.Nat.{ℕ, ◌+◌, ◌*◌, ◌≤◌, ◌<◌, max}
use native.Mathlib.Omega.{arith}
use lib.IntN.{ℤ, pos}
use lib.ListN.{length}
use Rattle.std.specs.Option.{unwrap_or}
use Rattle.std.specs.Prelude.{Option, Some, None}
use Rattle.lists.specs.Fill.{fill}
use Rattle.lists.proofs.Filled.{earlier_row}
use Rattle.lists.proofs.Reused.{Reused, reused_none, reused_before, reused_all}
use Rattle.logic.specs.declared.Stop.TheVariants.{Before}
use Rattle.logic.specs.declared.Window.{Window}
use Rattle.logic.specs.declared.Extremum.{Extremum}
use Rattle.logic.specs.Formula.{dual}
use Rattle.logic.specs.declared.Direction.TheVariants.{Future}
use Rattle.rows.specs.Cells.{cell}
use Rattle.sliding.specs.declared.SlidingExtremum.{SlidingExtremum}
use Rattle.sliding.specs.Run.{at_start}
use Rattle.sliding.specs.Asks.{Sliding}
use Rattle.sliding.proofs.Moves.{sliding_start}
use Rattle.temporal.specs.Reading.{places, left_at, temporal_at, LeftEarlier}
use Rattle.temporal.specs.Edges.{Reached}
use Rattle.temporal.specs.Slid.{if_left}
use Rattle.temporal.proofs.Edges.{reached_none}
use Rattle.temporal.proofs.Slid.{if_left_same}

pub left_kept : (x : Extremum) (left : Option ℕ) (w l : List ℤ) (n row : ℕ) → ((q : ℕ) → q < row → (j : ℕ) → j < n → cell l n q j ≡ cell w n q j) → LeftEarlier row left → (i : ℕ) → i < n → left_at x l n left i ≡ left_at x w n left i
left_kept x (Some r) w l n row kept h i q = kept r h i q
left_kept x None w l n row kept h i q = refl

module _ (x : Extremum) (v : Window) (times : List ℕ) (left : Option ℕ) (right row : ℕ) (w : List ℤ) where
  -- the row's values
  abbrev pub value : ℕ → ℤ
  value = temporal_at Future x v (places times) (left_at x w (length times) left) (cell w (length times) right)

  -- before place i: the places before it are filled, the edges are those of the place before, and so is what slides along
  pub record SoFar (l : List ℤ) (s : SlidingExtremum) (first end i : ℕ) : Type 0 where
    pub reused : Reused (row * length times) (length times) value (pos 0) w l i
    pub begun : Reached times (Before v.from) i first
    pub ended : Reached times v.stop i end
    pub high_is : s.high ≡ if_left left first end
    -- the next run begins at no earlier place
    pub sliding : Sliding (if_left left (dual x) x) (cell w (length times) (unwrap_or left right)) (cell l (length times) row) s (if_left left i (max i first))

  pub none_so_far : SoFar w (at_start (if_left left (dual x) x)) 0 0 0
  none_so_far = record {
    reused = reused_none (row * length times) (length times) value (pos 0) w;
    begun = reached_none (Before v.from);
    ended = reached_none v.stop;
    high_is = if_left_same left 0;
    sliding = sliding_start (if_left left (dual x) x) (cell w (length times) (unwrap_or left right)) (cell w (length times) row) (if_left left 0 0);
  }

  -- earlier rows are as they were
  pub kept : {l : List ℤ} {i : ℕ} → Reused (row * length times) (length times) value (pos 0) w l i → (q : ℕ) → q < row → (j : ℕ) → j < length times → cell l (length times) q j ≡ cell w (length times) q j
  kept R q h j k = reused_before (row * length times) (length times) value R (q * length times + j) (omega (arith, earlier_row q row (length times) h))

  pub all_so_far : {l : List ℤ} {s : SlidingExtremum} {first end i : ℕ} → SoFar l s first end i → length times ≤ i → l ≡ fill (row * length times) (length times) value w
  all_so_far S h = reused_all (row * length times) (length times) value S.reused h
