-- One turn of the row: the edges move on, then what slides along does, then place i is filled. What is found there among places, with the window's edges, is the
-- reading over times.
-- Assumes nothing.
use mathlib.Core.Path.{◌≡◌, refl, sym, ◌∙◌}
use mathlib.Core.List.{List}
use Prim.Native.Nat.{ℕ, ◌+◌, ◌*◌, ◌-◌, ◌≤◌, ◌<◌, max}
use native.Mathlib.Omega.{arith}
use lib.IntN.{ℤ, pos}
use lib.ListN.{length, set}
use lib.Seq.{get_or-set_other}
use Rattle.std.specs.Option.{unwrap_or}
use Rattle.std.specs.Prelude.{Option}
use Rattle.lists.proofs.Reused.{Reused, reused_length, reused_else, reused_next}
use Rattle.logic.specs.declared.Stop.TheVariants.{Before}
use Rattle.logic.specs.declared.Window.{Window}
use Rattle.logic.specs.declared.Extremum.{Extremum}
use Rattle.logic.specs.Formula.{dual}
use Rattle.logic.specs.Reading.{along, margins}
use Rattle.logic.proofs.Steps.{along_cong}
use Rattle.recordings.specs.Distance.{TOP}
use Rattle.rows.specs.Cells.{cell, Bounded}
use Rattle.sliding.specs.declared.SlidingExtremum.{SlidingExtremum}
use Rattle.sliding.specs.Run.{sliding_over, next_cut, suffixed}
use Rattle.sliding.specs.Asks.{Sliding, AdvanceAsks}
use Rattle.sliding.proofs.Over.{over_cong}
use Rattle.sliding.proofs.Moves.{cut_below, sliding_advanced, sliding_kept}
use Rattle.sliding.proofs.Suffixes.{suffixed_at}
use Rattle.temporal.specs.Reading.{left_at}
use Rattle.temporal.specs.Edges.{Edge}
use Rattle.temporal.specs.Slid.{if_left, slid_at}
use Rattle.temporal.specs.Asks.{TemporalAsks}
use Rattle.temporal.proofs.Along.{between}
use Rattle.temporal.proofs.Edges.{reached_next, edge_rises, edges_inside}
use Rattle.temporal.proofs.Slid.{if_left_holds, if_left_le, operand_earlier}
use Rattle.temporal.proofs.Row.{left_kept, value, SoFar, kept}

-- the edges have moved on to first and end, and what slides along is to move to low and high
pub record Turn (x : Extremum) (v : Window) (times : List ℕ) (left : Option ℕ) (right row : ℕ) (w l : List ℤ) (s : SlidingExtremum) (i first end operand : ℕ) (by : Extremum) (low high : ℕ) : Type 0 where
  pub first_before : ℕ
  pub end_before : ℕ
  pub so_far : SoFar x v times left right row w l s first_before end_before i
  pub inside : i < length times
  pub first_edge : Edge times (Before v.from) i first
  pub end_edge : Edge times v.stop i end
  pub operand_is : operand ≡ unwrap_or left right
  pub by_is : by ≡ if_left left (dual x) x
  pub low_is : low ≡ if_left left i first
  pub high_is : high ≡ if_left left first end

module _ {x : Extremum} {v : Window} {times : List ℕ} {left : Option ℕ} {right row : ℕ} {w l : List ℤ} {s : SlidingExtremum} {i first end operand : ℕ} {by : Extremum} {low high : ℕ} (asks : TemporalAsks w times left right row) (T : Turn x v times left right row w l s i first end operand by low high) where
  abbrev n : ℕ
  n = length times

  abbrev f : ℕ → ℤ
  f = value x v times left right row w

  reused_now : Reused (row * n) n f (pos 0) w l i
  reused_now = T.so_far.reused

  high_inside : high ≤ n
  high_inside = rw T.high_is (if_left_holds (λ (j : ℕ). j ≤ n) left T.first_edge.short.in_times T.end_edge.short.in_times)

  low_inside : low ≤ n
  low_inside = rw T.low_is (if_left_holds (λ (j : ℕ). j ≤ n) left (omega (arith, T.inside)) T.first_edge.short.in_times)

  low_from : i ≤ low
  low_from = rw T.low_is (if_left_holds (λ (j : ℕ). i ≤ j) left (omega arith) T.first_edge.from)

  onward : s.high ≤ high
  onward = rw (T.high_is, T.so_far.high_is) (if_left_le left (edge_rises T.so_far.begun T.first_edge) (edge_rises T.so_far.ended T.end_edge))

  earlier : operand < row
  earlier = rw T.operand_is (operand_earlier left asks.left_earlier asks.right_earlier)

  -- the operand's values are those at the beginning
  values_kept : (j : ℕ) → j < n → cell w n (unwrap_or left right) j ≡ cell l n operand j
  values_kept j h = rw (← T.operand_is) (sym (kept x v times left right row w reused_now operand earlier j h))

  moving : Sliding by (cell l n operand) (cell l n row) s low
  moving =
      rw T.by_is
      (sliding_kept T.so_far.sliding n low (cell l n operand) (cell l n row)
      (rw T.low_is (if_left_le left (omega arith) (omega (arith, T.first_edge.from, edge_rises T.so_far.begun T.first_edge))))
      (omega (arith, onward, high_inside)) values_kept (λ j a q. refl))

  pub advance_asks : AdvanceAsks l n operand row by s low high
  advance_asks = record {
    above = record { earlier = earlier; room = omega (arith, asks.room, reused_length (row * n) n f reused_now) };
    inside = high_inside;
    onward = onward;
    sliding = moving;
  }

  -- the cells, and what slides along, after the move
  module _ {l' : List ℤ} {s' : SlidingExtremum} (m : s' ≡ sliding_over by (cell l n operand) low (next_cut s.cut low high) high) (e : l' ≡ suffixed by (cell l n operand) (row * n) low (next_cut s.cut low high) l) where
    cut_inside : next_cut s.cut low high ≤ high
    cut_inside = cut_below s.cut low high (omega (arith, moving.ordered, onward))

    after : Sliding by (cell l n operand) (cell l' n row) s' low
    after =
        rw m
        (sliding_advanced moving high (cell l' n row) onward
        (suffixed_at by (cell l n operand) (row * n) low (next_cut s.cut low high) l e (omega (arith, cut_inside, high_inside, asks.room, reused_length (row * n) n f reused_now))))

    reused_still : Reused (row * n) n f (pos 0) w l' i
    reused_still = reused_else (row * n) n f i (row * n + low) (next_cut s.cut low high - low) _ reused_now (omega (arith, low_from)) (omega (arith, cut_inside, high_inside, low_inside)) e

    pub advanced_length : length l' ≡ length w
    advanced_length = reused_length (row * n) n f reused_still

    still : (q : ℕ) → q < row → (j : ℕ) → j < n → cell l' n q j ≡ cell w n q j
    still = kept x v times left right row w reused_still

    pub right_bounded : Bounded l' n right
    right_bounded = record { bounded = λ j q. rw (still right asks.right_earlier j q) (asks.right_bounded.bounded j q) }

    pub slid_value : s'.value ≡ slid_at x l' n left right i first end
    slid_value =
        rw (m, ← T.by_is, ← T.operand_is, ← T.low_is, ← T.high_is)
        (over_cong by (cell l n operand) (cell l' n operand) low high (λ j a q.
        kept x v times left right row w reused_now operand earlier j (omega (arith, high_inside)) ∙ sym (still operand earlier j (omega (arith, high_inside)))))

    pub place_value : along (margins TOP) x (between first end) (λ k. i + k) (λ k. left_at x l' n left (i + k)) (λ k. cell l' n right (i + k)) (n - i) ≡ f i
    place_value =
        along_cong (margins TOP) x (between first end) v _ _ _ _ _ _ (n - i)
        (λ k q. edges_inside v i first end T.first_edge T.end_edge (i + k) (omega arith) (omega arith))
        (λ k q. left_kept x left w l' n row still asks.left_earlier (i + k) (omega arith))
        (λ k q. still right asks.right_earlier (i + k) (omega arith))

    pub next_so_far : {u : ℤ} → u ≡ f i → SoFar x v times left right row w (set l' (row * n + i) u) s' first end (i + 1)
    next_so_far {u} p = record {
      reused = reused_next (row * n) n f i reused_still T.inside (omega (arith, asks.room, advanced_length)) p;
      begun = reached_next asks.times_rise (Before v.from) i first T.first_edge.short;
      ended = reached_next asks.times_rise v.stop i end T.end_edge.short;
      high_is = rw m T.high_is;
      sliding =
          rw (← T.by_is)
          (sliding_kept after n (if_left left (i + 1) (max (i + 1) first)) (cell w n (unwrap_or left right)) (cell (set l' (row * n + i) u) n row)
          (rw T.low_is (if_left_le left (omega arith) (omega arith)))
          (rw m high_inside)
          (λ j q. sym (values_kept j q))
          (λ j a q.
          let b : i + 1 ≤ if_left left (i + 1) (max (i + 1) first) = if_left_holds (λ (k : ℕ). i + 1 ≤ k) left (omega arith) (omega arith) in
          sym (get_or-set_other l' (row * n + i) (row * n + j) u (pos 0) (λ (y : row * n + j ≡ row * n + i). omega arith))));
    }
