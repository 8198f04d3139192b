-- The tests that the row reader makes one after the other give the first number whose condition holds; and what is stored is a function of the measured rows
-- and of the count of filled ones, so no figure of a filled row reaches it.
-- Assumes nothing.
use mathlib.Core.Path.{◌≡◌, refl}
use mathlib.Core.List.{List}
use mathlib.Core.Bool.{true, false, ◌&&◌}
use Prim.Native.Nat.{ℕ, ◌*◌, ◌≤◌}
use native.Mathlib.Omega.{arith}
use lib.ListN.{length}
use lib.IntN.{ℤ}
use lib.Dec.{leb}
use borrow.Author.Tests.{leb-true, le-leb}
use Rattle.text.proofs.Tests.{both}
use Rattle.recordings.specs.Accepted.{MOST_ROWS, MOST_CHANNELS}
use Rattle.refusals.specs.First.{first, unless_refused}
use Rattle.std.specs.Prelude.{Some, None}
use Rattle.row_lines.specs.declared.Counts.{Counts}
use Rattle.row_lines.specs.Form.{Sample, ChannelsInRange}
use Rattle.row_lines.specs.Reading.{limit, channels_in_range, Listing, listed, broken, rows_of, counts}
use Rattle.row_lines.specs.Same.{SameButFilled}
use Rattle.row_lines.proofs.Exact.{rows_alike}
use Rattle.lists.specs.Front.{in_front}
use Rattle.sheet_rows.specs.Answer.{has_room, RoomFor, no_rows, answer_of, times_of, values_of}
use Rattle.sheet_rows.specs.Room.{Fitting}

listed_as : (x : Listing) (c : Counts) → counts x ≡ Some c → (xs : List Sample) × (x ≡ listed xs c.filled) × (length xs ≡ c.rows)
listed_as (listed xs j) c h = let e : j ≡ c.filled = cc in (xs, rw e, cc)
listed_as broken c h = let z : ◌≡◌ {A = ℕ} 0 1 = cc in absurd (omega arith)

uncounted : (x : Listing) → counts x ≡ None → x ≡ broken
uncounted (listed xs k) h = let z : ◌≡◌ {A = ℕ} 0 1 = cc in absurd (omega arith)
uncounted broken h = refl

-- ---- the tests are their sentences

pub channels_are : (ch : ℕ) → channels_in_range ch ≡ true → ChannelsInRange ch
channels_are ch h = let b = both (leb 1 ch) (leb ch MOST_CHANNELS) h in (leb-true 1 ch b.0, leb-true ch MOST_CHANNELS b.1)

pub are_channels : (ch : ℕ) → ChannelsInRange ch → channels_in_range ch ≡ true
are_channels ch w = rw (le-leb 1 ch w.0, le-leb ch MOST_CHANNELS w.1)

pub room_for : (m ch nt nv : ℕ) → has_room m ch nt nv ≡ true → RoomFor m ch nt nv
room_for m ch nt nv h =
    let a = both (leb m MOST_ROWS) (leb m nt && leb (m * ch) nv) h in
    let b = both (leb m nt) (leb (m * ch) nv) a.1 in
    record { few = leb-true m MOST_ROWS a.0; times_hold = leb-true m nt b.0; values_hold = leb-true (m * ch) nv b.1 }

pub for_room : (m ch nt nv : ℕ) → RoomFor m ch nt nv → has_room m ch nt nv ≡ true
for_room m ch nt nv r = rw (le-leb m MOST_ROWS r.few, le-leb m nt r.times_hold, le-leb (m * ch) nv r.values_hold)

-- ---- what is answered, by the tests in the order in which they are made

module _ (s : List ℕ) (ch nt nv : ℕ) where
  pub answer_long : leb (length s) limit ≡ false → no_rows 1 ≡ answer_of s ch nt nv
  unfolding first
  answer_long l = rw l

  module _ (l : leb (length s) limit ≡ true) where
    pub answer_width : channels_in_range ch ≡ false → no_rows 4 ≡ answer_of s ch nt nv
    unfolding first
    answer_width w = rw (l, w)

    module _ (w : channels_in_range ch ≡ true) where
      pub answer_broken : counts (rows_of ch s) ≡ None → no_rows 1 ≡ answer_of s ch nt nv
      unfolding first
      answer_broken h = rw (l, w, uncounted (rows_of ch s) h)

      module _ (n : Counts) (h : counts (rows_of ch s) ≡ Some n) where
        pub answer_many : has_room n.rows ch nt nv ≡ false → no_rows 5 ≡ answer_of s ch nt nv
        unfolding first
        answer_many t = let c = listed_as (rows_of ch s) n h in rw (l, w, c.1, c.2, t)

        pub answer_fits : has_room n.rows ch nt nv ≡ true → record { number = 0; rows = n.rows; filled = n.filled } ≡ answer_of s ch nt nv
        unfolding first
        answer_fits t = let c = listed_as (rows_of ch s) n h in rw (l, w, c.1, c.2, t)

        pub fitting : has_room n.rows ch nt nv ≡ true → Fitting s ch nt nv
        fitting t =
            let c = listed_as (rows_of ch s) n h in
            let r = room_for n.rows ch nt nv t in
            record { samples = c.0; filled = n.filled; reads = c.1; rows_fit = rw c.2 r.times_hold; values_fit = rw c.2 r.values_hold }

-- ---- two texts within the size limit that differ in filled rows alone

pub same_answer : (a b : List ℕ) → length a ≤ limit → length b ≤ limit → SameButFilled a b → (ch nt nv : ℕ) → answer_of a ch nt nv ≡ answer_of b ch nt nv
unfolding first
same_answer a b l m h ch nt nv = rw (le-leb (length a) limit l, le-leb (length b) limit m, rows_alike a b h ch)

-- and equal slices are left equal, whatever the number
pub same_times : (a b : List ℕ) → SameButFilled a b → (ch number : ℕ) (times : List ℕ) → unless_refused number (in_front (times_of (rows_of ch a)) times) times ≡ unless_refused number (in_front (times_of (rows_of ch b)) times) times
same_times a b h ch number times = rw (rows_alike a b h ch)

pub same_values : (a b : List ℕ) → SameButFilled a b → (ch number : ℕ) (values : List ℤ) → unless_refused number (in_front (values_of (rows_of ch a)) values) values ≡ unless_refused number (in_front (values_of (rows_of ch b)) values) values
same_values a b h ch number values = rw (rows_alike a b h ch)
