-- What is stored from the front on stands before what is kept, and where there is room for all of it, it is what the slice begins with.
-- Assumes nothing.
use mathlib.Core.Path.{◌≡◌}
use mathlib.Core.List.{List, ◌++◌}
use Prim.Native.Nat.{ℕ, ◌≤◌, min}
use native.Mathlib.Nat.{zero-add}
use native.Mathlib.Omega.{arith}
use native.Mathlib.Decide.{dec_le}
use lib.ListN.{length, take, drop, drop_of_length-le}
use lib.Seq.{sets, sets-eq, take_all}
use Rattle.lists.specs.Front.{in_front, written}

pub front : {A : Type 0} (vs l : List A) → length vs ≤ length l → sets l 0 vs ≡ in_front vs l
front vs l h = rw zero-add at (sets-eq vs l 0 (omega arith))

pub written_in_front : {X : Type 0} (new old : List X) → length new ≤ length old → written new old ≡ in_front new old
unfolding written
written_in_front new old r = rw (take_all (length old) new r)

-- as far as the shorter of the two goes
pub written_both : {X : Type 0} (new old : List X) (n : ℕ) → n ≡ min (length new) (length old) → take n new ++ drop n old ≡ written new old
unfolding written
written_both new old n e = go (dec_le (length new) (length old))
  where
    go : Dec (length new ≤ length old) → take n new ++ drop n old ≡ take (length old) new ++ drop (length new) old
    go (yes h) =
        let l : n ≡ length new = omega arith in
        rw (l, take_all (length old) new h, take_all (length new) new (omega arith))
    go (no h) =
        let l : n ≡ length old = omega arith in
        rw (l, drop_of_length-le old {i = length old} (omega arith), drop_of_length-le old {i = length new} (omega arith))
