-- A loop that writes into a slice: after i turns its first i places are new. It ends where the new contents or the slice end.
-- Assumes nothing.
use mathlib.Core.Path.{◌≡◌, refl, ◌∙◌}
use mathlib.Core.List.{List, ◌++◌}
use Prim.Native.Nat.{ℕ, ◌+◌, ◌≤◌, ◌<◌}
use native.Mathlib.Nat.{zero-add}
use native.Mathlib.Numerals.{add-one}
use native.Mathlib.Omega.{arith}
use lib.ListN.{length, get_or, take, drop, set, length-set, drop_of_length-le}
use lib.Seq.{paste-suc, take_all}
use Rattle.lists.specs.Front.{written}

pub record Writing {X : Type 0} (new old out : List X) (i : ℕ) : Type 0 where
  pub inside : i ≤ length new
  pub room : i ≤ length old
  pub long : length out ≡ length old
  pub front : out ≡ take i new ++ drop i old

module _ {X : Type 0} (new old : List X) where
  pub start : Writing new old old 0
  start = record { inside = omega arith; room = omega arith; long = refl; front = refl }

  pub next : (out : List X) (i : ℕ) (v d : X) → Writing new old out i → i < length new → (i ≡ length out → ⊥) → v ≡ get_or new i d → Writing new old (set out i v) (i + 1)
  next out i v d w h k e =
      let r : i < length old = omega (arith, w.room, w.long, k) in
      record {
        inside = omega arith;
        room = omega arith;
        long = length-set out i v ∙ w.long;
        front = rw (add-one, w.front, e) (simp zero-add at (paste-suc old 0 new i d (omega arith) h));
      }

  -- the slice ends first
  pub full : (out : List X) (i : ℕ) → Writing new old out i → i < length new → i ≡ length out → out ≡ written new old
  unfolding written
  full out i w h e =
      let l : i ≡ length old = e ∙ w.long in
      rw (← l, drop_of_length-le old {i = length new} (omega arith)) (w.front ∙ rw (drop_of_length-le old {i = i} (omega arith)))

  -- the new contents end first
  pub over : (out : List X) (i : ℕ) → Writing new old out i → length new ≤ i → out ≡ written new old
  unfolding written
  over out i w h =
      let l : i ≡ length new = omega (arith, w.inside) in
      rw (take_all (length old) new (omega (arith, w.room)), ← l) (w.front ∙ rw (take_all i new (omega arith)))
