-- Until along a row of places is true exactly where a witness stands: a place in the window with right there and left at every place before it.
-- Assumes nothing.
use mathlib.Core.Bool.{Bool, true, false, ◌&&◌, cond}
use Prim.Native.Nat.{ℕ, ◌<◌}
use lib.Dec.{T}
use Rattle.lists.specs.Fold.{all_below}
use Rattle.lists.proofs.Below.{all_at, at_all, any_at, at_any}
use Rattle.logic.specs.declared.Window.{Window}
use Rattle.logic.specs.Window.{inside}
use Rattle.logic.specs.declared.Extremum.TheVariants.{Largest}
use Rattle.logic.specs.Reading.{along, booleans}

pub record Witness (w : Window) (d : ℕ → ℕ) (l r : ℕ → Bool) (n : ℕ) : Type 0 where
  pub spot : ℕ
  pub in_row : spot < n
  pub in_window : T (inside w (d spot))
  pub right : T (r spot)
  pub left : (q : ℕ) → q < spot → T (l q)

apart : (a b c : Bool) → T (cond a (b && c) false) → T a × T b × T c
apart true true c t = (tt, tt, t)
apart true false c t = absurd t
apart false b c t = absurd t

joined : (a b c : Bool) → T a → T b → T c → T (cond a (b && c) false)
joined true true c x y z = z
joined true false c x y z = absurd y
joined false b c x y z = absurd x

module _ {w : Window} {d : ℕ → ℕ} {l r : ℕ → Bool} {n : ℕ} where
  pub of_witness : Witness w d l r n → T (along booleans Largest w d l r n)
  of_witness u = at_any _ n u.spot u.in_row (joined (inside w (d u.spot)) (r u.spot) (all_below l u.spot) u.in_window u.right (at_all l u.spot u.left))

  pub witness_of : T (along booleans Largest w d l r n) → Witness w d l r n
  witness_of t =
      let f = any_at _ n t in
      let g = apart (inside w (d f.0)) (r f.0) (all_below l f.0) f.2 in
      record { spot = f.0; in_row = f.1; in_window = g.0; right = g.1; left = all_at l f.0 g.2 }
