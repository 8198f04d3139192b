-- Until and release place by place: places outside the window, and all places after the carried value is beaten, are left out.
-- Assumes nothing.
use mathlib.Core.Path.{◌≡◌, refl, sym, ap, ◌∙◌}
use mathlib.Core.Bool.{Bool, true, false, cond, ◌&&◌}
use Prim.Native.Nat.{ℕ, zero, suc, ◌+◌, ◌-◌, ◌≤◌, ◌<◌}
use native.Mathlib.Omega.{arith}
use native.Mathlib.Decide.{dec_le}
use lib.Dec.{leb}
use lib.IntN.{ℤ}
use borrow.Author.Tests.{le-leb, lt-leb, lt-ltb, le-ltb}
use Rattle.numbers.specs.Order.{Within}
use Rattle.logic.specs.declared.Stop.TheVariants.{Before}
use Rattle.logic.specs.declared.Window.{Window}
use Rattle.logic.specs.Window.{inside}
use Rattle.logic.specs.declared.Extremum.{Extremum}
use Rattle.logic.specs.Formula.{dual}
use Rattle.logic.specs.Reading.{extremum, along, margins, margin_extreme, margin_nothing}
use Rattle.recordings.specs.Distance.{TOP}
use Rattle.sliding.specs.Run.{over}
use Rattle.logic.proofs.Beaten.{nothing_moves, nothing_carried, along_outside, along_settled}

-- the window of the places from `first` up to, not including, `end`
module _ (first end : ℕ) where
  abbrev pub between : Window
  between = record { from = first; stop = Before end }

  pub not_yet : (j : ℕ) → j < first → inside between j ≡ false
  not_yet j h = rw (lt-leb first j h) refl

  pub within : (j : ℕ) → first ≤ j → j < end → inside between j ≡ true
  within j h k = rw (le-leb first j h, lt-ltb j end k) refl

  pub past : (j : ℕ) → end ≤ j → inside between j ≡ false
  past j h = rw (le-ltb j end h) (off (leb first j))
    where
      off : (b : Bool) → (b && false) ≡ false
      off true = refl
      off false = refl

  module _ (e : Extremum) (l r : ℕ → ℤ) (i : ℕ) where
    abbrev pub best : ℕ → ℤ
    best j = along (margins TOP) e between (λ m. i + m) (λ m. l (i + m)) (λ m. r (i + m)) (j - i)

    pub best_next : (j : ℕ) → i ≤ j → first ≤ j → j < end → best (j + 1) ≡ margin_extreme e (best j) (margin_extreme (dual e) (r j) (over (dual e) l i j))
    best_next j h a b =
        let p : j + 1 - i ≡ suc (j - i) = omega arith in
        let q : i + (j - i) ≡ j = omega arith in
        rw p (ap (λ (k : ℕ). margin_extreme e (best j) (cond (inside between k) (margin_extreme (dual e) (r k) (over (dual e) l i j)) (margin_nothing TOP e))) q
        ∙ (rw (within j a b) refl))

    -- before the window there is nothing; from its end on nothing is added
    pub best_first : (j : ℕ) → j ≤ first → best j ≡ margin_nothing TOP e
    best_first j h = along_outside TOP e between _ _ _ 0 (j - i) (omega arith) (λ k a b. not_yet (i + k) (omega arith))

    pub best_end : (j n : ℕ) → i ≤ j → end ≤ j → end ≤ n → best n ≡ best j
    best_end j n h a k =
        elim (dec_le j n) [
          | yes q ↦ along_outside TOP e between _ _ _ (j - i) (n - i) (omega arith) (λ m b c. past (i + m) (omega arith))
          | no q ↦ sym (along_outside TOP e between _ _ _ (n - i) (j - i) (omega arith) (λ m b c. past (i + m) (omega arith)))
        ]

    pub best_settled : (j n : ℕ) → i ≤ j → j ≤ n → margin_extreme e (best j) (over (dual e) l i j) ≡ best j → best n ≡ best j
    best_settled j n h k s = along_settled TOP e between _ _ _ (j - i) (n - i) (omega arith) s

-- ---- no left operand: the extremum of right over the window's places
module _ (first end : ℕ) (e : Extremum) (r : ℕ → ℤ) (i n : ℕ) (within-top : (j : ℕ) → j < n → Within TOP (r j)) (h : i ≤ first) (g : end ≤ n) where
  abbrev none : ℕ → ℤ
  none j = margin_nothing TOP (dual e)

  lone_to : (k : ℕ) → first + k ≤ end → best first end e none r i (first + k) ≡ extremum (margins TOP) e (λ m. r (first + m)) k
  lone_to zero a = best_first first end e none r i (first + 0) (omega arith)
  lone_to (suc k) a =
      let p : first + suc k ≡ first + k + 1 = omega arith in
      rw p (best_next first end e none r i (first + k) (omega arith) (omega arith) (omega arith)
      ∙ (rw (nothing_carried TOP (dual e) (first + k - i), nothing_moves TOP (dual e) (r (first + k)) (within-top (first + k) (omega arith)), lone_to k (omega arith)) refl))

  pub lone : best first end e none r i n ≡ over e r first end
  lone =
      elim (dec_le first end) [
        | yes q ↦
            let p : first + (end - first) ≡ end = omega arith in
            best_end first end e none r i end n (omega arith) (omega arith) g ∙ (rw p at (lone_to (end - first) (omega arith)))
        | no q ↦
            let z : end - first ≡ 0 = omega arith in
            rw z (best_end first end e none r i first n h (omega arith) g ∙ best_first first end e none r i first (omega arith))
      ]

-- ---- one turn of a loop: x, u and out are what is read back of a cell and of two results; the code's `other` is the dual
pub turn_best : (first end : ℕ) (e : Extremum) (l r : ℕ → ℤ) (i j : ℕ) {other : Extremum} {old carried x res u last out : ℤ} → other ≡ dual e → i ≤ j → first ≤ j → j < end → old ≡ best first end e l r i j → carried ≡ over (dual e) l i j → x ≡ r j → res ≡ margin_extreme other x carried → u ≡ res → last ≡ margin_extreme e old u → out ≡ last → out ≡ best first end e l r i (j + 1)
turn_best first end e l r i j d h a k p c q g v f o = o ∙ f ∙ rw (v, g, d, p, q, c) (sym (best_next first end e l r i j h a k))
