-- A value that another one beats does not move the extremum of the two. What is joined to a beaten value by the dual extremum is beaten too, and
-- an extremum over nothing is beaten by every extremum: so until and release may leave out what is outside the window, and all that is beaten.
-- Assumes nothing.
use mathlib.Core.Path.{◌≡◌, refl, subst}
use mathlib.Core.Bool.{Bool, true, false, cond}
use Prim.Native.Nat.{ℕ, zero, suc, ◌+◌, ◌≤◌, ◌<◌}
use native.Mathlib.Omega.{arith}
use native.Mathlib.Decide.{dec_le}
use lib.IntN.{ℤ, pos, neg_ℤ}
use lib.Signed.{lt_z}
use Rattle.numbers.specs.Order.{Within}
use Rattle.numbers.proofs.Parts.{plus, minus, parts_nlt, not_taken, plus_neg, minus_neg, abs_parts, Smaller, Larger, smaller_parts, larger_parts}
use Rattle.lists.proofs.Folds.{fold_nothing}
use Rattle.logic.specs.declared.Window.{Window}
use Rattle.logic.specs.Window.{inside}
use Rattle.logic.specs.declared.Extremum.{Extremum}
use Rattle.logic.specs.declared.Extremum.TheVariants.{Largest, Smallest}
use Rattle.logic.specs.Formula.{dual}
use Rattle.logic.specs.Reading.{extremum, along, margins, margin_extreme, margin_nothing}
use Rattle.logic.proofs.Extremes.{extremes}

abbrev AtMost : ℤ → ℤ → Type 0
AtMost a b = plus a + minus b ≤ plus b + minus a

-- b is at least as extreme as a
abbrev pub Beaten : Extremum → ℤ → ℤ → Type 0
Beaten Largest b a = AtMost a b
Beaten Smallest b a = AtMost b a

pub beaten_stays : (e : Extremum) (b a : ℤ) → Beaten e b a → margin_extreme e b a ≡ b
beaten_stays Largest b a h = not_taken (lt_z b a) b a (parts_nlt b a h)
beaten_stays Smallest b a h = not_taken (lt_z a b) b a (parts_nlt a b h)

stays_beaten : (e : Extremum) (b a : ℤ) → margin_extreme e b a ≡ b → Beaten e b a
stays_beaten Largest b a h = let p : Larger b a b = rw h at (larger_parts b a) in omega arith
stays_beaten Smallest b a h = let p : Smaller b a b = rw h at (smaller_parts b a) in omega arith

beaten_first : (e : Extremum) (b a x : ℤ) → Beaten e b a → Beaten e b (margin_extreme (dual e) a x)
beaten_first Largest b a x h = omega (arith, smaller_parts a x)
beaten_first Smallest b a x h = omega (arith, larger_parts a x)

beaten_last : (e : Extremum) (b a x : ℤ) → Beaten e b a → Beaten e b (margin_extreme (dual e) x a)
beaten_last Largest b a x h = omega (arith, smaller_parts x a)
beaten_last Smallest b a x h = omega (arith, larger_parts x a)

either_beaten : (e : Extremum) (t : Bool) (b x y : ℤ) → Beaten e b x → Beaten e b y → Beaten e b (cond t x y)
either_beaten e true b x y h k = h
either_beaten e false b x y h k = k

-- what lies within top beats an extremum over nothing
pub nothing_moves : (top : ℕ) (e : Extremum) (a : ℤ) → Within top a → margin_extreme e a (margin_nothing top e) ≡ a
nothing_moves top Largest a h = beaten_stays Largest a (neg_ℤ (pos top)) (omega (arith, abs_parts a, plus_neg (pos top), minus_neg (pos top), h.size))
nothing_moves top Smallest a h = beaten_stays Smallest a (pos top) (omega (arith, abs_parts a, h.size))

module _ (top : ℕ) (e : Extremum) where
  nothing_beaten : (f : ℕ → ℤ) (n : ℕ) → Beaten e (extremum (margins top) e f n) (margin_nothing top e)
  nothing_beaten f n = stays_beaten e _ _ (fold_nothing (extremes e) (margin_nothing top e) f n)

  pub nothing_carried : (n : ℕ) → extremum (margins top) e (λ m. margin_nothing top e) n ≡ margin_nothing top e
  nothing_carried zero = refl
  nothing_carried (suc n) = rw (nothing_carried n) ((extremes e).idempotent (margin_nothing top e))

  -- a carried value that is beaten stays so, whatever it is joined to
  run_beaten : (b x : ℤ) (l : ℕ → ℤ) (m k : ℕ) → m ≤ k → Beaten e b (extremum (margins top) (dual e) l m) → Beaten e b (margin_extreme (dual e) x (extremum (margins top) (dual e) l k))
  run_beaten b x l m k h g = beaten_last e b (extremum (margins top) (dual e) l k) x (go k h)
    where
      the : (a c : ℕ) → a ≡ c → a ≡ c
      the a c p = p

      go : (k : ℕ) → m ≤ k → Beaten e b (extremum (margins top) (dual e) l k)
      go zero h = subst (λ (i : ℕ). Beaten e b (extremum (margins top) (dual e) l i)) (the m 0 (omega arith)) g
      go (suc k) h =
          elim (dec_le m k) [
            | yes q ↦ beaten_first e b (extremum (margins top) (dual e) l k) (l k) (go k q)
            | no q ↦ subst (λ (i : ℕ). Beaten e b (extremum (margins top) (dual e) l i)) (the m (suc k) (omega arith)) g
          ]

  -- where all that is left is beaten, the extremum is what it is
  extremum_still : (f : ℕ → ℤ) (m n : ℕ) → m ≤ n → ((k : ℕ) → m ≤ k → k < n → Beaten e (extremum (margins top) e f m) (f k)) → extremum (margins top) e f n ≡ extremum (margins top) e f m
  extremum_still f m zero h k = let p : m ≡ 0 = omega arith in rw p refl
  extremum_still f m (suc n) h k =
      elim (dec_le m n) [
        | yes q ↦ rw (extremum_still f m n q (λ j a b. k j a (omega arith))) (beaten_stays e _ (f n) (k n q (omega arith)))
        | no q ↦ let p : m ≡ suc n = omega arith in rw p refl
      ]

-- ---- what may be left out
module _ (top : ℕ) (e : Extremum) (w : Window) (d : ℕ → ℕ) (l r : ℕ → ℤ) where
  pub along_outside : (m n : ℕ) → m ≤ n → ((k : ℕ) → m ≤ k → k < n → inside w (d k) ≡ false) → along (margins top) e w d l r n ≡ along (margins top) e w d l r m
  along_outside m n h k = extremum_still top e _ m n h (λ j a b. rw (k j a b) (nothing_beaten top e _ m))

  pub along_settled : (m n : ℕ) → m ≤ n → margin_extreme e (along (margins top) e w d l r m) (extremum (margins top) (dual e) l m) ≡ along (margins top) e w d l r m → along (margins top) e w d l r n ≡ along (margins top) e w d l r m
  along_settled m n h s =
      extremum_still top e _ m n h (λ j a b.
      either_beaten e (inside w (d j)) _ _ _ (run_beaten top e _ (r j) l m j a (stays_beaten e _ _ s)) (nothing_beaten top e _ m))
