-- Two readings of one requirement, into two algebras, stay in step: a relation that holds of the atoms' readings and is kept by the operations holds of
-- the whole readings. One induction, which every later fact on all requirements instantiates.
-- Assumes nothing.
use mathlib.Core.Path.{◌≡◌, refl, ap₂}
use mathlib.Core.Bool.{Bool, true, false, cond}
use Prim.Native.Nat.{ℕ, zero, suc, ◌<◌}
use native.Mathlib.Omega.{arith}
use Rattle.logic.specs.declared.Window.{Window}
use Rattle.logic.specs.Window.{inside}
use Rattle.logic.specs.declared.Extremum.{Extremum}
use Rattle.logic.specs.declared.Extremum.TheVariants.{Smallest}
use Rattle.logic.specs.Formula.{dual, Formula, truth, atom, negation, junction, temporal}
use Rattle.logic.specs.Reading.{Algebra, Places, place, count, offset, extremum, along, read}

-- the operations of two algebras keep R, "not" apart
pub record Step {X Y : Type 0} (A : Algebra X) (B : Algebra Y) (R : X → Y → Type 0) : Type 0 where
  pub nothing : (e : Extremum) → R (A.over_nothing e) (B.over_nothing e)
  pub extremes : (e : Extremum) {a b : X} {c d : Y} → R a c → R b d → R (A.extreme e a b) (B.extreme e c d)

module _ {X Y : Type 0} {A : Algebra X} {B : Algebra Y} {R : X → Y → Type 0} (S : Step A B R) where
  pub extremum_step : (e : Extremum) {f : ℕ → X} {g : ℕ → Y} (n : ℕ) → ((m : ℕ) → m < n → R (f m) (g m)) → R (extremum A e f n) (extremum B e g n)
  extremum_step e zero h = S.nothing e
  extremum_step e (suc n) h = S.extremes e (extremum_step e n (λ m q. h m (omega arith))) (h n (omega arith))

  chosen : (b : Bool) {x x' : X} {y y' : Y} → R x y → R x' y' → R (cond b x x') (cond b y y')
  chosen true h h' = h
  chosen false h h' = h'

  -- windows and operands count on the first n places alone
  along_first : (e : Extremum) (v w : Window) (c d : ℕ → ℕ) {l r : ℕ → X} {l' r' : ℕ → Y} (n : ℕ) → ((m : ℕ) → m < n → inside v (c m) ≡ inside w (d m)) → ((m : ℕ) → m < n → R (l m) (l' m)) → ((m : ℕ) → m < n → R (r m) (r' m)) → R (along A e v c l r n) (along B e w d l' r' n)
  along_first e v w c d n hw hl hr =
      extremum_step e n (λ m q. rw (hw m q) (chosen (inside w (d m)) (S.extremes (dual e) (hr m q) (extremum_step (dual e) m (λ k p. hl k (omega arith)))) (S.nothing e)))

  pub along_step : (e : Extremum) (w : Window) (d : ℕ → ℕ) {l r : ℕ → X} {l' r' : ℕ → Y} → ((m : ℕ) → R (l m) (l' m)) → ((m : ℕ) → R (r m) (r' m)) → (n : ℕ) → R (along A e w d l r n) (along B e w d l' r' n)
  along_step e w d hl hr n = along_first e w w d d n (λ m q. refl) (λ m q. hl m) (λ m q. hr m)

  module _ {P : Type 0} (F : Places) {at : P → ℕ → X} {at' : P → ℕ → Y} (negates : (a : X) (c : Y) → R a c → R (A.negate a) (B.negate c)) (atoms : (p : P) (i : ℕ) → R (at p i) (at' p i)) where
    pub read_step : (φ : Formula P) (i : ℕ) → R (read A F at φ i) (read B F at' φ i)
    read_step truth i = S.nothing Smallest
    read_step (atom p) i = atoms p i
    read_step (negation φ) i = negates _ _ (read_step φ i)
    read_step (junction e l r) i = S.extremes e (read_step l i) (read_step r i)
    read_step (temporal d e w l r) i = along_step e w (offset d F i) (λ m. read_step l (place d i m)) (λ m. read_step r (place d i m)) (count d F i)

-- ---- equality is such a relation: readings that agree on the first n places
module _ {X : Type 0} (A : Algebra X) where
  pub same : Step A A ◌≡◌
  same = record { nothing = λ e. refl; extremes = λ e p q. ap₂ (A.extreme e) p q }

  pub along_cong : (e : Extremum) (v w : Window) (c d : ℕ → ℕ) (l l' r r' : ℕ → X) (n : ℕ) → ((m : ℕ) → m < n → inside v (c m) ≡ inside w (d m)) → ((m : ℕ) → m < n → l m ≡ l' m) → ((m : ℕ) → m < n → r m ≡ r' m) → along A e v c l r n ≡ along A e w d l' r' n
  along_cong e v w c d l l' r r' n hw hl hr = along_first same e v w c d n hw hl hr
