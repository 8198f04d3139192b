-- What is read on one row of places carries over to another. Until is carried by moving its witness to a place of the other row that meets it; release is
-- the same argument on the negations, with the two rows exchanged.
-- Assumes nothing.
use mathlib.Core.Bool.{Bool, true, false, not}
use mathlib.Core.Path.{◌≡◌, refl, sym, ap₂, subst}
use Prim.Native.Nat.{ℕ, ◌<◌}
use lib.Dec.{T, T_not}
use Rattle.logic.specs.declared.Window.{Window}
use Rattle.logic.specs.Window.{inside}
use Rattle.logic.specs.declared.Extremum.{Extremum}
use Rattle.logic.specs.declared.Extremum.TheVariants.{Largest, Smallest}
use Rattle.logic.specs.Formula.{Formula, truth, atom, negation, junction, temporal}
use Rattle.logic.specs.declared.Direction.{Direction}
use Rattle.logic.specs.Reading.{Algebra, Places, place, count, offset, along, read, booleans, boolean_extreme}
use Rattle.logic.specs.Negation.{turn, push}
use Rattle.logic.specs.Strengthening.{strengthen_window, strengthened}
use Rattle.logic.proofs.Steps.{Step, along_step}
use Rattle.logic.proofs.Duality.{DeMorgan, along_negated, booleans_dual}
use Rattle.logic.proofs.Witness.{Witness, witness_of, of_witness}

-- place m of one row is met at `spot` of another, of n places: the two are near, and so is each place before `spot` to some place before m
pub record Met (near : ℕ → ℕ → Type 0) (w : Window) (d : ℕ → ℕ) (n m : ℕ) : Type 0 where
  pub spot : ℕ
  pub in_row : spot < n
  pub in_window : T (inside w (d spot))
  pub close : near m spot
  pub cover : (q : ℕ) → q < spot → (p : ℕ) × (p < m) × near p q

-- the places that an operator looks at: its window, the time to each place, their count
pub record Row : Type 0 where
  pub window : Window
  pub times : ℕ → ℕ
  pub size : ℕ

-- every place of K in K's window is met in L
unfoldable pub Meets : (near : ℕ → ℕ → Type 0) → Row → Row → Type 0
Meets near K L = (m : ℕ) → m < K.size → T (inside K.window (K.times m)) → Met near L.window L.times L.size m

-- until is carried from K to L where K's places are met in L, release where L's are met in K
unfoldable pub Bridge : Extremum → (near : ℕ → ℕ → Type 0) → Row → Row → Type 0
Bridge Largest near K L = Meets near K L
Bridge Smallest near K L = Meets (λ a b. near b a) L K

abbrev pub on_row : Extremum → Row → (ℕ → Bool) → (ℕ → Bool) → Bool
on_row e K l r = along booleans e K.window K.times l r K.size

carry_until : {near : ℕ → ℕ → Type 0} (K L : Row) (l r l' r' : ℕ → Bool) → Meets near K L → ((m n : ℕ) → near m n → T (l m) → T (l' n)) → ((m n : ℕ) → near m n → T (r m) → T (r' n)) → T (on_row Largest K l r) → T (on_row Largest L l' r')
unfolding Meets
carry_until K L l r l' r' meets hl hr t =
    let u : Witness K.window K.times l r K.size = witness_of t in
    let v = meets u.spot u.in_row u.in_window in
    of_witness {w = L.window} {d = L.times} {l = l'} {r = r'} (record {
      spot = v.spot;
      in_row = v.in_row;
      in_window = v.in_window;
      right = hr u.spot v.spot v.close u.right;
      left = λ q i. let c = v.cover q i in hl c.0 q c.2 (u.left c.0 c.1);
    })

twice : (b : Bool) → not (not b) ≡ b
twice = booleans_dual.twice

contrapositive : (a b : Bool) → (T a → T b) → T (not b) → T (not a)
contrapositive true b f t = absurd (T_not b t (f tt))
contrapositive false b f t = tt

pub carry : (e : Extremum) {near : ℕ → ℕ → Type 0} (K L : Row) (l r l' r' : ℕ → Bool) → Bridge e near K L → ((m n : ℕ) → near m n → T (l m) → T (l' n)) → ((m n : ℕ) → near m n → T (r m) → T (r' n)) → T (on_row e K l r) → T (on_row e L l' r')
unfolding Bridge
carry Largest K L l r l' r' bridge hl hr t = carry_until K L l r l' r' bridge hl hr t
carry Smallest {near} K L l r l' r' bridge hl hr t =
    subst T (twice (on_row Smallest L l' r'))
    (subst (λ b. T (not b)) (sym (along_negated booleans_dual Smallest L.window L.times l' r' L.size))
    (contrapositive (on_row Largest L (λ m. not (l' m)) (λ m. not (r' m))) (on_row Largest K (λ m. not (l m)) (λ m. not (r m)))
    (carry_until {near = λ a b. near b a} L K (λ m. not (l' m)) (λ m. not (r' m)) (λ m. not (l m)) (λ m. not (r m)) bridge
    (λ m n c. contrapositive (l n) (l' m) (hl n m c))
    (λ m n c. contrapositive (r n) (r' m) (hr n m c)))
    (subst (λ b. T (not b)) (along_negated booleans_dual Smallest K.window K.times l r K.size)
    (subst T (sym (twice (on_row Smallest K l r))) t))))

-- ---- a whole requirement
pub junction_carries : (e : Extremum) (a b c d : Bool) → (T a → T c) → (T b → T d) → T (boolean_extreme e a b) → T (boolean_extreme e c d)
junction_carries Largest true b true d f g t = tt
junction_carries Largest true b false d f g t = absurd (f tt)
junction_carries Largest false b true d f g t = tt
junction_carries Largest false b false d f g t = g t
junction_carries Smallest true b true d f g t = g t
junction_carries Smallest true b false d f g t = absurd (f tt)
junction_carries Smallest false b c d f g t = absurd t

-- `test` turns what is read into truth, in step with the operations
abbrev pub Tests : {X : Type 0} → Algebra X → (X → Bool) → Type 0
Tests {X} A test = Step A booleans (λ x b. test x ≡ b)

pub itself : Tests booleans (λ b. b)
itself = record { nothing = λ e. refl; extremes = λ e p q. ap₂ (boolean_extreme e) p q }

module _ {X Y P : Type 0} {A : Algebra X} {B : Algebra Y} (D : DeMorgan A) (test : X → Bool) (H : Tests A test) (test' : Y → Bool) (H' : Tests B test') (s : ℕ) (F G : Places) (at : P → ℕ → X) (at' : P → ℕ → Y) (near : ℕ → ℕ → Type 0) where
  -- what place i sees under a strengthened window, and what place t sees under the window itself
  abbrev pub strong_row : Direction → Extremum → Window → ℕ → Row
  strong_row d e w i = record { window = strengthen_window e s w; times = offset d F i; size = count d F i }

  abbrev pub plain_row : Direction → Window → ℕ → Row
  plain_row d w t = record { window = w; times = offset d G t; size = count d G t }

  module _
      (rows : (d : Direction) (e : Extremum) (w : Window) (i t : ℕ) → near i t → Bridge e (λ m n. near (place d i m) (place d t n)) (strong_row d e w i) (plain_row d w t))
      (atoms : (b : Bool) (p : P) (i t : ℕ) → near i t → T (test (read A F at (strengthened s b (atom p)) i)) → T (test' (read B G at' (push b (atom p)) t)))
    where
      temporal_carries : (d : Direction) (e : Extremum) (w : Window) (i t : ℕ) → near i t → (l r : ℕ → X) (l' r' : ℕ → Y)
          → ((m n : ℕ) → near (place d i m) (place d t n) → T (test (l m)) → T (test' (l' n)))
          → ((m n : ℕ) → near (place d i m) (place d t n) → T (test (r m)) → T (test' (r' n)))
          → T (test (along A e (strengthen_window e s w) (offset d F i) l r (count d F i))) → T (test' (along B e w (offset d G t) l' r' (count d G t)))
      temporal_carries d e w i t c l r l' r' hl hr h =
          subst T (sym (along_step H' e w (offset d G t) (λ m. refl) (λ m. refl) (count d G t)))
          (carry e (strong_row d e w i) (plain_row d w t) (λ m. test (l m)) (λ m. test (r m)) (λ m. test' (l' m)) (λ m. test' (r' m)) (rows d e w i t c) hl hr
          (subst T (along_step H e (strengthen_window e s w) (offset d F i) (λ m. refl) (λ m. refl) (count d F i)) h))

      -- what the test finds of a strengthened requirement at i it finds of the requirement itself at every t near i
      pub carried : (b : Bool) (φ : Formula P) (i t : ℕ) → near i t → T (test (read A F at (strengthened s b φ) i)) → T (test' (read B G at' (push b φ) t))
      carried true truth i t c h = subst T (sym (H'.nothing Smallest)) tt
      carried false truth i t c h = absurd (subst T (H.nothing Largest) (rw (D.nothing Smallest) at h))
      carried b (atom p) i t c h = atoms b p i t c h
      carried b (negation φ) i t c h = carried (not b) φ i t c h
      carried b (junction e l r) i t c h = subst T (sym (H'.extremes (turn b e) refl refl)) (junction_carries (turn b e) _ _ _ _ (carried b l i t c) (carried b r i t c) (subst T (H.extremes (turn b e) refl refl) h))
      carried b (temporal d e w l r) i t c h = temporal_carries d (turn b e) w i t c _ _ _ _ (λ m n k. carried b l (place d i m) (place d t n) k) (λ m n k. carried b r (place d i m) (place d t n) k) h
