-- In an algebra with De Morgan's laws, "not" pushed down changes no reading. "Not" is a step from the algebra to its mirror image, in which largest and
-- smallest have changed places, so until and release, "and" and "or" share one argument.
-- Assumes nothing.
use mathlib.Core.Bool.{Bool, true, false, not}
use mathlib.Core.Path.{◌≡◌, refl}
use Prim.Native.Nat.{ℕ}
use Rattle.logic.specs.declared.Window.{Window}
use Rattle.logic.specs.declared.Extremum.{Extremum}
use Rattle.logic.specs.declared.Extremum.TheVariants.{Largest, Smallest}
use Rattle.logic.specs.Formula.{dual, Formula, truth, atom, negation, junction, temporal, conjunction, disjunction, until, release, eventually, always}
use Rattle.logic.specs.Reading.{Algebra, Places, place, count, offset, along, read, booleans, boolean_extreme, boolean_nothing}
use Rattle.logic.specs.Negation.{push, Normal}
use Rattle.logic.proofs.Steps.{Step, along_step, same}

pub record DeMorgan {X : Type 0} (A : Algebra X) : Type 0 where
  pub twice : (a : X) → A.negate (A.negate a) ≡ a
  pub nothing : (e : Extremum) → A.negate (A.over_nothing e) ≡ A.over_nothing (dual e)
  pub extremes : (e : Extremum) (a b : X) → A.negate (A.extreme e a b) ≡ A.extreme (dual e) (A.negate a) (A.negate b)

-- largest and smallest exchanged
abbrev pub mirror : {X : Type 0} → Algebra X → Algebra X
mirror A = record { negate = A.negate; extreme = λ e. A.extreme (dual e); over_nothing = λ e. A.over_nothing (dual e) }

-- the value itself, or its negative
abbrev pub signed : {X : Type 0} → Algebra X → Bool → X → X
signed A true a = a
signed A false a = A.negate a

module _ {X : Type 0} {A : Algebra X} (D : DeMorgan A) where
  abbrev Negated : X → X → Type 0
  Negated a b = A.negate a ≡ b

  mirrored : Step A (mirror A) Negated
  mirrored = record { nothing = D.nothing; extremes = λ e {a} {b} {c} {d} p q. rw (D.extremes e a b, p, q) }

  -- release is until of the negations, negated, and until is release of them
  pub along_negated : (e : Extremum) (w : Window) (d : ℕ → ℕ) (l r : ℕ → X) (n : ℕ) → A.negate (along A e w d l r n) ≡ along A (dual e) w d (λ m. A.negate (l m)) (λ m. A.negate (r m)) n
  along_negated e w d l r n = along_step mirrored e w d (λ m. refl) (λ m. refl) n

  -- pushing "not" down changes no reading; at false the reading is negated
  pub pushed : {P : Type 0} (F : Places) (at : P → ℕ → X) (b : Bool) (φ : Formula P) (i : ℕ) → signed A b (read A F at φ i) ≡ read A F at (push b φ) i
  pushed F at true truth i = refl
  pushed F at false truth i = refl
  pushed F at true (atom p) i = refl
  pushed F at false (atom p) i = refl
  pushed F at true (negation φ) i = pushed F at false φ i
  pushed F at false (negation φ) i = rw D.twice (pushed F at true φ i)
  pushed F at true (junction e l r) i = (same A).extremes e (pushed F at true l i) (pushed F at true r i)
  pushed F at false (junction e l r) i = mirrored.extremes e (pushed F at false l i) (pushed F at false r i)
  pushed F at true (temporal d e w l r) i = along_step (same A) e w (offset d F i) (λ m. pushed F at true l (place d i m)) (λ m. pushed F at true r (place d i m)) (count d F i)
  pushed F at false (temporal d e w l r) i = along_step mirrored e w (offset d F i) (λ m. pushed F at false l (place d i m)) (λ m. pushed F at false r (place d i m)) (count d F i)

-- ---- the form that pushing leaves
module _ {P : Type 0} where
  pub push_normal : (b : Bool) (φ : Formula P) → Normal (push b φ)
  push_normal true truth = tt
  push_normal false truth = tt
  push_normal true (atom p) = tt
  push_normal false (atom p) = tt
  push_normal b (negation φ) = push_normal (not b) φ
  push_normal b (junction e l r) = (push_normal b l, push_normal b r)
  push_normal b (temporal d e w l r) = (push_normal b l, push_normal b r)

  -- "and" with "or", until with release, eventually with always change places, windows kept
  pub push_conjunction : (l r : Formula P) → push false (conjunction l r) ≡ disjunction (push false l) (push false r)
  push_conjunction l r = refl

  pub push_disjunction : (l r : Formula P) → push false (disjunction l r) ≡ conjunction (push false l) (push false r)
  push_disjunction l r = refl

  pub push_until : (w : Window) (l r : Formula P) → push false (until w l r) ≡ release w (push false l) (push false r)
  push_until w l r = refl

  pub push_release : (w : Window) (l r : Formula P) → push false (release w l r) ≡ until w (push false l) (push false r)
  push_release w l r = refl

  pub push_eventually : (w : Window) (φ : Formula P) → push false (eventually w φ) ≡ always w (push false φ)
  push_eventually w φ = refl

  pub push_always : (w : Window) (φ : Formula P) → push false (always w φ) ≡ eventually w (push false φ)
  push_always w φ = refl

-- ---- true and false
pub booleans_dual : DeMorgan booleans
booleans_dual = record { twice = twice; nothing = nothing; extremes = extremes }
  where
    twice : (a : Bool) → not (not a) ≡ a
    twice true = refl
    twice false = refl

    nothing : (e : Extremum) → not (boolean_nothing e) ≡ boolean_nothing (dual e)
    nothing Largest = refl
    nothing Smallest = refl

    extremes : (e : Extremum) (a b : Bool) → not (boolean_extreme e a b) ≡ boolean_extreme (dual e) (not a) (not b)
    extremes Largest true b = refl
    extremes Largest false b = refl
    extremes Smallest true b = refl
    extremes Smallest false b = refl
