-- Margins against truth. "Above e" turns largest into "or" and smallest into "and", so a margin's sign is the truth, and a margin further from zero than e
-- decides the truth of whatever moves by at most e.
-- Assumes nothing.
use mathlib.Core.Path.{◌≡◌, refl, sym, ap, ap₂, ◌∙◌, subst}
use mathlib.Core.Bool.{Bool, true, false, not, cond, ◌&&◌, ◌||◌}
use Prim.Native.Nat.{ℕ, ◌+◌, ◌*◌, ◌≤◌, ◌<◌}
use native.Mathlib.Omega.{arith}
use native.Mathlib.Nat.{mul-add, mul-lt-mul_of_pos_left, lt_of_mul-lt-mul_left}
use lib.Dec.{T}
use lib.IntN.{ℤ, pos, neg_ℤ, suc_ℤ, ◌*ℤ◌, neg_ℤ-neg_ℤ}
use lib.Signed.{lt_z}
use Rattle.numbers.specs.Order.{smaller_of, larger_of, Within}
use Rattle.numbers.proofs.Parts.{plus, minus, lt_parts, parts_lt, nlt_parts, parts_nlt, plus_neg, minus_neg, suc_parts, abs_parts, plus_times, minus_times, times_neg, within_either}
use Rattle.lists.proofs.Below.{same_test}
use Rattle.logic.specs.declared.Extremum.{Extremum}
use Rattle.logic.specs.declared.Extremum.TheVariants.{Largest, Smallest}
use Rattle.logic.specs.Formula.{dual}
use Rattle.logic.specs.Reading.{booleans, boolean_extreme, boolean_nothing, margins, margin_extreme, margin_nothing}
use Rattle.logic.proofs.Steps.{Step}
use Rattle.logic.proofs.Duality.{DeMorgan, booleans_dual}
use Rattle.logic.proofs.Carry.{Tests, junction_carries}

turned : (a b : ℤ) → lt_z a b ≡ lt_z (neg_ℤ b) (neg_ℤ a)
turned a b =
    same_test (λ t. parts_lt (neg_ℤ b) (neg_ℤ a) (omega (arith, lt_parts a b t, plus_neg a, minus_neg a, plus_neg b, minus_neg b)))
    (λ t. parts_lt a b (omega (arith, lt_parts (neg_ℤ b) (neg_ℤ a) t, plus_neg a, minus_neg a, plus_neg b, minus_neg b)))

negated_choice : (c : Bool) (x y : ℤ) → neg_ℤ (cond c x y) ≡ cond c (neg_ℤ x) (neg_ℤ y)
negated_choice true x y = refl
negated_choice false x y = refl

pub margins_dual : (top : ℕ) → DeMorgan (margins top)
margins_dual top = record { twice = neg_ℤ-neg_ℤ; nothing = nothing; extremes = extremes }
  where
    nothing : (e : Extremum) → neg_ℤ (margin_nothing top e) ≡ margin_nothing top (dual e)
    nothing Largest = neg_ℤ-neg_ℤ (pos top)
    nothing Smallest = refl

    extremes : (e : Extremum) (a b : ℤ) → neg_ℤ (margin_extreme e a b) ≡ margin_extreme (dual e) (neg_ℤ a) (neg_ℤ b)
    extremes Largest a b = rw (← turned a b) (negated_choice (lt_z a b) b a)
    extremes Smallest a b = rw (← turned b a) (negated_choice (lt_z b a) b a)

-- z is larger than e
abbrev pub above : ℤ → ℤ → Bool
above e z = lt_z e z

-- of two tests one implies the other: then the other is their "or"
or_last : (x y : Bool) → (T x → T y) → y ≡ (x || y)
or_last true true h = refl
or_last true false h = absurd (h tt)
or_last false y h = refl

or_first : (x y : Bool) → (T y → T x) → x ≡ (x || y)
or_first true y h = refl
or_first false true h = absurd (h tt)
or_first false false h = refl

module _ (e : ℤ) where
  rise : (a b : ℤ) → T (lt_z a b) → T (above e a) → T (above e b)
  rise a b h t = parts_lt e b (omega (arith, lt_parts e a t, lt_parts a b h))

  keep : (a b : ℤ) → T (not (lt_z a b)) → T (above e b) → T (above e a)
  keep a b h t = parts_lt e a (omega (arith, lt_parts e b t, nlt_parts a b h))

  or_above : (c : Bool) (a b : ℤ) → (T c → T (lt_z a b)) → (T (not c) → T (not (lt_z a b))) → above e (cond c b a) ≡ (above e a || above e b)
  or_above true a b h k = or_last (above e a) (above e b) (rise a b (h tt))
  or_above false a b h k = or_first (above e a) (above e b) (keep a b (k tt))

  above_larger : (a b : ℤ) → above e (larger_of a b) ≡ (above e a || above e b)
  above_larger a b = or_above (lt_z a b) a b (λ t. t) (λ t. t)

  -- what is not above e is, negated, above the negative of e's successor
  not_above : (z : ℤ) → not (above e z) ≡ above (neg_ℤ (suc_ℤ e)) (neg_ℤ z)
  not_above z =
      same_test (λ t. parts_lt (neg_ℤ (suc_ℤ e)) (neg_ℤ z) (omega (arith, nlt_parts e z t, suc_parts e, plus_neg z, minus_neg z, plus_neg (suc_ℤ e), minus_neg (suc_ℤ e))))
      (λ t. parts_nlt e z (omega (arith, lt_parts (neg_ℤ (suc_ℤ e)) (neg_ℤ z) t, suc_parts e, plus_neg z, minus_neg z, plus_neg (suc_ℤ e), minus_neg (suc_ℤ e))))

-- largest turns into "or"; smallest into "and", which is "or" of the negations, negated
pub above_extreme : (e : ℤ) (x : Extremum) (a b : ℤ) → above e (margin_extreme x a b) ≡ boolean_extreme x (above e a) (above e b)
above_extreme e Largest a b = above_larger e a b
above_extreme e Smallest a b =
    sym (booleans_dual.twice (above e (smaller_of a b)))
    ∙ ap not (not_above e (smaller_of a b) ∙ ap (above (neg_ℤ (suc_ℤ e))) ((margins_dual 0).extremes Smallest a b) ∙ above_larger (neg_ℤ (suc_ℤ e)) (neg_ℤ a) (neg_ℤ b) ∙ ap₂ ◌||◌ (sym (not_above e a)) (sym (not_above e b)))
    ∙ booleans_dual.extremes Largest (not (above e a)) (not (above e b))
    ∙ ap₂ ◌&&◌ (booleans_dual.twice (above e a)) (booleans_dual.twice (above e b))

-- "above e" is in step with truth, for every e from -top on below top
pub above_tests : (top : ℕ) (e : ℤ) → minus e ≤ top → plus e < top → Tests (margins top) (above e)
above_tests top e low high = record { nothing = nothing; extremes = λ x {a} {b} p q. above_extreme e x a b ∙ ap₂ (boolean_extreme x) p q }
  where
    nothing : (x : Extremum) → above e (margin_nothing top x) ≡ boolean_nothing x
    nothing Largest = same_test (λ t. absurd (omega (arith, lt_parts e (neg_ℤ (pos top)) t, plus_neg (pos top), minus_neg (pos top)))) absurd
    nothing Smallest = same_test (λ t. tt) (λ t. parts_lt e (pos top) (omega arith))

-- the sign says the truth: above zero where true, below zero where false, never zero
pub record Sign (z : ℤ) (b : Bool) : Type 0 where
  pub when_true : above (pos 0) z ≡ b
  pub when_false : above (pos 0) (neg_ℤ z) ≡ not b

pub sign_step : (top : ℕ) → 0 < top → Step (margins top) booleans Sign
sign_step top h = record {
  nothing = λ e. record { when_true = tests.nothing e; when_false = rw ((margins_dual top).nothing e) (tests.nothing (dual e) ∙ sym (booleans_dual.nothing e)) };
  extremes = λ e {a} {b} {c} {d} p q. record {
    when_true = tests.extremes e p.when_true q.when_true;
    when_false = rw ((margins_dual top).extremes e a b) (tests.extremes (dual e) p.when_false q.when_false ∙ sym (booleans_dual.extremes e c d));
  };
}
  where
    tests : Tests (margins top) (above (pos 0))
    tests = above_tests top (pos 0) (omega arith) h

pub sign_negated : (a : ℤ) (c : Bool) → Sign a c → Sign (neg_ℤ a) (not c)
sign_negated a c h = record { when_true = h.when_false; when_false = rw (neg_ℤ-neg_ℤ a) (h.when_true ∙ sym (booleans_dual.twice c)) }

pub sign_not_zero : {z : ℤ} {b : Bool} → Sign z b → z ≡ pos 0 → ⊥
sign_not_zero {z} {b} s e = clash b (rw e at s.when_true) (rw e at s.when_false)
  where
    clash : (b : Bool) → false ≡ b → false ≡ not b → ⊥
    clash true p q = subst T (sym p) tt
    clash false p q = subst T (sym q) tt

-- z decides b by more than e: above e it says true, below -e it says false
pub record Decides (e : ℕ) (z : ℤ) (b : Bool) : Type 0 where
  pub when_true : T (above (pos e) z) → T b
  pub when_false : T (above (pos e) (neg_ℤ z)) → T (not b)

pub decides_step : (e top : ℕ) → Step (margins top) booleans (Decides e)
decides_step e top = record {
  nothing = nothing;
  extremes = λ x {a} {b} {c} {d} p q. record {
    when_true = λ t. junction_carries x (above (pos e) a) (above (pos e) b) c d p.when_true q.when_true (subst T (above_extreme (pos e) x a b) t);
    when_false = λ t.
        subst T (sym (booleans_dual.extremes x c d))
        (junction_carries (dual x) (above (pos e) (neg_ℤ a)) (above (pos e) (neg_ℤ b)) (not c) (not d) p.when_false q.when_false
        (subst T (ap (above (pos e)) ((margins_dual top).extremes x a b) ∙ above_extreme (pos e) (dual x) (neg_ℤ a) (neg_ℤ b)) t));
  };
}
  where
    low : T (above (pos e) (neg_ℤ (pos top))) → ⊥
    low t = omega (arith, lt_parts (pos e) (neg_ℤ (pos top)) t, plus_neg (pos top), minus_neg (pos top))

    nothing : (x : Extremum) → Decides e (margin_nothing top x) (boolean_nothing x)
    nothing Largest = record { when_true = λ t. absurd (low t); when_false = λ t. tt }
    nothing Smallest = record { when_true = λ t. tt; when_false = λ t. absurd (low t) }

-- ---- k times a margin, as a scale makes it
above_times : (k e f : ℕ) (z : ℤ) → k * e ≤ f → T (above (pos f) (pos k *ℤ z)) → T (above (pos e) z)
above_times k e f z h t =
    let l : k * (e + minus z) < k * plus z = omega (arith, lt_parts (pos f) (pos k *ℤ z) t, plus_times k z, minus_times k z, mul-add k e (minus z)) in
    parts_lt (pos e) z (omega (arith, lt_of_mul-lt-mul_left k l))

-- it has the same sign
pub sign_times : (k : ℕ) → 0 < k → {z : ℤ} {b : Bool} → Sign z b → Sign (pos k *ℤ z) b
sign_times k h {z} s = record { when_true = same z ∙ s.when_true; when_false = rw (times_neg k z) (same (neg_ℤ z) ∙ s.when_false) }
  where
    same : (a : ℤ) → above (pos 0) (pos k *ℤ a) ≡ above (pos 0) a
    same a =
        same_test (above_times k 0 0 a (omega arith))
        (λ t. let l : minus a < plus a = omega (arith, lt_parts (pos 0) a t) in parts_lt (pos 0) (pos k *ℤ a) (omega (arith, mul-lt-mul_of_pos_left l h, plus_times k a, minus_times k a)))

-- and decides by k times as much
pub decides_times : (k e f : ℕ) → k * e ≤ f → {z : ℤ} {b : Bool} → Decides e z b → Decides f (pos k *ℤ z) b
decides_times k e f h {z} s = record { when_true = λ t. s.when_true (above_times k e f z h t); when_false = λ t. s.when_false (above_times k e f (neg_ℤ z) h (rw (times_neg k z) at t)) }

-- no margin is further from zero than top
pub bounded_step : (top : ℕ) → Step (margins top) booleans (λ z b. Within top z)
bounded_step top = record { nothing = nothing; extremes = λ e {a} {b} p q. extremes e a b p q }
  where
    nothing : (e : Extremum) → Within top (margin_nothing top e)
    nothing Largest = record { size = omega (arith, abs_parts (neg_ℤ (pos top)), plus_neg (pos top), minus_neg (pos top)) }
    nothing Smallest = record { size = omega arith }

    extremes : (e : Extremum) (a b : ℤ) → Within top a → Within top b → Within top (margin_extreme e a b)
    extremes Largest a b p q = within_either (lt_z a b) p q
    extremes Smallest a b p q = within_either (lt_z b a) p q
