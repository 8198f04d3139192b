-- A distance is what document 01 says of it: how far the nearest number on the other side is. At most is at least in the mirror, and between takes the nearer
-- of its two ends.
-- Assumes nothing.
use mathlib.Core.Path.{◌≡◌, refl, sym, ap, ◌∙◌, subst}
use mathlib.Core.Bool.{Bool, true, false, not, cond, ◌&&◌}
use mathlib.Core.Logic.{◌⊎◌, inl, inr}
use Prim.Native.Nat.{ℕ, ◌+◌, ◌≤◌, ◌<◌}
use native.Mathlib.Omega.{arith}
use lib.Dec.{T}
use mir.Facts.{and_yes, yes_and, and_no}
use lib.IntN.{ℤ, pos, negsuc, neg_ℤ, suc_ℤ, ◌-ℤ◌, nat_abs, neg_ℤ-neg_ℤ}
use lib.Signed.{le_z, lt_z}
use Rattle.numbers.specs.Order.{smaller_of}
use Rattle.numbers.proofs.Parts.{plus, minus, lt_parts, parts_lt, parts_nlt, nlt_parts, le_parts, parts_le, nle_parts, parts_nle, parts_eq, taken, not_taken, plus_neg, minus_neg, abs_parts, parts_apart, suc_parts, sub_parts}
use Rattle.lists.proofs.Below.{same_test}
use Rattle.recordings.specs.declared.Range.{Range}
use Rattle.recordings.specs.declared.Range.TheVariants.{Unset, Free, AtLeast, AtMost, Between}
use Rattle.recordings.specs.Distance.{clearance, distance, Nearest, Measures}
use Rattle.recordings.specs.Accepted.{Ends}
use Rattle.recordings.proofs.Distances.{Open}

-- a exceeds b by n, or by at least n
away_is : (a b : ℤ) (n : ℕ) → plus a + minus b ≡ plus b + minus a + n → nat_abs (a -ℤ b) ≡ n
away_is a b n h = omega (arith, abs_parts (a -ℤ b), parts_apart (a -ℤ b), sub_parts a b)

away_least : (a b : ℤ) (n : ℕ) → plus b + minus a + n ≤ plus a + minus b → n ≤ nat_abs (a -ℤ b)
away_least a b n h = omega (arith, abs_parts (a -ℤ b), sub_parts a b)

turned_away : (a b : ℤ) → nat_abs (a -ℤ b) ≡ nat_abs (b -ℤ a)
turned_away a b = omega (arith, abs_parts (a -ℤ b), parts_apart (a -ℤ b), sub_parts a b, abs_parts (b -ℤ a), parts_apart (b -ℤ a), sub_parts b a)

mirrored_away : (a b : ℤ) → nat_abs (neg_ℤ a -ℤ neg_ℤ b) ≡ nat_abs (a -ℤ b)
mirrored_away a b = omega (arith, abs_parts (a -ℤ b), parts_apart (a -ℤ b), sub_parts a b, abs_parts (neg_ℤ a -ℤ neg_ℤ b), parts_apart (neg_ℤ a -ℤ neg_ℤ b), sub_parts (neg_ℤ a) (neg_ℤ b), plus_neg a, minus_neg a, plus_neg b, minus_neg b)

-- ---- at least lo
positive : (z : ℤ) → minus z ≡ 0 → z ≡ pos (plus z)
positive (pos n) h = refl
positive (negsuc n) h = absurd (omega arith)

negative : (z : ℤ) → 0 < minus z → z ≡ neg_ℤ (pos (minus z))
negative (pos n) h = absurd (omega arith)
negative (negsuc n) h = refl

-- lo is kept with n to spare: the nearest number that breaks it is lo - 1
pub record Kept (lo x : ℤ) : Type 0 where
  pub by : ℕ
  pub is : clearance lo x ≡ pos by
  pub near : Nearest (λ y. not (le_z lo y)) x by

-- lo is missed by n: the nearest number that keeps it is lo
pub record Missed (lo x : ℤ) : Type 0 where
  pub by : ℕ
  pub is : clearance lo x ≡ neg_ℤ (pos by)
  pub away : nat_abs (lo -ℤ x) ≡ by
  pub least : (y : ℤ) → T (le_z lo y) → by ≤ nat_abs (y -ℤ x)

kept : (lo x : ℤ) → T (le_z lo x) → Kept lo x
kept lo x t = record {
  by = n;
  is = chosen (le_z lo x) t ∙ positive d low;
  near = record {
    nearest = lo -ℤ pos 1;
    passes = parts_nle lo (lo -ℤ pos 1) (omega (arith, sub_parts lo (pos 1)));
    away = turned_away (lo -ℤ pos 1) x ∙ away_is x (lo -ℤ pos 1) n (omega (arith, sub_parts lo (pos 1), exact));
    least = λ y s. subst (n ≤◌) (turned_away x y) (away_least x y n (omega (arith, nle_parts lo y s, exact)));
  };
}
  where
    d : ℤ
    d = suc_ℤ (x -ℤ lo)

    n : ℕ
    n = plus d

    chosen : (c : Bool) → T c → cond c (suc_ℤ (x -ℤ lo)) (x -ℤ lo) ≡ d
    chosen true u = refl
    chosen false u = absurd u

    low : minus d ≡ 0
    low = omega (arith, le_parts lo x t, suc_parts (x -ℤ lo), sub_parts x lo, parts_apart d)

    exact : plus x + minus lo + 1 ≡ plus lo + minus x + n
    exact = omega (arith, low, suc_parts (x -ℤ lo), sub_parts x lo)

missed : (lo x : ℤ) → T (not (le_z lo x)) → Missed lo x
missed lo x t = record { by = n; is = chosen (le_z lo x) t ∙ negative d low; away = away_is lo x n exact; least = λ y s. away_least y x n (omega (arith, le_parts lo y s, exact)) }
  where
    d : ℤ
    d = x -ℤ lo

    n : ℕ
    n = minus d

    chosen : (c : Bool) → T (not c) → cond c (suc_ℤ (x -ℤ lo)) (x -ℤ lo) ≡ d
    chosen true u = absurd u
    chosen false u = refl

    low : 0 < minus d
    low = omega (arith, nle_parts lo x t, sub_parts x lo, parts_apart d)

    exact : plus lo + minus x ≡ plus x + minus lo + n
    exact = omega (arith, low, sub_parts x lo, parts_apart d)

-- ---- at most hi, in the mirror
mirrored_le : (a b : ℤ) → le_z a b ≡ le_z (neg_ℤ b) (neg_ℤ a)
mirrored_le a b =
    same_test (λ t. parts_le (neg_ℤ b) (neg_ℤ a) (omega (arith, le_parts a b t, plus_neg a, minus_neg a, plus_neg b, minus_neg b)))
    (λ t. parts_le a b (omega (arith, le_parts (neg_ℤ b) (neg_ℤ a) t, plus_neg a, minus_neg a, plus_neg b, minus_neg b)))

mirrored_difference : (a b : ℤ) → b -ℤ a ≡ neg_ℤ a -ℤ neg_ℤ b
mirrored_difference a b = parts_eq (b -ℤ a) (neg_ℤ a -ℤ neg_ℤ b) (omega (arith, sub_parts b a, sub_parts (neg_ℤ a) (neg_ℤ b), plus_neg a, minus_neg a, plus_neg b, minus_neg b))

mirrored_clearance : (a b : ℤ) → clearance a b ≡ clearance (neg_ℤ b) (neg_ℤ a)
mirrored_clearance a b = rw (← mirrored_le a b, ← mirrored_difference a b) refl

mirrored : (p q : ℤ → Bool) (x : ℤ) {n : ℕ} → ((y : ℤ) → q y ≡ p (neg_ℤ y)) → Nearest p (neg_ℤ x) n → Nearest q x n
mirrored p q x {n} same u = record {
  nearest = neg_ℤ u.nearest;
  passes = subst T (sym (same (neg_ℤ u.nearest) ∙ ap p (neg_ℤ-neg_ℤ u.nearest))) u.passes;
  away = ap (λ (z : ℤ). nat_abs (neg_ℤ u.nearest -ℤ z)) (sym (neg_ℤ-neg_ℤ x)) ∙ mirrored_away u.nearest (neg_ℤ x) ∙ u.away;
  least = λ y s. subst (n ≤◌) (mirrored_away y x) (u.least (neg_ℤ y) (subst T (same y) s));
}

kept_high : (hi x : ℤ) → T (le_z x hi) → (n : ℕ) × (clearance x hi ≡ pos n) × Nearest (λ y. not (le_z y hi)) x n
kept_high hi x t =
    let k = kept (neg_ℤ hi) (neg_ℤ x) (subst T (mirrored_le x hi) t) in
    (k.by, mirrored_clearance x hi ∙ k.is, mirrored (λ y. not (le_z (neg_ℤ hi) y)) (λ y. not (le_z y hi)) x (λ y. ap not (mirrored_le y hi)) k.near)

missed_high : (hi x : ℤ) → T (not (le_z x hi)) → (n : ℕ) × (clearance x hi ≡ neg_ℤ (pos n)) × (nat_abs (hi -ℤ x) ≡ n) × ((y : ℤ) → T (le_z y hi) → n ≤ nat_abs (y -ℤ x))
missed_high hi x t =
    let k = missed (neg_ℤ hi) (neg_ℤ x) (subst (λ b. T (not b)) (mirrored_le x hi) t) in
    (k.by, mirrored_clearance x hi ∙ k.is, sym (mirrored_away hi x) ∙ k.away, λ y s. subst (k.by ≤◌) (mirrored_away y x) (k.least (neg_ℤ y) (subst T (mirrored_le y hi) s)))

-- ---- between, from its two ends
le_self : (a : ℤ) → T (le_z a a)
le_self a = parts_le a a (omega arith)

-- the nearer of what breaks one of two tests breaks both together
either_breaks : (p q : ℤ → Bool) (x : ℤ) (m n k : ℕ) → k ≤ m → k ≤ n → (k ≡ m) ⊎ (k ≡ n) → Nearest (λ y. not (p y)) x m → Nearest (λ y. not (q y)) x n → Nearest (λ y. not (p y && q y)) x k
either_breaks p q x m n k a b c u v = go c
  where
    broken : (b c : Bool) → T (not b) ⊎ T (not c) → T (not (b && c))
    broken true true (inl t) = t
    broken true true (inr t) = t
    broken true false s = tt
    broken false c s = tt

    least : (y : ℤ) → T (not (p y && q y)) → k ≤ nat_abs (y -ℤ x)
    least y s = elim (and_no (p y) (q y) s) [ inl t ↦ omega (arith, u.least y t) | inr t ↦ omega (arith, v.least y t) ]

    go : (k ≡ m) ⊎ (k ≡ n) → Nearest (λ y. not (p y && q y)) x k
    go (inl e) = record { nearest = u.nearest; passes = broken (p u.nearest) (q u.nearest) (inl u.passes); away = u.away ∙ sym e; least = least }
    go (inr e) = record { nearest = v.nearest; passes = broken (p v.nearest) (q v.nearest) (inr v.passes); away = v.away ∙ sym e; least = least }

module _ (lo hi x : ℤ) where
  abbrev d : ℤ
  d = smaller_of (clearance lo x) (clearance x hi)

  abbrev in_between : ℤ → Bool
  in_between y = le_z lo y && le_z y hi

  inside_between : T (le_z lo x) → T (le_z x hi) → (n : ℕ) × (d ≡ pos n) × Nearest (λ y. not (in_between y)) x n
  inside_between a b = go (kept lo x a) (kept_high hi x b)
    where
      smaller_is : (m n : ℕ) → (k : ℕ) × (smaller_of (pos m) (pos n) ≡ pos k) × (k ≤ m) × (k ≤ n) × ((k ≡ m) ⊎ (k ≡ n))
      smaller_is m n = pick (lt_z (pos n) (pos m)) (lt_parts (pos n) (pos m)) (nlt_parts (pos n) (pos m))
        where
          pick : (c : Bool) → (T c → n + 0 < m + 0) → (T (not c) → m + 0 ≤ n + 0) → (k : ℕ) × (cond c (pos n) (pos m) ≡ pos k) × (k ≤ m) × (k ≤ n) × ((k ≡ m) ⊎ (k ≡ n))
          pick true h g = (n, refl, omega (arith, h tt), omega arith, inr refl)
          pick false h g = (m, refl, omega arith, omega (arith, g tt), inl refl)

      go : Kept lo x → (n : ℕ) × (clearance x hi ≡ pos n) × Nearest (λ y. not (le_z y hi)) x n → (n : ℕ) × (d ≡ pos n) × Nearest (λ y. not (in_between y)) x n
      go u (n, e, v) =
          let s = smaller_is u.by n in
          (s.0, rw (u.is, e) s.1, either_breaks (le_z lo) (λ y. le_z y hi) x u.by n s.0 s.2 s.3 s.4 u.near v)

  outside_between : T (le_z lo hi) → T (not (in_between x)) → (n : ℕ) × (d ≡ neg_ℤ (pos n)) × Nearest in_between x n
  outside_between o t = elim (and_no (le_z lo x) (le_z x hi) t) [ inl s ↦ low s | inr s ↦ high s ]
    where
      low : T (not (le_z lo x)) → (n : ℕ) × (d ≡ neg_ℤ (pos n)) × Nearest in_between x n
      low s =
          let m = missed lo x s in
          let k = kept_high hi x (parts_le x hi (omega (arith, nle_parts lo x s, le_parts lo hi o))) in (
            m.by,
            not_taken (lt_z (clearance x hi) (clearance lo x)) (clearance lo x) (clearance x hi) (rw (k.1, m.is) (parts_nlt (pos k.0) (neg_ℤ (pos m.by)) (omega (arith, plus_neg (pos m.by), minus_neg (pos m.by))))) ∙ m.is,
            record { nearest = lo; passes = yes_and (le_z lo lo) (le_z lo hi) (le_self lo) o; away = m.away; least = λ y u. m.least y (and_yes (le_z lo y) (le_z y hi) u).0 },
          )

      high : T (not (le_z x hi)) → (n : ℕ) × (d ≡ neg_ℤ (pos n)) × Nearest in_between x n
      high s =
          let m = missed_high hi x s in
          let k = kept lo x (parts_le lo x (omega (arith, nle_parts x hi s, le_parts lo hi o))) in (
            m.0,
            taken (lt_z (clearance x hi) (clearance lo x)) (clearance lo x) (clearance x hi) (rw (m.1, k.is) (parts_lt (neg_ℤ (pos m.0)) (pos k.by) (omega (arith, plus_neg (pos m.0), minus_neg (pos m.0), m.2, abs_parts (hi -ℤ x), sub_parts hi x, nle_parts x hi s)))) ∙ m.1,
            record { nearest = hi; passes = yes_and (le_z lo hi) (le_z hi hi) o (le_self hi); away = m.2; least = λ y u. m.3 y (and_yes (le_z lo y) (le_z y hi) u).1 },
          )

-- document 01's words for every range with ends
pub distance_measures : (top : ℕ) (r : Range) (x : ℤ) → Ends r → (Open r → ⊥) → Measures r x (distance top r x)
distance_measures top Unset x e o = absurd (o tt)
distance_measures top Free x e o = absurd (o tt)
distance_measures top (AtLeast lo) x e o = record {
  inside = λ t. let k = kept lo x t in (k.by, k.is, k.near);
  outside = λ t. let m = missed lo x t in (m.by, m.is, record { nearest = lo; passes = le_self lo; away = m.away; least = m.least });
}
distance_measures top (AtMost hi) x e o = record {
  inside = kept_high hi x;
  outside = λ t. let m = missed_high hi x t in (m.0, m.1, record { nearest = hi; passes = le_self hi; away = m.2; least = m.3 });
}
distance_measures top (Between lo hi) x e o = record {
  inside = λ t. let p = and_yes (le_z lo x) (le_z x hi) t in inside_between lo hi x p.0 p.1;
  outside = outside_between lo hi x e.2;
}
