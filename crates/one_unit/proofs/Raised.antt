-- Raising the TOP keeps the order and the negative of margins, so it goes through every reading: today's margin is that of before, raised.
-- Assumes nothing.
use mathlib.Core.Path.{◌≡◌, refl, sym, ap, ◌∙◌}
use mathlib.Core.Bool.{Bool, true, false, not, cond}
use mathlib.Core.Logic.{◌⊎◌, inl, inr}
use Prim.Native.Nat.{ℕ, ◌+◌, ◌-◌, ◌*◌, ◌≤◌, ◌<◌}
use native.Mathlib.Omega.{arith}
use native.Mathlib.Nat.{add-le-add, add-lt-add_of_lt_of_le, add-lt-add_of_le_of_lt}
use native.Mathlib.Decide.{dec_lt}
use lib.Dec.{T}
use lib.IntN.{ℤ, pos, neg_ℤ}
use lib.Signed.{lt_z, le_z}
use Rattle.numbers.specs.Order.{Within}
use Rattle.numbers.proofs.Parts.{plus, minus, lt_parts, parts_lt, le_parts, nle_parts, parts_eq, parts_apart, abs_parts, plus_neg, minus_neg, times_one, within_neg, within_more}
use Rattle.lists.proofs.Below.{same_test}
use Rattle.logic.specs.declared.Extremum.{Extremum}
use Rattle.logic.specs.declared.Extremum.TheVariants.{Largest, Smallest}
use Rattle.logic.specs.Formula.{Formula}
use Rattle.logic.specs.Reading.{margins, margin_extreme, margin_nothing}
use Rattle.logic.proofs.Steps.{Step, read_step}
use Rattle.logic.proofs.Margins.{bounded_step}
use Rattle.recordings.specs.declared.Range.{Range}
use Rattle.recordings.specs.declared.Range.TheVariants.{Unset, Free, AtLeast, AtMost, Between}
use Rattle.recordings.specs.Card.{Card, scale, value, predicate, samples}
use Rattle.recordings.specs.Distance.{TOP, distance, scaled_distance}
use Rattle.recordings.specs.Margin.{robustness, margin, distance_at}
use Rattle.recordings.specs.Accepted.{LARGEST_DRIFT, InRange, Ends, Recorded}
use Rattle.recordings.proofs.Distances.{Open, free_or_not, distance_small, scaled_times}
use Rattle.recordings.proofs.Margins.{measured, in_range_at}
use Rattle.one_unit.specs.Before.{OneUnit, TOP_BEFORE, distance_before, margin_before, raised}

-- the parts of a raised margin: what reaches the TOP of before gains the difference of the two
raised_parts : (z : ℤ) → Within TOP_BEFORE z → (plus (raised z) ≡ plus z + 3_996_000_000_000 * (plus z - 3_999_999_999)) × (minus (raised z) ≡ minus z + 3_996_000_000_000 * (minus z - 3_999_999_999))
raised_parts z w = go (le_z (pos TOP_BEFORE) z) (le_z z (neg_ℤ (pos TOP_BEFORE))) (le_parts (pos TOP_BEFORE) z) (nle_parts (pos TOP_BEFORE) z) (le_parts z (neg_ℤ (pos TOP_BEFORE))) (nle_parts z (neg_ℤ (pos TOP_BEFORE)))
  where
    go : (a b : Bool)
        → (T a → plus (pos TOP_BEFORE) + minus z ≤ plus z + minus (pos TOP_BEFORE)) → (T (not a) → plus z + minus (pos TOP_BEFORE) < plus (pos TOP_BEFORE) + minus z)
        → (T b → plus z + minus (neg_ℤ (pos TOP_BEFORE)) ≤ plus (neg_ℤ (pos TOP_BEFORE)) + minus z) → (T (not b) → plus (neg_ℤ (pos TOP_BEFORE)) + minus z < plus z + minus (neg_ℤ (pos TOP_BEFORE)))
        → (plus (cond a (pos TOP) (cond b (neg_ℤ (pos TOP)) z)) ≡ plus z + 3_996_000_000_000 * (plus z - 3_999_999_999)) × (minus (cond a (pos TOP) (cond b (neg_ℤ (pos TOP)) z)) ≡ minus z + 3_996_000_000_000 * (minus z - 3_999_999_999))
    go true b h k l m = (omega (arith, h tt, w.size, abs_parts z, parts_apart z), omega (arith, h tt, w.size, abs_parts z, parts_apart z))
    go false true h k l m = (omega (arith, l tt, w.size, abs_parts z, parts_apart z), omega (arith, l tt, w.size, abs_parts z, parts_apart z))
    go false false h k l m = (omega (arith, k tt, m tt, parts_apart z), omega (arith, k tt, m tt, parts_apart z))

-- on either part that is monotone, and strictly so up to the TOP of before
no_lower : (x y : ℕ) → x ≤ y → x + 3_996_000_000_000 * (x - 3_999_999_999) ≤ y + 3_996_000_000_000 * (y - 3_999_999_999)
no_lower x y h = omega arith

higher : (x y : ℕ) → x < y → x + 3_996_000_000_000 * (x - 3_999_999_999) < y + 3_996_000_000_000 * (y - 3_999_999_999)
higher x y h = omega arith

-- of two numbers the smaller has no more above zero and no less below it, and differs in one of the two
rises : (a b : ℤ) → T (lt_z a b) → (plus a ≤ plus b) × (minus b ≤ minus a) × ((plus a < plus b) ⊎ (minus b < minus a))
rises a b t =
    let l = lt_parts a b t in
    (omega (arith, parts_apart a, parts_apart b), omega (arith, parts_apart a, parts_apart b), elim (dec_lt (plus a) (plus b)) [ yes h ↦ inl h | no h ↦ inr (omega (arith, parts_apart a, parts_apart b)) ])

raises : (a b : ℤ) → Within TOP_BEFORE a → Within TOP_BEFORE b → T (lt_z a b) → T (lt_z (raised a) (raised b))
raises a b v w t = parts_lt (raised a) (raised b) (go (rises a b t))
  where
    go : (plus a ≤ plus b) × (minus b ≤ minus a) × ((plus a < plus b) ⊎ (minus b < minus a)) → plus (raised a) + minus (raised b) < plus (raised b) + minus (raised a)
    go (p, q, inl s) = rw ((raised_parts a v).0, (raised_parts a v).1, (raised_parts b w).0, (raised_parts b w).1) (add-lt-add_of_lt_of_le (higher _ _ s) (no_lower _ _ q))
    go (p, q, inr s) = rw ((raised_parts a v).0, (raised_parts a v).1, (raised_parts b w).0, (raised_parts b w).1) (add-lt-add_of_le_of_lt (no_lower _ _ p) (higher _ _ s))

keeps_order : (a b : ℤ) → Within TOP_BEFORE a → Within TOP_BEFORE b → lt_z (raised a) (raised b) ≡ lt_z a b
keeps_order a b v w = same_test back (raises a b v w)
  where
    lower : plus b + minus a ≤ plus a + minus b → plus (raised b) + minus (raised a) ≤ plus (raised a) + minus (raised b)
    lower h = rw ((raised_parts a v).0, (raised_parts a v).1, (raised_parts b w).0, (raised_parts b w).1) (add-le-add (no_lower _ _ (omega (arith, parts_apart a, parts_apart b))) (no_lower _ _ (omega (arith, parts_apart a, parts_apart b))))

    back : T (lt_z (raised a) (raised b)) → T (lt_z a b)
    back t = elim (dec_lt (plus a + minus b) (plus b + minus a)) [ yes h ↦ parts_lt a b h | no h ↦ absurd (omega (arith, lt_parts (raised a) (raised b) t, lower (omega arith))) ]

-- a margin below the TOP of before stays as it was
stays : (z : ℤ) → Within 3_999_999_999 z → raised z ≡ z
stays z w = let p = raised_parts z (within_more (omega arith) w) in parts_eq (raised z) z (omega (arith, p.0, p.1, w.size, abs_parts z))

-- z is a margin of before, and w is that margin raised
pub record Raise (z w : ℤ) : Type 0 where
  pub within : Within TOP_BEFORE z
  pub is : w ≡ raised z

raise_negated : (z w : ℤ) → Raise z w → Raise (neg_ℤ z) (neg_ℤ w)
raise_negated z w r =
    let p = raised_parts z r.within in
    let q = raised_parts (neg_ℤ z) (within_neg r.within) in
    record { within = within_neg r.within; is = ap neg_ℤ r.is ∙ parts_eq (neg_ℤ (raised z)) (raised (neg_ℤ z)) (omega (arith, p.0, p.1, q.0, q.1, plus_neg z, minus_neg z, plus_neg (raised z), minus_neg (raised z))) }

raise_step : Step (margins TOP_BEFORE) (margins TOP) Raise
raise_step = record {
  nothing = λ e. record { within = (bounded_step TOP_BEFORE).nothing e; is = nothing e };
  extremes = λ e {a} {b} p q. record { within = (bounded_step TOP_BEFORE).extremes e {c = true} {d = true} p.within q.within; is = extremes e a b p.within q.within p.is q.is };
}
  where
    nothing : (e : Extremum) → margin_nothing TOP e ≡ raised (margin_nothing TOP_BEFORE e)
    nothing Largest = refl
    nothing Smallest = refl

    choice : (t : Bool) (a b : ℤ) → cond t (raised b) (raised a) ≡ raised (cond t b a)
    choice true a b = refl
    choice false a b = refl

    extremes : (e : Extremum) (a b : ℤ) {c d : ℤ} → Within TOP_BEFORE a → Within TOP_BEFORE b → c ≡ raised a → d ≡ raised b → margin_extreme e c d ≡ raised (margin_extreme e a b)
    extremes Largest a b v w p q = rw (p, q, keeps_order a b v w) (choice (lt_z a b) a b)
    extremes Smallest a b v w p q = rw (p, q, keeps_order b a w v) (choice (lt_z b a) a b)

-- a distance times 1, with today's TOP
distance_raised : (k : ℕ) (r : Range) (v : ℤ) → Ends r → InRange v → (r ≡ Unset) ⊎ (k ≡ 1) → Raise (distance TOP_BEFORE r v) (scaled_distance TOP k r v)
distance_raised k r v e h (inl u) = rw u (record { within = record { size = omega arith }; is = refl })
distance_raised k r v e h (inr one) = elim (free_or_not r) [ inl o ↦ free r o | inr o ↦ rw (scaled_times TOP k r v o, one, times_one (distance TOP r v), same_distance r o) (small (distance TOP_BEFORE r v) (distance_small TOP_BEFORE r v e h o)) ]
  where
    free : (r : Range) → Open r → Raise (distance TOP_BEFORE r v) (scaled_distance TOP k r v)
    free Unset o = record { within = record { size = omega arith }; is = refl }
    free Free o = record { within = record { size = omega arith }; is = refl }
    free (AtLeast lo) o = absurd o
    free (AtMost hi) o = absurd o
    free (Between lo hi) o = absurd o

    same_distance : (r : Range) → (Open r → ⊥) → distance TOP r v ≡ distance TOP_BEFORE r v
    same_distance Unset o = absurd (o tt)
    same_distance Free o = absurd (o tt)
    same_distance (AtLeast lo) o = refl
    same_distance (AtMost hi) o = refl
    same_distance (Between lo hi) o = refl

    small : (z : ℤ) → Within 2_000_000_001 z → Raise z z
    small z w = record { within = within_more (omega arith) w; is = sym (stays z (within_more (omega arith) w)) }

-- ---- every requirement, at every sample
module _ {c : Card} (ok : Recorded c) (u : OneUnit c) where
  raise : (φ : Formula ℕ) (i : ℕ) → Raise (margin_before c φ i) (margin c φ i)
  unfolding robustness margin_before
  raise φ i = read_step raise_step (samples c) raise_negated atoms φ i
    where
      atoms : (p j : ℕ) → Raise (distance_before c p j) (distance_at TOP c p j)
      atoms p j = distance_raised (scale c (predicate c p).channel) (predicate c p).range (value c (predicate c p).channel j) (ok.channels.proper p).ends (in_range_at (measured ok) _) (elim (ok.channels.proper p).known [ inl n ↦ inl n | inr n ↦ inr (u.each (predicate c p).channel n) ])

  pub margin_raised : (φ : Formula ℕ) (i : ℕ) → margin c φ i ≡ raised (margin_before c φ i)
  margin_raised φ i = (raise φ i).is

  -- the same margins are above a drift
  pub exceeds_alike : (drift : ℕ) → drift ≤ LARGEST_DRIFT → (φ : Formula ℕ) (i : ℕ) → lt_z (pos drift) (margin c φ i) ≡ lt_z (pos drift) (margin_before c φ i)
  exceeds_alike drift h φ i =
      let w : Within 3_999_999_999 (pos drift) = record { size = omega arith } in
      ap (lt_z (pos drift)) (margin_raised φ i) ∙ (ap (λ (z : ℤ). lt_z z (raised (margin_before c φ i))) (sym (stays (pos drift) w)) ∙ keeps_order (pos drift) (margin_before c φ i) (within_more (omega arith) w) (raise φ i).within)
