-- Until, release, eventually and always are what their sentences say, both ways. A reading counts the places from i on and a sentence names them, so until's
-- proof only moves between place j and the step j - i; release is until of the negations, negated, and its sentence is what until's then says.
-- Assumes nothing.
use mathlib.Core.Bool.{Bool, not, ◌||◌}
use mathlib.Core.Path.{◌≡◌, sym, subst}
use mathlib.Core.Logic.{◌⊎◌, inl, inr}
use Prim.Native.Nat.{ℕ, ◌+◌, ◌-◌, ◌≤◌, ◌<◌}
use native.Mathlib.Omega.{arith}
use lib.Dec.{T}
use mir.Facts.{T_not, not_T, T_not-not, or_yes, or_no}
use Rattle.lists.specs.Fold.{any_below}
use Rattle.lists.proofs.Below.{any_at, at_any}
use Rattle.logic.specs.declared.Window.{Window}
use Rattle.logic.specs.Window.{inside}
use Rattle.logic.specs.declared.Extremum.TheVariants.{Smallest}
use Rattle.logic.specs.Formula.{Formula, truth, negation, until, release, eventually, always}
use Rattle.logic.specs.declared.Direction.TheVariants.{Future}
use Rattle.logic.specs.Reading.{Places, offset, read, booleans}
use Rattle.logic.specs.Words.{Ahead, Until, Release, Eventually, Always}
use Rattle.logic.proofs.Duality.{along_negated, booleans_dual}
use Rattle.logic.proofs.Witness.{Witness, witness_of, of_witness}

sure : (b : Bool) → (T (not b) → ⊥) → T b
sure b h = T_not-not b (not_T (not b) h)

module _ {P : Type 0} (F : Places) (at : P → ℕ → Bool) (w : Window) (i : ℕ) where
  -- the truth of a requirement at each place
  abbrev true_at : Formula P → ℕ → Bool
  true_at φ k = read booleans F at φ k

  -- step m leads to place i + m
  ahead_of : (m : ℕ) → m < F.end - i → T (inside w (offset Future F i m)) → Ahead F w i (i + m)
  ahead_of m h t = record { not_before = omega arith; in_places = omega arith; in_window = t }

  step_to : (j : ℕ) → i ≤ j → i + (j - i) ≡ j
  step_to j h = omega arith

  in_window_of : (j : ℕ) → Ahead F w i j → T (inside w (offset Future F i (j - i)))
  in_window_of j a = subst (λ (n : ℕ). T (inside w (F.time n - F.time i))) (sym (step_to j a.not_before)) a.in_window

  pub until_says : (l r : Formula P) → T (read booleans F at (until w l r) i) → Until F w (true_at l) (true_at r) i
  until_says l r t =
      let u : Witness w (offset Future F i) (λ m. true_at l (i + m)) (λ m. true_at r (i + m)) (F.end - i) = witness_of t in
      record {
        j = i + u.spot;
        ahead = ahead_of u.spot u.in_row u.in_window;
        right_at = u.right;
        left_before = λ k a b. subst (λ (n : ℕ). T (true_at l n)) (step_to k a) (u.left (k - i) (omega arith));
      }

  pub says_until : (l r : Formula P) → Until F w (true_at l) (true_at r) i → T (read booleans F at (until w l r) i)
  says_until l r u =
      let a = u.ahead in
      of_witness {w = w} {d = offset Future F i} {l = λ m. true_at l (i + m)} {r = λ m. true_at r (i + m)} {n = F.end - i} (record {
        spot = u.j - i;
        in_row = omega (arith, a.not_before, a.in_places);
        in_window = in_window_of u.j a;
        right = subst (λ (n : ℕ). T (true_at r n)) (sym (step_to u.j a.not_before)) u.right_at;
        left = λ q h. u.left_before (i + q) (omega arith) (omega (arith, a.not_before));
      })

  -- release is until of the negations, negated
  released : (l r : Formula P) → not (read booleans F at (release w l r) i) ≡ read booleans F at (until w (negation l) (negation r)) i
  released l r = along_negated booleans_dual Smallest w (offset Future F i) (λ m. true_at l (i + m)) (λ m. true_at r (i + m)) (F.end - i)

  pub release_says : (l r : Formula P) → T (read booleans F at (release w l r) i) → Release F w (true_at l) (true_at r) i
  release_says l r t = record { each = each }
    where
      earlier : ℕ → Bool
      earlier j = any_below (λ m. true_at l (i + m)) (j - i)

      -- were both false, until of the negations would be true
      either : (j : ℕ) → Ahead F w i j → T (not (true_at r j || earlier j)) → ⊥
      either j a n =
          let e = or_no (true_at r j) (earlier j) n in
          T_not (read booleans F at (release w l r) i) t (subst T (sym (released l r)) (says_until (negation l) (negation r) (record {
            j = j;
            ahead = a;
            right_at = e.0;
            left_before = λ k x y. not_T (true_at l k) (λ z. T_not (earlier j) (at_any (λ m. true_at l (i + m)) (j - i) (k - i) (omega arith) (subst (λ (n : ℕ). T (true_at l n)) (sym (step_to k x)) z)) e.1);
          })))

      each : (j : ℕ) → Ahead F w i j → T (true_at r j) ⊎ ((k : ℕ) × (i ≤ k) × (k < j) × T (true_at l k))
      each j a = elim (or_yes (true_at r j) (earlier j) (sure (true_at r j || earlier j) (either j a))) [
        | inl y ↦ inl y
        | inr y ↦ let f = any_at (λ m. true_at l (i + m)) (j - i) y in inr (i + f.0, omega arith, omega (arith, f.1, a.not_before), f.2)
      ]

  pub says_release : (l r : Formula P) → Release F w (true_at l) (true_at r) i → T (read booleans F at (release w l r) i)
  says_release l r s =
      sure (read booleans F at (release w l r) i) (λ t.
      let u = until_says (negation l) (negation r) (subst T (released l r) t) in
      elim (s.each u.j u.ahead) [ inl y ↦ T_not (true_at r u.j) y u.right_at | inr (k, a, b, y) ↦ T_not (true_at l k) y (u.left_before k a b) ])

  pub eventually_says : (φ : Formula P) → T (read booleans F at (eventually w φ) i) → Eventually F w (true_at φ) i
  eventually_says φ t = let u = until_says truth φ t in record { j = u.j; ahead = u.ahead; there = u.right_at }

  pub says_eventually : (φ : Formula P) → Eventually F w (true_at φ) i → T (read booleans F at (eventually w φ) i)
  says_eventually φ u = says_until truth φ (record { j = u.j; ahead = u.ahead; right_at = u.there; left_before = λ k a b. tt })

  pub always_says : (φ : Formula P) → T (read booleans F at (always w φ) i) → Always F w (true_at φ) i
  always_says φ t = record { each = λ j a. elim ((release_says (negation truth) φ t).each j a) [ inl y ↦ y | inr y ↦ absurd y.3 ] }

  pub says_always : (φ : Formula P) → Always F w (true_at φ) i → T (read booleans F at (always w φ) i)
  says_always φ u = says_release (negation truth) φ (record { each = λ j a. inl (u.each j a) })
