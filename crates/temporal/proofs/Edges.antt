-- Times rise, so what is past a stop of place i is past it at every later place too, and what is reached from i is reached from the next place too.
-- A window's places are then those from one edge up to another.
-- Assumes nothing.
use mathlib.Core.Path.{◌≡◌, refl, sym, ◌∙◌, subst}
use mathlib.Core.Bool.{true, not}
use mathlib.Core.List.{List}
use Prim.Native.Nat.{ℕ, ◌+◌, ◌-◌, ◌≤◌, ◌<◌}
use native.Mathlib.Omega.{arith}
use native.Mathlib.Decide.{dec_le, dec_lt}
use lib.Dec.{T, leb, ltb}
use lib.ListN.{length, get_or}
use borrow.Author.Tests.{lt-ltb, le-ltb, lt-leb, le-leb, ltb-true}
use Rattle.logic.specs.declared.Stop.{Stop}
use Rattle.logic.specs.declared.Stop.TheVariants.{Endless, Before}
use Rattle.logic.specs.declared.Window.{Window}
use Rattle.logic.specs.Window.{reaches, inside}
use Rattle.logic.proofs.Line.{climbs}
use Rattle.temporal.specs.Reading.{Rising}
use Rattle.temporal.specs.Edges.{Reached, Edge}
use Rattle.temporal.proofs.Along.{between}

reaches_less : (s : Stop) (c d : ℕ) → c ≤ d → reaches s d ≡ true → reaches s c ≡ true
reaches_less Endless c d h e = refl
reaches_less (Before n) c d h e = lt-ltb c n (omega (arith, ltb-true d n e))

leb_not : (a b : ℕ) → leb a b ≡ not (ltb b a)
leb_not a b =
    elim (dec_lt b a) [
      | yes h ↦ rw (lt-leb a b h, lt-ltb b a h) refl
      | no h ↦ let k : a ≤ b = omega arith in rw (le-leb a b k, le-ltb b a k) refl
    ]

module _ {times : List ℕ} where
  pub rises : Rising times → (i j : ℕ) → i ≤ j → j < length times → get_or times i 0 ≤ get_or times j 0
  rises R i j h k = climbs (λ m. get_or times m 0) 0 j (λ m a b. R.rising m (omega arith)) i j (omega arith) h (omega arith)

  -- ---- the search for an edge
  pub reached_none : (s : Stop) → Reached times s 0 0
  reached_none s = record { in_times = omega arith; reached = λ j a b. absurd (omega arith) }

  pub edge_found : Rising times → (apart i j : ℕ) → i ≤ j → apart ≤ get_or times j 0 - get_or times i 0 → Reached times (Before apart) i j → Edge times (Before apart) i j
  edge_found R apart i j h g k = record {
    from = h;
    short = k;
    past = λ m a b. le-ltb (get_or times m 0 - get_or times i 0) apart (omega (arith, rises R j m a b));
  }

  -- ---- from one place to the next
  pub reached_next : Rising times → (s : Stop) (i r : ℕ) → Reached times s i r → Reached times s (i + 1) r
  reached_next R s i r k = record {
    in_times = k.in_times;
    reached = λ j a b. reaches_less s (get_or times j 0 - get_or times (i + 1) 0) (get_or times j 0 - get_or times i 0) (omega (arith, rises R i (i + 1) (omega arith) (omega (arith, k.in_times)))) (k.reached j (omega arith) b);
  }

  -- an edge stands no earlier than what was reached before
  pub edge_rises : {s : Stop} {i r e : ℕ} → Reached times s i r → Edge times s i e → r ≤ e
  edge_rises {r = r} {e = e} R E =
      elim (dec_le r e) [
        | yes q ↦ q
        | no q ↦ absurd (subst T (sym (R.reached e E.from (omega arith)) ∙ E.past e (omega arith) (omega (arith, R.in_times))) tt)
      ]

  -- ---- a window as the places between its edges
  edge_test : (s : Stop) (i r : ℕ) → Edge times s i r → (j : ℕ) → i ≤ j → j < length times → reaches s (get_or times j 0 - get_or times i 0) ≡ ltb j r
  edge_test s i r E j a b =
      elim (dec_lt j r) [
        | yes q ↦ E.short.reached j a q ∙ sym (lt-ltb j r q)
        | no q ↦ let p : r ≤ j = omega arith in E.past j p b ∙ sym (le-ltb j r p)
      ]

  pub edges_inside : (w : Window) (i first end : ℕ) → Edge times (Before w.from) i first → Edge times w.stop i end → (j : ℕ) → i ≤ j → j < length times → inside (between first end) j ≡ inside w (get_or times j 0 - get_or times i 0)
  edges_inside w i first end F E j a b =
      rw (leb_not first j, leb_not w.from (get_or times j 0 - get_or times i 0), edge_test (Before w.from) i first F j a b, edge_test w.stop i end E j a b) refl
