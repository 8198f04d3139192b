-- A run whose ends move forward. Its extremum is that of what the place at its low end holds and of the tail: over all moves, a place is joined to the tail at
-- most once and gets an extremum at most once. `f` and `stored` read the places in the order in which the ends move, whichever way that goes through a row.
-- Assumes nothing.
use mathlib.Core.Path.{◌≡◌, refl, sym, ◌∙◌}
use Prim.Native.Nat.{ℕ, ◌+◌, ◌-◌, ◌≤◌, ◌<◌}
use native.Mathlib.Omega.{arith}
use native.Mathlib.Decide.{dec_lt}
use lib.IntN.{ℤ}
use borrow.Author.Tests.{lt-ltb, le-ltb}
use Rattle.lists.specs.Fold.{fold}
use Rattle.logic.specs.declared.Extremum.{Extremum}
use Rattle.logic.specs.Reading.{margin_extreme, margin_nothing}
use Rattle.recordings.specs.Distance.{TOP}
use Rattle.sliding.specs.declared.SlidingExtremum.{SlidingExtremum}
use Rattle.sliding.specs.Run.{over, at_start, sliding_over, next_cut}
use Rattle.sliding.specs.Asks.{Sliding}
use Rattle.sliding.proofs.Over.{over_cong, over_empty, over_on, over_split}

-- ---- where a move parts the run
module _ (cut low high : ℕ) where
  pub cut_kept : low < cut → next_cut cut low high ≡ cut
  cut_kept h = rw (lt-ltb low cut h) refl

  pub cut_anew : cut ≤ low → next_cut cut low high ≡ high
  cut_anew h = rw (le-ltb low cut h) refl

  pub cut_below : cut ≤ high → next_cut cut low high ≤ high
  cut_below k = elim (dec_lt low cut) [ yes q ↦ rw (cut_kept q) k | no q ↦ rw (cut_anew (omega arith)) (omega arith) ]

-- ---- what a move finds
module _ (e : Extremum) (f stored : ℕ → ℤ) (s : SlidingExtremum) (low high : ℕ) {tail value : ℤ} where
  -- the low end has not come to cut: the tail goes on
  pub sliding_on : Sliding e f stored s low → low < s.cut → s.high ≤ high → tail ≡ fold (margin_extreme e) s.tail (λ m. f (s.high + m)) (high - s.high) → value ≡ margin_extreme e (stored low) tail → ◌≡◌ {A = SlidingExtremum} (record { cut = s.cut; high = high; tail = tail; value = value }) (sliding_over e f low (next_cut s.cut low high) high)
  sliding_on S h k t v =
      let o = S.ordered in
      let x : tail ≡ over e f s.cut high = t ∙ rw S.tail_is (over_on e f s.cut s.high high o k) in
      let y : value ≡ over e f low high = v ∙ rw (x, S.stored_are low (omega arith) h) (sym (over_split e f low s.cut high (omega arith) (omega arith))) in
      rw (cut_kept s.cut low high h, x, y) refl

-- the low end has come to cut: the extremum is found anew
pub sliding_anew : (e : Extremum) (f : ℕ → ℤ) (cut low high : ℕ) {tail value : ℤ} → cut ≤ low → tail ≡ margin_nothing TOP e → value ≡ over e f low high
    → ◌≡◌ {A = SlidingExtremum} (record { cut = high; high = high; tail = tail; value = value }) (sliding_over e f low (next_cut cut low high) high)
sliding_anew e f cut low high h t v = rw (cut_anew cut low high h, t, v, over_empty e f high high (omega arith)) refl

-- ---- what is known of a run: before its first place, after a move, and while other places are written
pub sliding_start : (e : Extremum) (f stored : ℕ → ℤ) (low : ℕ) → Sliding e f stored (at_start e) low
sliding_start e f stored low = record { ordered = omega arith; tail_is = refl; stored_are = λ j a b. absurd (omega arith) }

module _ {e : Extremum} {f stored : ℕ → ℤ} {s : SlidingExtremum} {low : ℕ} (S : Sliding e f stored s low) where
  pub sliding_advanced : (high : ℕ) (stored' : ℕ → ℤ) → s.high ≤ high → ((j : ℕ) → low ≤ j → j < next_cut s.cut low high → stored' j ≡ over e f j (next_cut s.cut low high)) → Sliding e f stored' (sliding_over e f low (next_cut s.cut low high) high) low
  sliding_advanced high stored' h k = record { ordered = cut_below s.cut low high (omega (arith, S.ordered)); tail_is = refl; stored_are = k }

  pub sliding_kept : (n low' : ℕ) (g stored' : ℕ → ℤ) → low ≤ low' → s.high ≤ n → ((j : ℕ) → j < n → f j ≡ g j) → ((j : ℕ) → low' ≤ j → j < n → stored j ≡ stored' j) → Sliding e g stored' s low'
  sliding_kept n low' g stored' h k p q = record {
    ordered = S.ordered;
    tail_is = S.tail_is ∙ over_cong e f g s.cut s.high (λ j a b. p j (omega arith));
    stored_are = λ j a b.
        let o = S.ordered in
        sym (q j a (omega arith)) ∙ S.stored_are j (omega arith) b ∙ over_cong e f g j s.cut (λ m c d. p m (omega arith));
  }
