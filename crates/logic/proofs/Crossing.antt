-- Rows of places that leave no gap above a step: from each place on they are a line, so what an operator sees from one place is met in what it sees
-- from a near place of another row. Until crosses from a contracted window to the window, release from an expanded one.
-- Assumes nothing.
use mathlib.Core.Path.{◌≡◌, refl, sym, subst}
use Prim.Native.Nat.{ℕ, suc, ◌+◌, ◌-◌, ◌≤◌, ◌<◌}
use native.Mathlib.Nat.{add-suc, add-zero}
use native.Mathlib.Omega.{arith}
use Rattle.logic.specs.declared.Window.{Window}
use Rattle.logic.specs.declared.Extremum.{Extremum}
use Rattle.logic.specs.declared.Extremum.TheVariants.{Largest, Smallest}
use Rattle.logic.specs.declared.Direction.{Direction}
use Rattle.logic.specs.declared.Direction.TheVariants.{Future}
use Rattle.logic.specs.Reading.{Places, place, count, offset}
use Rattle.logic.specs.Strengthening.{strengthen_window}
use Rattle.logic.proofs.Windows.{Near, Spread, contraction_spread, expansion_spread}
use Rattle.logic.proofs.Carry.{Met, Row, Meets, Bridge}
use Rattle.logic.proofs.Line.{Line, climbs, meet}

-- places that begin at second b, end at second e, and rise by at most s from each to the next
pub record Dense (s b e : ℕ) (F : Places) : Type 0 where
  pub full : F.first < F.end
  pub rises : (i : ℕ) → F.first ≤ i → suc i < F.end → F.time i < F.time (suc i)
  pub close : (i : ℕ) → F.first ≤ i → suc i < F.end → F.time (suc i) ≤ F.time i + s
  pub begins : F.time F.first ≡ b
  pub ends : (i : ℕ) → suc i ≡ F.end → F.time i ≡ e

pub record In (F : Places) (i : ℕ) : Type 0 where
  pub low : F.first ≤ i
  pub high : i < F.end

module _ {s b e : ℕ} {F : Places} (D : Dense s b e F) where
  ordered : (i j : ℕ) → F.first ≤ i → i ≤ j → j < F.end → F.time i ≤ F.time j
  ordered i j h k l = climbs F.time F.first (F.end - 1) (λ m p q. D.rises m p (omega arith)) i j h k (omega arith)

  -- the places from i on
  line_future : (i : ℕ) → In F i → Line s e
  line_future i h = record {
    last = F.end - suc i;
    size = F.end - i;
    whole = omega arith;
    at = λ m. F.time (i + m);
    times = offset Future F i;
    counts = λ m k. rw add-zero (omega (arith, ordered i (i + m) h.low (omega arith) (omega arith)));
    rises = λ m k. rw add-suc (D.rises (i + m) (omega arith) (omega arith));
    close = λ m k. rw add-suc (D.close (i + m) (omega arith) (omega arith));
    ends = D.ends (i + (F.end - suc i)) (omega arith);
  }

-- place i of F and place t of G, at most s apart
pub record Close (s : ℕ) (F G : Places) (i t : ℕ) : Type 0 where
  pub here : In F i
  pub there : In G t
  pub near : Near s (F.time i) (G.time t)

swap : {s : ℕ} {F G : Places} {i t : ℕ} → Close s F G i t → Close s G F t i
swap c = record { here = c.there; there = c.here; near = record { down = c.near.up; up = c.near.down } }

mapped : {near near' : ℕ → ℕ → Type 0} {w : Window} {d : ℕ → ℕ} {n m : ℕ} → ((p q : ℕ) → p ≤ m → q < n → near p q → near' p q) → Met near w d n m → Met near' w d n m
mapped f u = record {
  spot = u.spot;
  in_row = u.in_row;
  in_window = u.in_window;
  close = f _ u.spot (omega arith) u.in_row u.close;
  cover = λ q i. let c = u.cover q i in (c.0, c.1, f c.0 q (omega arith) (omega (arith, u.in_row)) c.2);
}

-- what an operator with window w sees from place i
abbrev pub row : Direction → Places → Window → ℕ → Row
row d F w i = record { window = w; times = offset d F i; size = count d F i }

-- the place m steps away is one of the places
stays : (d : Direction) {F : Places} {i : ℕ} (m : ℕ) → In F i → m < count d F i → In F (place d i m)
stays Future m h k = omega arith

module _ {s b e : ℕ} {F G : Places} (DF : Dense s b e F) (DG : Dense s b e G) {v w : Window} (sp : Spread s v w) (i t : ℕ) (c : Close s F G i t) where
  starts_near : Near s (F.time (i + 0)) (G.time (t + 0))
  starts_near = rw (add-zero i, add-zero t) c.near

  -- what window v shows of F from i is met in what w shows of G from t
  crossing : (d : Direction) → Meets (λ m n. Close s F G (place d i m) (place d t n)) (row d F v i) (row d G w t)
  unfolding Meets line_future
  crossing Future m h k =
      mapped (λ p q a z n. record { here = stays Future p c.here (omega arith); there = stays Future q c.there z; near = n })
      (meet (line_future DF i c.here) (line_future DG t c.there) starts_near sp m (omega arith) k)

module _ {s b e : ℕ} {F G : Places} (DF : Dense s b e F) (DG : Dense s b e G) where
  -- both ways: until from F to G, release from G to F
  pub bridge : (d : Direction) (x : Extremum) (w : Window) (i t : ℕ) → Close s F G i t → Bridge x (λ m n. Close s F G (place d i m) (place d t n)) (row d F (strengthen_window x s w) i) (row d G w t)
  unfolding Bridge Meets
  bridge d Largest w i t c = crossing DF DG (contraction_spread s w) i t c d
  bridge d Smallest w i t c = λ m h k. mapped (λ p q a z. swap) (crossing DG DF (expansion_spread s w) t i (swap c) d m h k)

-- the same row with its window as it was: until from the contracted window, release from the expanded one
module _ (s : ℕ) (F : Places) where
  still : {v w : Window} → Spread s v w → (d : Direction) (i : ℕ) → Meets (λ m n. place d i m ≡ place d i n) (row d F v i) (row d F w i)
  unfolding Meets
  still sp d i m h t = record { spot = m; in_row = h; in_window = sp.spread (offset d F i m) (offset d F i m) t (omega arith); close = refl; cover = λ q j. (q, j, refl) }

  pub same_row : (d : Direction) (x : Extremum) (w : Window) (i t : ℕ) → i ≡ t → Bridge x (λ m n. place d i m ≡ place d t n) (row d F (strengthen_window x s w) i) (row d F w t)
  unfolding Bridge Meets
  same_row d Largest w i t p = subst (λ u. Meets (λ m n. place d i m ≡ place d u n) (row d F (strengthen_window Largest s w) i) (row d F w u)) p (still (contraction_spread s w) d i)
  same_row d Smallest w i t p = subst (λ u. Meets (λ n m. place d i m ≡ place d u n) (row d F w u) (row d F (strengthen_window Smallest s w) i)) p (λ m h t. mapped (λ a b c e. sym) (still (expansion_spread s w) d i m h t))
