-- A window and its strengthening, over any bounds: whatever is at most a step from the window lies in its expansion, and so whatever is at most a step
-- from the contraction lies in the window, since a contraction that holds anything expands to the window again. The contraction is the
-- largest set of which this is true.
-- Assumes nothing.
use mathlib.Core.Path.{◌≡◌, refl, ap, subst}
use Prim.Native.Nat.{ℕ, zero, suc, ◌+◌, ◌-◌, ◌≤◌, ◌<◌}
use native.Mathlib.Omega.{arith}
use lib.Dec.{T, leb, leb→le, le→leb, ltb→lt, lt→ltb}
use mir.Facts.{and_yes, yes_and}
use Rattle.logic.specs.declared.Stop.{Stop}
use Rattle.logic.specs.declared.Stop.TheVariants.{Endless, Before}
use Rattle.logic.specs.declared.Window.{Window}
use Rattle.logic.specs.Window.{reaches, inside}
use Rattle.logic.specs.Strengthening.{sooner, later, delayed, contraction, expansion}

-- x and y are at most s apart
pub record Near (s x y : ℕ) : Type 0 where
  pub down : x ≤ y + s
  pub up : y ≤ x + s

-- whatever is at most s from a distance in v lies in w
pub record Spread (s : ℕ) (v w : Window) : Type 0 where
  pub spread : (c d : ℕ) → T (inside v c) → Near s c d → T (inside w d)

pub inside_says : (w : Window) (d : ℕ) → T (inside w d) → (w.from ≤ d) × T (reaches w.stop d)
inside_says w d t = let p = and_yes (leb w.from d) (reaches w.stop d) t in (leb→le _ _ p.0, p.1)

pub says_inside : (w : Window) (d : ℕ) → w.from ≤ d → T (reaches w.stop d) → T (inside w d)
says_inside w d h t = yes_and (leb w.from d) (reaches w.stop d) (le→leb _ _ h) t

later_near : (s : ℕ) (e : Stop) (c d : ℕ) → Near s c d → T (reaches e c) → T (reaches (later s e) d)
later_near s Endless c d n t = tt
later_near s (Before e) c d n t = lt→ltb d (e + s) (omega (arith, ltb→lt c e t))

pub expansion_spread : (s : ℕ) (w : Window) → Spread s w (expansion s w)
expansion_spread s w = record { spread = λ c d t n. let p = inside_says w c t in says_inside (expansion s w) d (omega arith) (later_near s w.stop c d n p.1) }

regained : (s : ℕ) (e : Stop) (c : ℕ) → T (reaches (sooner s e) c) → later s (sooner s e) ≡ e
regained s Endless c t = refl
regained s (Before e) c t = ap Before (omega (arith, ltb→lt _ _ t))

resumed : (s lo : ℕ) → delayed s lo - s ≡ lo
resumed s zero = omega arith
resumed s (suc lo) = omega arith

pub contraction_spread : (s : ℕ) (w : Window) → Spread s (contraction s w) w
contraction_spread s w = record {
  spread = λ c d t n.
      let back : expansion s (contraction s w) ≡ w = rw (resumed s w.from, regained s w.stop c (inside_says (contraction s w) c t).1) refl in
      subst (λ v. T (inside v d)) back ((expansion_spread s (contraction s w)).spread c d t n);
}

delayed_before : (s lo c : ℕ) → lo ≤ c - s → delayed s lo ≤ c
delayed_before s zero c h = omega arith
delayed_before s (suc lo) c h = omega arith

sooner_past : (s : ℕ) (e : Stop) (c : ℕ) → T (reaches e (c + s)) → T (reaches (sooner s e) c)
sooner_past s Endless c t = tt
sooner_past s (Before e) c t = lt→ltb c (e - s) (omega (arith, ltb→lt (c + s) e t))

-- the source's contraction, where no time comes before zero: it leaves out no distance whose neighbours up to s away are all in the window
pub contraction_whole : (s : ℕ) (w : Window) (c : ℕ) → ((d : ℕ) → Near s c d → T (inside w d)) → T (inside (contraction s w) c)
contraction_whole s w c f =
    says_inside (contraction s w) c
    (delayed_before s w.from c (inside_says w (c - s) (f (c - s) (omega arith))).0)
    (sooner_past s w.stop c (inside_says w (c + s) (f (c + s) (omega arith))).1)

-- a high end below the step is not put at 0: nothing is left, also of a window that starts now
pub contraction_none : (s lo hi c : ℕ) → hi < s → T (inside (contraction s (record { from = lo; stop = Before (suc hi) })) c) → ⊥
contraction_none s lo hi c h t = let p = inside_says (contraction s (record { from = lo; stop = Before (suc hi) })) c t in omega (arith, ltb→lt c (suc hi - s) p.1)
