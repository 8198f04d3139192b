-- A recording with one row more. Where no temporal operator stands, a margin at a sample looks at that sample alone, so earlier ones keep theirs. A temporal operator
-- at sample 0 takes one place more: it joins right at the new sample with left's extremum before it, which is carried along.
-- Assumes nothing.
use mathlib.Core.Path.{◌≡◌, refl, sym, ap, ap₂, ◌∙◌}
use mathlib.Core.Bool.{Bool, true, false, cond}
use mathlib.Core.Logic.{inl, inr}
use mathlib.Core.List.{List, [], ◌∷◌, ◌++◌}
use Prim.Native.Nat.{ℕ, suc, ◌+◌, ◌-◌, ◌*◌, ◌≤◌, ◌<◌}
use native.Mathlib.Omega.{arith}
use native.Mathlib.Nat.{mul-le-mul_right}
use lib.Dec.{T}
use lib.ListN.{length, get_or, length-append, get_or-append}
use lib.Seq.{get_or_at}
use lib.IntN.{ℤ, pos}
use mir.Facts.{and_yes}
use Rattle.numbers.specs.Order.{Within}
use Rattle.logic.specs.declared.Window.{Window}
use Rattle.logic.specs.Window.{inside}
use Rattle.logic.specs.declared.Extremum.{Extremum}
use Rattle.logic.specs.Formula.{dual, Formula, truth, atom, negation, junction, temporal}
use Rattle.logic.specs.declared.Direction.TheVariants.{Future}
use Rattle.logic.specs.Reading.{Algebra, Places, offset, extremum, along, read, margins, margin_extreme, margin_nothing}
use Rattle.logic.proofs.Steps.{same, extremum_step, along_cong}
use Rattle.logic.proofs.Extremes.{extremes}
use Rattle.logic.proofs.Beaten.{nothing_moves}
use Rattle.recordings.specs.Card.{Card, rows, time, scale, value, predicate, samples}
use Rattle.recordings.specs.Distance.{TOP, scaled_distance}
use Rattle.recordings.specs.Margin.{distance_at, robustness, margin}
use Rattle.nesting.specs.Nesting.{momentary}
use Rattle.arrivals.specs.Arrivals.{Row, with_row}
use Rattle.arrivals.specs.Fits.{Fits, carried}

-- ---- a requirement without temporal operators is read at one place
module _ {X P : Type 0} (A : Algebra X) (F G : Places) (at at' : P → ℕ → X) (i j : ℕ) (atoms : (p : P) → at p i ≡ at' p j) where
  pub read_momentary : (φ : Formula P) → T (momentary φ) → read A F at φ i ≡ read A G at' φ j
  read_momentary truth h = refl
  read_momentary (atom p) h = atoms p
  read_momentary (negation φ) h = ap A.negate (read_momentary φ h)
  read_momentary (junction e l r) h = let b = and_yes (momentary l) (momentary r) h in ap₂ (A.extreme e) (read_momentary l b.0) (read_momentary r b.1)
  read_momentary (temporal d e w l r) h = absurd h

-- ---- the samples of the longer recording
pub getD_behind : {X : Type 0} (xs ys : List X) (n : ℕ) (d : X) → get_or (xs ++ ys) (length xs + n) d ≡ get_or ys n d
getD_behind [] ys n d = let e : 0 + n ≡ n = omega arith in rw e
getD_behind (x ∷ xs) ys n d = let e : suc (length xs) + n ≡ suc (length xs + n) = omega arith in rw e (getD_behind xs ys n d)

-- a temporal operator at sample 0, as far as sample n
along_to : Card → Extremum → Window → Formula ℕ → Formula ℕ → ℕ → ℤ
along_to c e w φ ψ n = along (margins TOP) e w (λ m. time c m - time c 0) (margin c φ) (margin c ψ) n

one_more : (c : Card) (e : Extremum) (w : Window) (φ ψ : Formula ℕ) (n : ℕ) → along_to c e w φ ψ (suc n) ≡ margin_extreme e (along_to c e w φ ψ n) (cond (inside w (time c n - time c 0)) (margin_extreme (dual e) (margin c ψ n) (extremum (margins TOP) (dual e) (margin c φ) n)) (margin_nothing TOP e))
unfolding along_to
one_more c e w φ ψ n = refl

at_first : (c : Card) (e : Extremum) (w : Window) (φ ψ : Formula ℕ) → margin c (temporal Future e w φ ψ) 0 ≡ along_to c e w φ ψ (rows c)
unfolding robustness along_to
at_first c e w φ ψ =
    let n : rows c - 0 ≡ rows c = omega arith in
    let z : (m : ℕ) → 0 + m ≡ m = λ m. omega arith in
    rw n (along_cong (margins TOP) e w w (offset Future (samples c) 0) (λ m. time c m - time c 0) (λ m. margin c φ (0 + m)) (margin c φ) (λ m. margin c ψ (0 + m)) (margin c ψ) (rows c) (λ m h. ap (λ (x : ℕ). inside w (time c x - time c 0)) (z m)) (λ m h. ap (margin c φ) (z m)) (λ m h. ap (margin c ψ) (z m)))

-- over no sample it is an extremum over nothing
pub none_yet : (c : Card) (e : Extremum) (w : Window) (φ ψ : Formula ℕ) → rows c ≡ 0 → margin c (temporal Future e w φ ψ) 0 ≡ margin_nothing TOP e
unfolding along_to
none_yet c e w φ ψ h = at_first c e w φ ψ ∙ rw h

-- ---- at the last sample a temporal operator looks at that sample alone: it has right there, if its window starts now
one_place : (e : Extremum) (here : Bool) (x : ℤ) → Within TOP x → margin_extreme e (margin_nothing TOP e) (cond here (margin_extreme (dual e) x (margin_nothing TOP (dual e))) (margin_nothing TOP e)) ≡ cond here x (margin_nothing TOP e)
one_place e true x h = rw (nothing_moves TOP (dual e) x h) ((extremes e).commutative (margin_nothing TOP e) x ∙ nothing_moves TOP e x h)
one_place e false x h = (extremes e).idempotent (margin_nothing TOP e)

pub at_last : (c : Card) (e : Extremum) (w : Window) (φ ψ : Formula ℕ) (i : ℕ) → rows c ≡ suc i → Within TOP (margin c ψ i) → margin c (temporal Future e w φ ψ) i ≡ cond (inside w 0) (margin c ψ i) (margin_nothing TOP e)
unfolding robustness
at_last c e w φ ψ i n h =
    let one : rows c - i ≡ 1 = omega arith in
    let z : i + 0 ≡ i = omega arith in
    let now : time c i - time c i ≡ 0 = omega arith in
    rw (one, z, now) (one_place e (inside w 0) (margin c ψ i) h)

module _ (c : Card) (r : Row) where
  pub rows_next : rows (with_row c r) ≡ suc (rows c)
  rows_next = simp length-append (omega arith)

  pub time_before : (i : ℕ) → i < rows c → time (with_row c r) i ≡ time c i
  time_before i h = get_or-append c.times _ 0 i h

  pub time_newest : time (with_row c r) (rows c) ≡ r.time
  time_newest = get_or_at c.times r.time [] 0 (rows c) refl

  module _ (ok : Fits c) where
    value_before : (ch i : ℕ) → ch < c.setup.channels → i < rows c → value (with_row c r) ch i ≡ value c ch i
    value_before ch i h k =
        let m : suc i * c.setup.channels ≤ rows c * c.setup.channels = mul-le-mul_right c.setup.channels k in
        get_or-append c.values r.values (pos 0) (i * c.setup.channels + ch) (omega (arith, ok.all_values, m))

    pub value_newest : (ch : ℕ) → value (with_row c r) ch (rows c) ≡ get_or r.values ch (pos 0)
    value_newest ch = rw (sym ok.all_values) (getD_behind c.values r.values ch (pos 0))

    -- an unset predicate reads as free, whatever the value
    distance_before : (p i : ℕ) → i < rows c → distance_at TOP (with_row c r) p i ≡ distance_at TOP c p i
    distance_before p i h = elim (ok.measured.channels.proper p).known [
      | inl u ↦ rw u
      | inr k ↦ ap (scaled_distance TOP (scale c (predicate c p).channel) (predicate c p).range) (value_before _ i k h)
    ]

    -- earlier samples keep their margins
    pub before : (φ : Formula ℕ) → T (momentary φ) → (i : ℕ) → i < rows c → margin (with_row c r) φ i ≡ margin c φ i
    unfolding robustness
    before φ h i k = read_momentary (margins TOP) (samples (with_row c r)) (samples c) (distance_at TOP (with_row c r)) (distance_at TOP c) i i (λ p. distance_before p i k) φ h

    -- the new sample's distances are those of the row's values
    pub newest_distance : (p : ℕ) → distance_at TOP (with_row c r) p (rows c) ≡ scaled_distance TOP (scale c (predicate c p).channel) (predicate c p).range (get_or r.values (predicate c p).channel (pos 0))
    newest_distance p = ap (scaled_distance TOP (scale c (predicate c p).channel) (predicate c p).range) (value_newest (predicate c p).channel)

    module _ (e : Extremum) (w : Window) (φ ψ : Formula ℕ) (hl : T (momentary φ)) (hr : T (momentary ψ)) where
      left_kept : extremum (margins TOP) (dual e) (margin (with_row c r) φ) (rows c) ≡ carried c e φ
      left_kept = extremum_step (same (margins TOP)) (dual e) (rows c) (λ m h. before φ hl m h)

      -- what is carried takes in left at the new sample
      pub carried_next : carried (with_row c r) e φ ≡ margin_extreme (dual e) (carried c e φ) (margin (with_row c r) φ (rows c))
      carried_next = rw rows_next (ap (λ (x : ℤ). margin_extreme (dual e) x (margin (with_row c r) φ (rows c))) left_kept)

      so_far : along_to (with_row c r) e w φ ψ (rows c) ≡ along_to c e w φ ψ (rows c)
      unfolding along_to
      so_far =
          along_cong (margins TOP) e w w (λ m. time (with_row c r) m - time (with_row c r) 0) (λ m. time c m - time c 0) (margin (with_row c r) φ) (margin c φ) (margin (with_row c r) ψ) (margin c ψ) (rows c)
          (λ m h. ap₂ (λ (x y : ℕ). inside w (x - y)) (time_before m h) (time_before 0 (omega arith)))
          (λ m h. before φ hl m h)
          (λ m h. before ψ hr m h)

      -- the operator takes in the new sample where that is in the window of the first
      pub margin_next : margin (with_row c r) (temporal Future e w φ ψ) 0 ≡ margin_extreme e (margin c (temporal Future e w φ ψ) 0) (cond (inside w (r.time - time (with_row c r) 0)) (margin_extreme (dual e) (margin (with_row c r) ψ (rows c)) (carried c e φ)) (margin_nothing TOP e))
      margin_next =
          at_first (with_row c r) e w φ ψ
          ∙ rw rows_next (one_more (with_row c r) e w φ ψ (rows c) ∙ rw (time_newest, left_kept, so_far, at_first c e w φ ψ))
