-- The sampling argument. Two rising lines of times with no gap above s end together and start at most s apart: then each place of one that its window
-- holds is met on the other, rounding down where the other line starts no later and up where it starts later, so that both offsets differ by at most s.
-- Where the other line starts only after that place, it is met at that start.
-- Assumes nothing.
use mathlib.Core.Path.{◌≡◌}
use Prim.Native.Nat.{ℕ, zero, suc, ◌+◌, ◌≤◌, ◌<◌}
use native.Mathlib.Nat.{le_refl}
use native.Mathlib.Omega.{arith}
use native.Mathlib.Decide.{dec_le, dec_lt}
use lib.Dec.{T}
use Rattle.logic.specs.declared.Window.{Window}
use Rattle.logic.specs.Window.{inside}
use Rattle.logic.proofs.Windows.{Near, Spread}
use Rattle.logic.proofs.Carry.{Met}

-- places 0 to `last`, rising, no two neighbours more than s apart, ending at e; `times` counts from the first
pub record Line (s e : ℕ) : Type 0 where
  pub last : ℕ
  pub size : ℕ
  pub whole : size ≡ suc last
  pub at : ℕ → ℕ
  pub times : ℕ → ℕ
  pub counts : (m : ℕ) → m ≤ last → at 0 + times m ≡ at m
  pub rises : (m : ℕ) → m < last → at m < at (suc m)
  pub close : (m : ℕ) → m < last → at (suc m) ≤ at m + s
  pub ends : at last ≡ e

-- what rises at each step from a to b rises from a to b
pub climbs : (f : ℕ → ℕ) (a b : ℕ) → ((m : ℕ) → a ≤ m → m < b → f m < f (suc m)) → (q m : ℕ) → a ≤ q → q ≤ m → m ≤ b → f q ≤ f m
climbs f a b up q zero i j k = let p : q ≡ 0 = omega arith in rw p (le_refl _)
climbs f a b up q (suc m) i j k =
    elim (dec_le q m) [
      | yes h ↦ omega (arith, climbs f a b up q m i h (omega arith), up m (omega arith) (omega arith))
      | no h ↦ let p : q ≡ suc m = omega arith in rw p (le_refl _)
    ]

module _ {s e : ℕ} (L : Line s e) where
  pub mono : (q m : ℕ) → q ≤ m → m ≤ L.last → L.at q ≤ L.at m
  mono q m h b = climbs L.at 0 L.last (λ n i j. L.rises n j) q m (omega arith) h b

  pub inner : (q m : ℕ) → q ≤ L.last → L.at q < L.at m → q < m
  inner q m a h = elim (dec_lt q m) [ yes i ↦ i | no i ↦ omega (arith, mono m q (omega arith) a) ]

  -- a place at most s before x
  pub floor : (x c : ℕ) → c ≤ L.last → L.at 0 ≤ x → x ≤ L.at c → (m : ℕ) × (m ≤ c) × (L.at m ≤ x) × (x ≤ L.at m + s)
  floor x zero b h k = (0, omega arith, h, omega arith)
  floor x (suc c) b h k =
      elim (dec_le x (L.at c)) [
        | yes i ↦ let f = floor x c (omega arith) h i in (f.0, omega arith, f.2, f.3)
        | no i ↦ elim (dec_le (L.at (suc c)) x) [
          | yes j ↦ (suc c, omega arith, j, omega arith)
          | no j ↦ (c, omega arith, omega arith, omega (arith, L.close c b))
        ]
      ]

  -- the first place not before x
  pub ceil : (x c : ℕ) → c ≤ L.last → L.at 0 ≤ x → x ≤ L.at c → (m : ℕ) × (m ≤ c) × (x ≤ L.at m) × (L.at m ≤ x + s) × ((q : ℕ) → q < m → L.at q < x)
  ceil x zero b h k = (0, omega arith, k, omega arith, λ q i. omega arith)
  ceil x (suc c) b h k =
      elim (dec_le x (L.at c)) [
        | yes i ↦ let f = ceil x c (omega arith) h i in (f.0, omega arith, f.2, f.3, f.4)
        | no i ↦ (suc c, omega arith, k, omega (arith, L.close c b), λ q j. omega (arith, mono q c (omega arith) (omega arith)))
      ]

-- the place m of one line, met on another
abbrev pub Meeting : {s e : ℕ} → Line s e → Line s e → Window → ℕ → Type 0
Meeting {s} K L w m = Met (λ p q. Near s (K.at p) (L.at q)) w L.times L.size m

module _ {s e : ℕ} (K L : Line s e) (start : Near s (K.at 0) (L.at 0)) {v w : Window} (sp : Spread s v w) (m : ℕ) (h : m ≤ K.last) (i : T (inside v (K.times m))) where
  end_of : K.at m ≤ L.at L.last
  end_of = omega (arith, mono K m K.last h (omega arith), K.ends, L.ends)

  rise : K.at 0 ≤ K.at m
  rise = mono K 0 m (omega arith) h

  -- what stands between the first place and m has a place before m near it
  under : (y : ℕ) → K.at 0 ≤ y → y < K.at m → (p : ℕ) × (p < m) × (K.at p ≤ y) × (y ≤ K.at p + s)
  under y a b = let f = floor K y m h a (omega arith) in (f.0, inner K f.0 m (omega arith) (omega arith), f.2, f.3)

  -- the window, where n stands as far off as m but for at most s
  fitting : (n : ℕ) → n ≤ L.last → K.at m + L.at 0 ≤ L.at n + K.at 0 + s → L.at n + K.at 0 ≤ K.at m + L.at 0 + s → T (inside w (L.times n))
  fitting n on a b = sp.spread (K.times m) (L.times n) i (omega (arith, K.counts m h, L.counts n on))

  -- the other line starts near m, perhaps after it
  here : K.at m ≤ L.at 0 + s → L.at 0 ≤ K.at m + s → K.at m ≤ K.at 0 + s → Meeting K L w m
  here a b c = record { spot = 0; in_row = omega (arith, L.whole); in_window = fitting 0 (omega arith) (omega arith) (omega (arith, rise)); close = omega arith; cover = λ q j. absurd (omega arith) }

  -- the other line starts no later: round down
  down : L.at 0 ≤ K.at 0 → 0 < m → (n : ℕ) × (n ≤ L.last) × (L.at n ≤ K.at m) × (K.at m ≤ L.at n + s) → Meeting K L w m
  down a b (n, on, c, d) = record {
    spot = n;
    in_row = omega (arith, L.whole);
    in_window = fitting n on (omega arith) (omega arith);
    close = omega arith;
    cover = λ q j. elim (dec_le (L.at q) (K.at 0)) [
      | yes t ↦ (0, b, omega (arith, mono L 0 q (omega arith) (omega arith)))
      | no t ↦ let p = under (L.at q) (omega arith) (omega (arith, L.rises q (omega arith), mono L (suc q) n j on)) in (p.0, p.1, omega arith)
    ];
  }

  -- the other line starts later: round up
  up : K.at 0 < L.at 0 → L.at 0 < K.at m → (n : ℕ) × (n ≤ L.last) × (K.at m ≤ L.at n) × (L.at n ≤ K.at m + s) × ((q : ℕ) → q < n → L.at q < K.at m) → Meeting K L w m
  up a b (n, on, c, d, below) = record {
    spot = n;
    in_row = omega (arith, L.whole);
    in_window = fitting n on (omega arith) (omega arith);
    close = omega arith;
    cover = λ q j. let p = under (L.at q) (omega (arith, mono L 0 q (omega arith) (omega arith))) (below q j) in (p.0, p.1, omega arith);
  }

  pub meet : Meeting K L w m
  meet = elim (dec_le (L.at 0) (K.at 0)) [
    | yes a ↦ elim (dec_lt 0 m) [
      | yes b ↦ down a b (floor L (K.at m) L.last (omega arith) (omega (arith, rise)) end_of)
      | no b ↦ let z : m ≡ 0 = omega arith in here (rw z start.down) (rw z start.up) (rw z (omega arith))
    ]
    | no a ↦ elim (dec_le (K.at m) (L.at 0)) [
      | yes b ↦ here (omega arith) (omega (arith, rise)) (omega arith)
      | no b ↦ up (omega arith) (omega arith) (ceil L (K.at m) L.last (omega arith) (omega arith) end_of)
    ]
  ]
