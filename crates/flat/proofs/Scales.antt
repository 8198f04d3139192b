-- Flat scales are judged as they were passed, however many: 13 looks at each of them, and eight or fewer in range are read as they stand.
-- Assumes nothing.
use mathlib.Core.Path.{◌≡◌, refl, sym, ap, ◌∙◌}
use mathlib.Core.Bool.{Bool, true, false}
use mathlib.Core.List.{List, ◌++◌, append_assoc}
use Prim.Native.Nat.{ℕ, ◌+◌, ◌-◌, ◌≤◌, ◌<◌}
use native.Mathlib.Omega.{arith}
use lib.Dec.{lit<}
use lib.ListN.{length, get_or, take, drop, replicate, length-append, length-replicate, replicate-append-replicate}
use lib.Seq.{take_all, take-append_seam, drop_at}
use Rattle.lists.proofs.Below.{same_test, all_at, at_all}
use Rattle.numbers.proofs.Parts.{holds}
use Rattle.recordings.specs.declared.Scales.{Scales}
use Rattle.recordings.specs.Card.{Card, scale, eight, passed}
use Rattle.recordings.specs.Accepted.{MOST_CHANNELS, ScaleInRange, Scaled}
use Rattle.scales.specs.Scales.{scale_obeys}
use Rattle.scales.proofs.Scales.{scale_is, scale_passes}
use Rattle.lists.specs.Front.{written}
use Rattle.flat.specs.Scales.{each_obeys, scales_from}
use Rattle.flat.proofs.Padded.{padded_at}

every : (ks : List ℕ) → ((i : ℕ) → i < length ks → ScaleInRange (get_or ks i 0)) → each_obeys ks ≡ true
unfolding each_obeys
every ks h = same_test (λ _. tt) (λ _. at_all (λ i. scale_obeys (get_or ks i 0)) (length ks) (λ i k. scale_passes (get_or ks i 0) (h i k)))

module _ (ks : List ℕ) (c : Card) (read : c.setup.scales ≡ scales_from ks) where
  scale_of : (ch : ℕ) → scale c ch ≡ get_or (scales_from ks).each ch 0
  scale_of ch = ap (λ (x : Scales). get_or x.each ch 0) read

  count_of : c.setup.scales.count ≡ length ks
  unfolding scales_from
  count_of = ap (λ (x : Scales). x.count) read

  -- where each is in range, those of the first eight places are read as they stand
  in_range_read : each_obeys ks ≡ true → (ch : ℕ) → ch < MOST_CHANNELS → scale c ch ≡ get_or ks ch 0
  unfolding scales_from
  in_range_read t ch h = scale_of ch ∙ (rw t (padded_at ks MOST_CHANNELS ch h))

  -- 13 applies exactly where one of all that were passed is out of range
  pub scaled_each : Scaled c → (i : ℕ) → i < length ks → ScaleInRange (get_or ks i 0)
  unfolding each_obeys scales_from
  scaled_each r i h = go (each_obeys ks) refl
    where
      go : (b : Bool) → each_obeys ks ≡ b → ScaleInRange (get_or ks i 0)
      go true e = scale_is (get_or ks i 0) (all_at (λ j. scale_obeys (get_or ks j 0)) (length ks) (holds e) i h)
      go false e =
          let z : scale c 0 ≡ 0 = scale_of 0 ∙ (rw e refl) in
          absurd (omega (arith, (r.each 0 (omega (arith, count_of)) (lit< tt)).some))

  pub each_scaled : ((i : ℕ) → i < length ks → ScaleInRange (get_or ks i 0)) → Scaled c
  each_scaled h = record { each = λ ch k l. rw (in_range_read (every ks h) ch l) (h ch (omega (arith, count_of))) }

  pub scale_read : ((i : ℕ) → i < length ks → ScaleInRange (get_or ks i 0)) → (ch : ℕ) → ch < MOST_CHANNELS → scale c ch ≡ get_or ks ch 0
  scale_read h = in_range_read (every ks h)

-- ---- read back
abbrev zeros : ℕ → List ℕ
zeros n = replicate n 0

zeros_behind : (n : ℕ) → n ≤ MOST_CHANNELS → drop n (zeros MOST_CHANNELS) ≡ zeros (MOST_CHANNELS - n)
zeros_behind n h =
    let e : n + (MOST_CHANNELS - n) ≡ MOST_CHANNELS = omega arith in
    ap (λ (k : ℕ). drop n (zeros k)) (sym e) ∙ (ap (drop n) (sym (replicate-append-replicate {A = ℕ} n (MOST_CHANNELS - n) 0)) ∙ drop_at (zeros n) (zeros (MOST_CHANNELS - n)) n (length-replicate {A = ℕ} n 0))

-- eight or fewer in range, written into a slice with room: as many of its places as there are scales are read as the scales that were passed
pub scales_back : (ks : List ℕ) → length ks ≤ MOST_CHANNELS → ((i : ℕ) → i < length ks → ScaleInRange (get_or ks i 0)) → (old : List ℕ) → MOST_CHANNELS ≤ length old
    → scales_from (take (length ks) (written (eight ks) old)) ≡ passed ks
unfolding written scales_from
scales_back ks few h old room =
    let long : length (eight ks) ≡ MOST_CHANNELS = length-append ks (zeros (MOST_CHANNELS - length ks)) ∙ (rw (length-replicate {A = ℕ} (MOST_CHANNELS - length ks) 0) (omega arith)) in
    let front : take (length ks) (take (length old) (eight ks) ++ drop (length (eight ks)) old) ≡ ks =
    rw (take_all (length old) (eight ks) (omega arith), append_assoc ks (zeros (MOST_CHANNELS - length ks)) (drop (length (eight ks)) old)) (take-append_seam ks _) in
    rw (front, every ks h, take_all MOST_CHANNELS ks few, zeros_behind (length ks) few) refl
