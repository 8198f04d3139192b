-- What was printed into places of its own and is then written into a lent slice, from its front on, is what is printed into that slice.
-- Assumes nothing.
use Rattle.std.proofs.Common.{◌≡◌, refl, sym, ap, ap₂, ◌∙◌, ℕ, ◌≤◌, ◌<◌, min, List, [], ◌∷◌, length, take, drop, length-take-le, arith}
use native.Mathlib.Decide.{dec_le}
use lib.ListN.{take-append-drop}
use lib.Seq.{sets, length-sets}
use Rattle.lists.specs.Front.{written}
use Rattle.lists.proofs.Front.{front, written_in_front, written_both}
use Rattle.printing.specs.Output.{Output, printed}
use Rattle.printing.proofs.Printed.{printed_append, printed_then, printed_full, printed_whole}

-- into a slice that is full nothing is printed
printed_over : (o : Output) (bs : List ℕ) → length o.bytes ≤ o.end → o ≡ printed o bs
unfolding printed
printed_over o [] h = refl
printed_over o (b ∷ bs) h = printed_then o (b ∷ []) bs (printed_full o b h) (printed_over o bs h)

same : {a b : List ℕ} {m n : ℕ} → a ≡ b → m ≡ n → ◌≡◌ {A = Output} (record { bytes = a; end = m }) (record { bytes = b; end = n })
same e f = ap₂ (λ (a : List ℕ) (m : ℕ). record { bytes = a; end = m }) e f

module _ (slice bs : List ℕ) where
  abbrev start : Output
  start = record { bytes = slice; end = 0 }

  roomy : length bs ≤ length slice → record { bytes = written bs slice; end = min (length bs) (length slice) } ≡ printed start bs
  roomy h = same (written_in_front bs slice h ∙ sym (front bs slice h)) (omega arith) ∙ sym (printed_whole start bs (omega arith))

  -- what comes behind the slice's end is left out
  tight : length slice < length bs → record { bytes = written bs slice; end = min (length bs) (length slice) } ≡ printed start bs
  tight h =
      let n = length slice in
      let l : length (take n bs) ≡ n = length-take-le n bs (omega arith) in
      let b : written bs slice ≡ sets slice 0 (take n bs) = sym (written_both bs slice n (omega arith)) ∙ sym (rw l at (front (take n bs) slice (omega arith))) in
      let w = printed_whole start (take n bs) (omega arith) in
      let f = same b (omega arith) ∙ sym w in
      let k : length (sets slice 0 (take n bs)) ≡ n = length-sets slice 0 (take n bs) in
      let o : printed start (take n bs) ≡ printed (printed start (take n bs)) (drop n bs) = rw w (printed_over _ (drop n bs) (omega arith)) in
      f ∙ (o ∙ (sym (printed_append start (take n bs) (drop n bs)) ∙ ap (printed start) (take-append-drop n bs)))

  pub printed_lent : record { bytes = written bs slice; end = min (length bs) (length slice) } ≡ printed (record { bytes = slice; end = 0 }) bs
  printed_lent = elim (dec_le (length bs) (length slice)) [ yes h ↦ roomy h | no h ↦ tight (omega arith) ]
