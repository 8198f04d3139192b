-- A scale is read exactly where a channel's line is written.
-- Assumes nothing.
use mathlib.Core.Path.{◌≡◌, refl, ap, ◌∙◌}
use mathlib.Core.List.{List, ◌∷◌, ◌++◌, append_assoc}
use Prim.Native.Nat.{ℕ, ◌+◌, ◌≤◌}
use native.Mathlib.Omega.{arith}
use lib.ListN.{length, get_or, drop, length-append}
use lib.Dec.{eqb}
use borrow.Author.Tests.{eqb-true, eq-eqb}
use Rattle.text.specs.Bytes.{bytes}
use Rattle.text.specs.Number.{largest, field_at}
use Rattle.std.specs.Prelude.{Option, Some, None}
use Rattle.text.specs.Mark.{read}
use Rattle.text.specs.declared.Read.{Read}
use Rattle.text.specs.declared.Field.TheVariants.{Number}
use Rattle.text.proofs.Tests.{test_case}
use Rattle.text.proofs.Places.{Between, between_both, after_bytes}
use Rattle.text.proofs.Answers.{field_is, field_made}
use Rattle.text.proofs.Fields.{number_case}
use Rattle.lines.specs.Lines.{lines}
use Rattle.lines.proofs.Counts.{count, count_append, numeral_count}
use Rattle.lines.proofs.Lines.{Fed, lines_fed, lines_split}
use Rattle.number_lines.specs.Form.{NumberLine}
use Rattle.number_lines.specs.Reading.{number_line_at}
use Rattle.number_lines.proofs.Written.{number_line_is, number_line_taken, number_line_fed}
use Rattle.scale_lines.specs.Form.{ScaleLine}
use Rattle.scale_lines.specs.Reading.{line_at}

-- ---- sound

-- what an answer says of the line at a place
abbrev LineHere : List ℕ → ℕ → ℕ → Option (Read ℕ) → Type 0
LineHere s at channel (Some r) = (l : List ℕ) × Between s at r.next l × ScaleLine l channel r.value
LineHere s at channel None = Unit

scale_here : (s : List ℕ) (at channel k a : ℕ) → field_at (bytes "c=") s at largest ≡ Number k a → k ≡ channel
    → (x : Option (Read ℕ)) → number_line_at (bytes " scale=") s a ≡ x → LineHere s at channel x
scale_here s at channel k a e z (Some r) h =
    let p = field_is (bytes "c=") s at largest channel a (rw z at e) in
    let q = number_line_is (bytes " scale=") s a r h in (
      bytes "c=" ++ p.2.word ++ q.0,
      between_both (between_both p.1 p.2.between) q.1,
      record {
        c = p.2.word;
        digits = q.2.digits;
        named = p.2.numeral;
        numeral = q.2.numeral;
        bound = q.2.bound;
        spelled = rw q.2.spelled (simp append_assoc);
      },
    )
scale_here s at channel k a e z None h = tt

line_here : (s : List ℕ) (at channel : ℕ) → LineHere s at channel (line_at s at channel)
unfolding line_at
line_here s at channel =
    number_case (LineHere s at channel) (field_at (bytes "c=") s at largest) _ _
    (λ k a e. test_case (LineHere s at channel) (eqb k channel) _ _
    (λ t. scale_here s at channel k a e (eqb-true k channel t) (number_line_at (bytes " scale=") s a) refl)
    (λ t. tt))
    (λ e. tt)

pub line_is : (s : List ℕ) (at channel : ℕ) (r : Read ℕ) → line_at s at channel ≡ Some r → (l : List ℕ) × Between s at r.next l × ScaleLine l channel r.value
line_is s at channel r h = rw h at (line_here s at channel)

-- ---- complete

-- what follows the channel's number is a line with one number
scale_line : {l : List ℕ} {channel scale : ℕ} (f : ScaleLine l channel scale) → NumberLine (bytes " scale=") (bytes " scale=" ++ f.digits ++ bytes "\n") scale
scale_line f = record { digits = f.digits; numeral = f.numeral; bound = f.bound; spelled = refl }

pub line_taken : {l : List ℕ} {channel scale : ℕ} (s : List ℕ) (at : ℕ) (ls : List (List ℕ)) → ScaleLine l channel scale → channel ≤ largest → lines (drop at s) ≡ l ∷ ls
    → (line_at s at channel ≡ read scale (at + length l)) × (lines (drop (at + length l) s) ≡ ls)
unfolding line_at count
line_taken {l} {channel} {scale} s at ls f b e =
    let t = lines_split (drop at s) l ls e in
    let m : List ℕ = bytes " scale=" ++ f.digits ++ bytes "\n" in
    let a : ℕ = at + 2 + length f.c in
    let w : l ≡ bytes "c=" ++ (f.c ++ m) = simp append_assoc at f.spelled in
    let g : drop at s ≡ bytes "c=" ++ (f.c ++ (m ++ t.0)) = rw (append_assoc f.c m t.0) at (t.1 ∙ ap (λ (x : List ℕ). x ++ t.0) w) in
    let k : field_at (bytes "c=") s at largest ≡ Number channel a = field_made (bytes "c=") s at largest channel f.c (m ++ t.0) (omega arith) g f.named b (omega arith) refl in
    let d : drop a s ≡ m ++ t.0 = after_bytes s (at + 2) f.c (m ++ t.0) (after_bytes s at (bytes "c=") (f.c ++ (m ++ t.0)) g) in
    let n = number_line_taken (bytes " scale=") s a ls (omega arith) (scale_line f)
    (ap lines d ∙ (lines_fed t.0 (number_line_fed refl (scale_line f)) ∙ ap (λ (x : List (List ℕ)). m ∷ x) t.2)) in
    let p : n.0 ≡ at + length l = omega (arith, n.3, ap length w, length-append (bytes "c=") (f.c ++ m), length-append f.c m) in
    (rw (k, eq-eqb channel channel refl, n.1, p), rw p at n.2)

-- ---- a line

-- it ends in its only line feed
pub scale_fed : {l : List ℕ} {channel scale : ℕ} → ScaleLine l channel scale → Fed l
unfolding count
scale_fed f =
    record {
      body = bytes "c=" ++ f.c ++ bytes " scale=" ++ f.digits;
      ends = f.spelled;
      clear = let g : count 10 (bytes "c=" ++ f.c ++ bytes " scale=" ++ f.digits) ≡ count 10 (bytes "c=") + count 10 f.c + count 10 (bytes " scale=") + count 10 f.digits = simp count_append in
          g ∙ rw (numeral_count 10 refl f.named, numeral_count 10 refl f.numeral);
    }

-- and begins with `c`
pub scale_first : {l : List ℕ} {channel scale : ℕ} → ScaleLine l channel scale → get_or l 0 0 ≡ 99
scale_first f = ap (λ (x : List ℕ). get_or x 0 0) f.spelled
