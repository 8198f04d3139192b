-- Scale lines are read exactly where they are written: one line of each channel that has one, in order.
-- Assumes nothing.
use mathlib.Core.Path.{◌≡◌, refl, sym, ap, ◌∙◌}
use mathlib.Core.List.{List, [], ◌∷◌, ◌++◌}
use Prim.Native.Nat.{ℕ, zero, suc, ◌+◌, ◌≤◌}
use native.Mathlib.Nat.{zero-add, add-zero}
use native.Mathlib.Numerals.{add-one}
use native.Mathlib.Omega.{arith}
use lib.ListN.{length, set, drop}
use lib.Seq.{sets, drop-drop}
use Rattle.std.specs.Prelude.{Option, Some, None, IfSome}
use Rattle.text.specs.Mark.{read}
use Rattle.text.specs.declared.Read.{Read}
use Rattle.text.proofs.Fields.{after_case}
use Rattle.lines.specs.Lines.{lines, size}
use Rattle.lines.proofs.Lines.{Each, none, also}
use Rattle.lines.proofs.Places.{LinesBetween, no_line, one_line, lines_both, lines_behind}
use Rattle.recordings.specs.declared.Scales.{Scales}
use Rattle.recordings.specs.Accepted.{MOST_CHANNELS}
use Rattle.recordings.specs.Card.{eight}
use Rattle.scale_lines.specs.Form.{ScaleLine, LinesFrom, over, more, due, ScaleLines}
use Rattle.scale_lines.specs.Reading.{line_at, scales_place, lines_from, scales_at}
use Rattle.scale_lines.proofs.Steps.{due_most}
use Rattle.scale_lines.proofs.Written.{line_is, line_taken, scale_fed}
use Rattle.scale_lines.proofs.Eight.{eight_set}

-- ---- sound

-- f lines between two places, and the scales that they say
record LinesRead (s : List ℕ) (at f channel : ℕ) (each : List ℕ) (x : Read Scales) : Type 0 where
  taken : List (List ℕ)
  said : List ℕ
  between : LinesBetween s at x.next taken
  form : LinesFrom channel taken said
  all : length taken ≡ f
  kept : x.value ≡ record { count = channel + length said; each = sets each channel said }

abbrev LinesHere : List ℕ → ℕ → ℕ → ℕ → List ℕ → Option (Read Scales) → Type 0
LinesHere s at f channel each x = IfSome x (LinesRead s at f channel each)

none_here : (s : List ℕ) (at channel : ℕ) (each : List ℕ) → LinesHere s at 0 channel each (scales_place channel each at)
none_here s at channel each = record { taken = []; said = []; between = no_line s at; form = over; all = refl; kept = rw add-zero }

more_here : (s : List ℕ) (at f channel : ℕ) (each : List ℕ) (r : Read ℕ) → line_at s at channel ≡ Some r
    → (x : Option (Read Scales)) → LinesHere s r.next f (channel + 1) (set each channel r.value) x → LinesHere s at (suc f) channel each x
more_here s at f channel each r e None h = tt
more_here s at f channel each r e (Some x) m =
    let z : channel + 1 + length m.said ≡ channel + suc (length m.said) = omega arith in
    let l = line_is s at channel r e in
    record {
      taken = l.0 ∷ m.taken;
      said = r.value ∷ m.said;
      between = lines_both (one_line l.1 (scale_fed l.2)) m.between;
      form = more l.2 m.form;
      all = ap suc m.all;
      kept = m.kept ∙ rw (z, add-one channel);
    }

lines_here : (f : ℕ) (s : List ℕ) (at channel : ℕ) (each : List ℕ) → LinesHere s at f channel each (lines_from f s at channel each)
unfolding lines_from
lines_here zero s at channel each = none_here s at channel each
lines_here (suc f) s at channel each =
    after_case (LinesHere s at (suc f) channel each) (line_at s at channel) _ _
    (λ r e. more_here s at f channel each r e _ (lines_here f s r.next (channel + 1) (set each channel r.value)))
    (λ e. tt)

-- a line says one scale
pub said_length : {channel : ℕ} {ls : List (List ℕ)} {scales : List ℕ} → LinesFrom channel ls scales → length scales ≡ length ls
said_length over = refl
said_length (more line rest) = ap suc (said_length rest)

-- the lines between two places are the scale lines of a head that has so many channels
pub record ScalesRead (s : List ℕ) (at n channels : ℕ) (scales : Scales) : Type 0 where
  pub taken : List (List ℕ)
  pub between : LinesBetween s at n taken
  pub form : ScaleLines taken channels scales

pub scales_are : (s : List ℕ) (at channels : ℕ) (r : Read Scales) → scales_at s at channels ≡ Some r → ScalesRead s at r.next channels r.value
unfolding scales_at
scales_are s at channels r o =
    let m : LinesRead s at (due channels) 0 (eight []) r = rw o at (lines_here (due channels) s at 0 (eight [])) in
    record {
      taken = m.taken;
      between = m.between;
      form = record { said = m.said; in_order = m.form; all = m.all; kept = m.kept ∙ rw (zero-add, eight_set m.said (omega (arith, m.all, due_most channels, said_length m.form))) };
    }

-- ---- complete

lines_taken : {channel : ℕ} {ls : List (List ℕ)} {scales : List ℕ} → LinesFrom channel ls scales → (s : List ℕ) (at : ℕ) (each : List ℕ) (rest : List (List ℕ))
    → channel + length ls ≤ MOST_CHANNELS → lines (drop at s) ≡ ls ++ rest
    → lines_from (length ls) s at channel each ≡ scales_place (channel + length scales) (sets each channel scales) (at + size ls)
unfolding lines_from size
lines_taken over s at each rest b e = simp add-zero
lines_taken (more {l} {ls} {channel} {scale} {scales} line form) s at each rest b e =
    let t = line_taken s at (ls ++ rest) line (omega arith) e in
    let m = lines_taken form s (at + length l) (set each channel scale) rest (omega arith) t.1 in
    let y : channel + 1 + length scales ≡ channel + suc (length scales) = omega arith in
    let z : at + length l + size ls ≡ at + (length l + size ls) = omega arith in
    rw t.0 (m ∙ rw (y, z, add-one channel))

-- the place behind them is as many bytes further as they have
pub scales_taken : {ls : List (List ℕ)} {channels : ℕ} {scales : Scales} → ScaleLines ls channels scales → (s : List ℕ) (at : ℕ) (rest : List (List ℕ))
    → lines (drop at s) ≡ ls ++ rest
    → (scales_at s at channels ≡ read scales (at + size ls)) × (lines (drop (at + size ls) s) ≡ rest)
unfolding scales_at
scales_taken {ls} {channels} {scales} f s at rest e = (
  ap (λ (k : ℕ). lines_from k s at 0 (eight [])) (sym f.all)
      ∙ (lines_taken f.in_order s at (eight []) rest (omega (arith, f.all, due_most channels)) e
      ∙ rw (zero-add, eight_set f.said (omega (arith, f.all, due_most channels, said_length f.in_order)), f.kept)),
  ap lines (sym (drop-drop (size ls) at s)) ∙ lines_behind ls rest (drop at s) e,
)

-- ---- a head's scale lines

module _ {A : List ℕ → Type 0} (f : (l : List ℕ) (channel scale : ℕ) → ScaleLine l channel scale → A l) where
  each_from : {channel : ℕ} {ls : List (List ℕ)} {scales : List ℕ} → LinesFrom channel ls scales → Each A ls
  each_from over = none
  each_from (more {channel} {scale} line rest) = also (f _ channel scale line) (each_from rest)

  -- what is true of every channel's line is true of each of them
  pub each_scale : {ls : List (List ℕ)} {channels : ℕ} {scales : Scales} → ScaleLines ls channels scales → Each A ls
  each_scale form = each_from form.in_order
