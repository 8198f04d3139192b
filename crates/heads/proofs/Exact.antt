-- A head is read exactly where it is written: the places follow one another as its lines do.
-- Assumes nothing.
use mathlib.Core.Path.{◌≡◌, refl, sym, ap, ◌∙◌}
use mathlib.Core.List.{List, [], ◌∷◌, ◌++◌, append_assoc}
use mathlib.Core.Bool.{false}
use Prim.Native.Nat.{ℕ, ◌+◌}
use native.Mathlib.Omega.{arith}
use lib.ListN.{length, get_or, drop}
use Rattle.text.specs.Bytes.{bytes}
use Rattle.text.specs.Mark.{prefix_of}
use Rattle.std.specs.Prelude.{Option, Some, IfSome}
use Rattle.text.specs.Mark.{read}
use Rattle.text.specs.declared.Read.{Read}
use Rattle.text.proofs.Fields.{after_case}
use Rattle.recordings.specs.declared.Scales.{Scales}
use Rattle.lines.specs.Lines.{lines, size}
use Rattle.lines.proofs.Counts.{count}
use Rattle.lines.proofs.Lines.{Fed, Each, none, also, each_append, lines_split, size_append}
use Rattle.lines.proofs.Places.{LinesBetween, one_line, lines_both}
use Rattle.number_lines.specs.Form.{NumberLine}
use Rattle.number_lines.specs.Reading.{number_line_at}
use Rattle.number_lines.proofs.Written.{number_line_is, number_line_taken, number_line_fed}
use Rattle.recordings.specs.declared.Predicate.{Predicate}
use Rattle.scale_lines.specs.Form.{ScaleLine}
use Rattle.scale_lines.specs.Reading.{scales_at}
use Rattle.scale_lines.proofs.Exact.{scales_are, scales_taken, each_scale}
use Rattle.scale_lines.proofs.Written.{scale_fed, scale_first}
use Rattle.predicate_lines.specs.Form.{PredicateLine, is_predicate, PredicateLines}
use Rattle.predicate_lines.specs.Reading.{lines_at}
use Rattle.predicate_lines.proofs.Exact.{predicates_are, predicates_taken, each_line}
use Rattle.predicate_lines.proofs.Written.{line_fed}
use Rattle.heads.specs.declared.Head.{Head}
use Rattle.heads.specs.Form.{HeadForm}
use Rattle.heads.specs.Reading.{head_place, head_of}

-- ---- sound

-- what an answer says of the head
abbrev HeadHere : List ℕ → Option (Read Head) → Type 0
HeadHere s x = IfSome x (λ p. (ls : List (List ℕ)) × HeadForm ls p.value × LinesBetween s 0 p.next ls)

head_read : (s : List ℕ) (ch : Read ℕ) → number_line_at (bytes "chan=") s 0 ≡ Some ch → (cs : Read Scales) → scales_at s ch.next ch.value ≡ Some cs
    → (ps : Read (List Predicate)) → lines_at s cs.next ≡ Some ps
    → (step : Read ℕ) → number_line_at (bytes "step=") s ps.next ≡ Some step → (drift : Read ℕ) → number_line_at (bytes "drift=") s step.next ≡ Some drift
    → HeadHere s (head_place (record { setup = record { channels = ch.value; scales = cs.value; predicates = ps.value }; step = step.value; drift = drift.value }) drift.next)
unfolding count
head_read s ch e cs k ps o step f drift g =
    let x = number_line_is (bytes "chan=") s 0 ch e in
    let q = scales_are s ch.next ch.value cs k in
    let p = predicates_are s cs.next ps o in
    let y = number_line_is (bytes "step=") s ps.next step f in
    let z = number_line_is (bytes "drift=") s step.next drift g in
    let front = one_line x.1 (number_line_fed refl x.2) in
    let behind = lines_both (one_line y.1 (number_line_fed refl y.2)) (one_line z.1 (number_line_fed refl z.2)) in (
      x.0 ∷ (q.taken ++ (p.taken ++ (y.0 ∷ z.0 ∷ []))),
      record {
        chan = x.0;
        cs = q.taken;
        ps = p.taken;
        step = y.0;
        drift = z.0;
        sequence = refl;
        channels = x.2;
        scales = q.form;
        predicates = p.form;
        steps = y.2;
        drifts = z.2;
      },
      lines_both front (lines_both q.between (lines_both p.between behind)),
    )

head_here : (s : List ℕ) → HeadHere s (head_of s)
unfolding head_of
head_here s =
    after_case (HeadHere s) (number_line_at (bytes "chan=") s 0) _ _
    (λ ch e. after_case (HeadHere s) (scales_at s ch.next ch.value) _ _
    (λ cs k. after_case (HeadHere s) (lines_at s cs.next) _ _
    (λ ps o. after_case (HeadHere s) (number_line_at (bytes "step=") s ps.next) _ _
    (λ step f. after_case (HeadHere s) (number_line_at (bytes "drift=") s step.next) _ _
    (λ drift g. head_read s ch e cs k ps o step f drift g)
    (λ g. tt))
    (λ f. tt))
    (λ o. tt))
    (λ k. tt))
    (λ e. tt)

pub head_is : (s : List ℕ) (p : Read Head) → head_of s ≡ Some p → (ls : List (List ℕ)) × HeadForm ls p.value × LinesBetween s 0 p.next ls
head_is s p e = rw e at (head_here s)

-- ---- complete

-- a line `step=` is no predicate line
step_stops : {l : List ℕ} {v : ℕ} (ls : List (List ℕ)) → NumberLine (bytes "step=") l v → (x : List ℕ) → lines x ≡ l ∷ ls → is_predicate x ≡ false
unfolding prefix_of
step_stops {l} ls f x h = let t = lines_split x l ls h in ap is_predicate (t.1 ∙ ap (λ (y : List ℕ). y ++ t.0) f.spelled)

predicates_place : (s : List ℕ) (a b : ℕ) (qs : List Predicate) (ps rest : List (List ℕ)) → lines_at s a ≡ read qs b
    → lines (drop a s) ≡ ps ++ rest → lines (drop b s) ≡ rest → b ≡ a + size ps
predicates_place s a b qs ps rest e f g =
    let t = predicates_are s a (record { value = qs; next = b }) e in
    let h : t.taken ++ rest ≡ ps ++ rest = ap (λ (x : List (List ℕ)). t.taken ++ x) (sym g) ∙ (sym t.between.cuts ∙ f) in
    let k : size t.taken + size rest ≡ size ps + size rest = sym (size_append t.taken rest) ∙ (ap size h ∙ size_append ps rest) in
    omega (arith, t.between.place)

predicates_stage : (s : List ℕ) (a : ℕ) {qs : List Predicate} {ps : List (List ℕ)} {l : List ℕ} {v : ℕ} (ls : List (List ℕ))
    → PredicateLines ps qs → NumberLine (bytes "step=") l v → lines (drop a s) ≡ ps ++ (l ∷ ls)
    → (b : ℕ) × (lines_at s a ≡ read qs b) × (lines (drop b s) ≡ l ∷ ls) × (b ≡ a + size ps)
predicates_stage s a {qs} {ps} {l} ls form step e =
    let t = predicates_taken form s a (l ∷ ls) e (λ x h. step_stops ls step x h) in
    (t.0, t.1, t.2, predicates_place s a t.0 qs ps (l ∷ ls) t.1 e t.2)

-- what the readers give one after the other is the head
head_made : (s : List ℕ) (h : Head) (a b c d n : ℕ) → number_line_at (bytes "chan=") s 0 ≡ read h.setup.channels a
    → scales_at s a h.setup.channels ≡ read h.setup.scales b → lines_at s b ≡ read h.setup.predicates c
    → number_line_at (bytes "step=") s c ≡ read h.step d → number_line_at (bytes "drift=") s d ≡ read h.drift n
    → head_of s ≡ head_place h n
unfolding head_of
head_made s h a b c d n e k p f g = rw (e, k, p, f, g)

pub head_taken : (s : List ℕ) {ls : List (List ℕ)} {h : Head} (rest : List (List ℕ)) → HeadForm ls h → lines s ≡ ls ++ rest → head_of s ≡ head_place h (size ls)
unfolding size
head_taken s {ls} {h} rest f e =
    let cuts : lines s ≡ f.chan ∷ (f.cs ++ (f.ps ++ (f.step ∷ f.drift ∷ rest))) = e ∙ (ap (λ (x : List (List ℕ)). x ++ rest) f.sequence ∙ simp append_assoc) in
    let a = number_line_taken (bytes "chan=") s 0 (f.cs ++ (f.ps ++ (f.step ∷ f.drift ∷ rest))) (omega arith) f.channels cuts in
    let k = scales_taken f.scales s a.0 (f.ps ++ (f.step ∷ f.drift ∷ rest)) a.2 in
    let b = predicates_stage s (a.0 + size f.cs) (f.drift ∷ rest) f.predicates f.steps k.1 in
    let c = number_line_taken (bytes "step=") s b.0 (f.drift ∷ rest) (omega arith) f.steps b.2 in
    let d = number_line_taken (bytes "drift=") s c.0 rest (omega arith) f.drifts c.2 in
    let w : size ls ≡ length f.chan + (size f.cs + (size f.ps + (length f.step + (length f.drift + 0)))) = ap size f.sequence ∙ simp size_append in
    let n : d.0 ≡ size ls = omega (arith, a.3, b.3, c.3, d.3) in
    head_made s h a.0 (a.0 + size f.cs) b.0 c.0 (size ls) a.1 k.0 b.1 c.1 (rw n at d.1)

-- ---- a head's lines

-- each ends in its only line feed, and begins as neither a requirement nor a row does
pub record HeadLine (l : List ℕ) : Type 0 where
  pub fed : Fed l
  pub no_requirement : get_or l 0 0 ≡ 114 → ⊥
  pub no_row : get_or l 0 0 ≡ 116 → ⊥

scale_head : (l : List ℕ) (channel scale : ℕ) → ScaleLine l channel scale → HeadLine l
scale_head l channel scale line =
    let f = scale_first line in
    record { fed = scale_fed line; no_requirement = λ e. omega arith; no_row = λ e. omega arith }

predicate_head : (l : List ℕ) (k : ℕ) (p : Predicate) → PredicateLine l k p → HeadLine l
predicate_head l k p line =
    let f : get_or l 0 0 ≡ 112 = ap (λ (y : List ℕ). get_or y 0 0) line.spelled in
    record { fed = line_fed line; no_requirement = λ e. omega arith; no_row = λ e. omega arith }

pub head_lines : {ls : List (List ℕ)} {h : Head} → HeadForm ls h → Each HeadLine ls
unfolding count
head_lines {ls} {h} f =
    let i : get_or f.chan 0 0 ≡ 99 = ap (λ (y : List ℕ). get_or y 0 0) f.channels.spelled in
    let j : get_or f.step 0 0 ≡ 115 = ap (λ (y : List ℕ). get_or y 0 0) f.steps.spelled in
    let k : get_or f.drift 0 0 ≡ 100 = ap (λ (y : List ℕ). get_or y 0 0) f.drifts.spelled in
    rw f.sequence
    (also (record { fed = number_line_fed refl f.channels; no_requirement = λ e. omega arith; no_row = λ e. omega arith })
    (each_append (each_scale scale_head f.scales)
    (each_append (each_line predicate_head f.predicates)
    (also (record { fed = number_line_fed refl f.steps; no_requirement = λ e. omega arith; no_row = λ e. omega arith })
    (also (record { fed = number_line_fed refl f.drifts; no_requirement = λ e. omega arith; no_row = λ e. omega arith })
    none)))))
