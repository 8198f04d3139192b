-- Those of a head's lines that begin as predicates' do are its predicate lines, since every other line has another key. So they stand by rising number.
-- Assumes nothing.
use mathlib.Core.Path.{◌≡◌, refl, ap, ◌∙◌}
use mathlib.Core.List.{List, [], ◌∷◌, ◌++◌, append-nil}
use mathlib.Core.Bool.{true, false}
use Prim.Native.Nat.{ℕ}
use Rattle.text.specs.Mark.{prefix_of}
use Rattle.lines.proofs.Lines.{Each, none, also}
use Rattle.scale_lines.specs.Form.{ScaleLine}
use Rattle.scale_lines.proofs.Exact.{each_scale}
use Rattle.recordings.specs.declared.Predicate.{Predicate}
use Rattle.predicate_lines.specs.Form.{PredicateLine, is_predicate}
use Rattle.predicate_lines.specs.Rising.{Rising}
use Rattle.predicate_lines.proofs.Exact.{each_line}
use Rattle.predicate_lines.proofs.Rising.{lines_rise}
use Rattle.heads.specs.declared.Head.{Head}
use Rattle.heads.specs.Form.{HeadForm}
use Rattle.heads.specs.Order.{predicates_among}

-- a line that begins otherwise is passed over, and one that begins as a predicate's does is kept
among_others : {ls : List (List ℕ)} (ms : List (List ℕ)) → Each (λ (l : List ℕ). is_predicate l ≡ false) ls → predicates_among (ls ++ ms) ≡ predicates_among ms
unfolding predicates_among
among_others ms none = refl
among_others ms (also p h) = rw p (among_others ms h)

among_predicates : {ls : List (List ℕ)} (ms : List (List ℕ)) → Each (λ (l : List ℕ). is_predicate l ≡ true) ls → predicates_among (ls ++ ms) ≡ ls ++ predicates_among ms
unfolding predicates_among
among_predicates ms none = refl
among_predicates ms (also {l} p h) = rw p (ap (λ (x : List (List ℕ)). l ∷ x) (among_predicates ms h))

-- ---- a head's lines

scale_other : (l : List ℕ) (channel scale : ℕ) → ScaleLine l channel scale → is_predicate l ≡ false
unfolding prefix_of
scale_other l channel scale line = ap is_predicate line.spelled

predicate_key : (l : List ℕ) (k : ℕ) (p : Predicate) → PredicateLine l k p → is_predicate l ≡ true
unfolding prefix_of
predicate_key l k p line = ap is_predicate line.spelled

module _ {ls : List (List ℕ)} {h : Head} (f : HeadForm ls h) where
  head_predicates : predicates_among ls ≡ f.ps
  unfolding prefix_of predicates_among
  head_predicates =
      ap predicates_among f.sequence
      ∙ (among_others (f.ps ++ (f.step ∷ f.drift ∷ [])) (also {l = f.chan} (ap is_predicate f.channels.spelled) (each_scale scale_other f.scales))
      ∙ (among_predicates (f.step ∷ f.drift ∷ []) (each_line predicate_key f.predicates)
      ∙ (ap (λ (x : List (List ℕ)). f.ps ++ x) (among_others {ls = f.step ∷ f.drift ∷ []} [] (also (ap is_predicate f.steps.spelled) (also (ap is_predicate f.drifts.spelled) none)))
      ∙ append-nil f.ps)))

  pub head_rising : Rising (predicates_among ls)
  head_rising = rw head_predicates (lines_rise f.predicates)
