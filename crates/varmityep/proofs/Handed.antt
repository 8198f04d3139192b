-- What the readers write into slices with room stands in front of them, and is what the margin and the verdict take up: the table of the text, the predicates of the sheet;
-- and a sheet's requirements stand between the places that are handed over. Under a refusal every slice keeps what it held.
-- Assumes nothing.
use mathlib.Core.Path.{◌≡◌, refl, sym, ap, subst}
use mathlib.Core.List.{List, [], ◌∷◌}
use Rattle.std.specs.Prelude.{Result, Ok, Err, MatchResult, IsOkAnd}
use Rattle.std.specs.Result.{result_map_both}
use Rattle.refusals.specs.declared.Refusal.{Refusal}
use Rattle.refusals.specs.Number.{number, number_of}
use Rattle.refusals.proofs.Number.{not_none}
use Rattle.distances.specs.Answers.{distance_outcome}
use Rattle.margins.specs.Answers.{margin_outcome}
use Rattle.verdicts.specs.declared.Judgement.{Judgement}
use Rattle.verdicts.specs.Answer.{verdict_outcome}
use Prim.Native.Nat.{ℕ, ◌+◌, ◌-◌, ◌*◌, ◌≤◌, ◌<◌}
use native.Mathlib.Omega.{arith}
use lib.IntN.{ℤ}
use lib.ListN.{length, get_or, take, replicate, get_or-append}
use Rattle.building.specs.Nodes.{nodes_of}
use Rattle.building.specs.Storing.{CELLS, cells_of}
use Rattle.building.proofs.Cells.{length_nodes}
use Rattle.requirements.specs.Requirement.{requirement_of}
use Rattle.requirements.proofs.Answers.{answer_sound}
use Rattle.requirements.proofs.Rules.{required_rules}
use Rattle.predicate_lines.proofs.Exact.{lines_keep}
use Rattle.sheets.specs.Sheets.{sheet_of}
use Rattle.sheets.proofs.Exact.{sheet_sound}
use Rattle.refusals.proofs.First.{unless_some}
use Rattle.lists.specs.Front.{written}
use Rattle.flat.specs.Tables.{table_from}
use Rattle.flat.specs.Predicates.{ranges_of, ends_of, predicates_from}
use Rattle.varmityep.specs.Places.{handed, answer_handed, distance_handed, margin_handed, verdict_number, verdict_handed}
use Rattle.requirement_lines.specs.Form.{no_place}
use Rattle.sheets.proofs.Behind.{places_long}
use Rattle.flat.specs.Places.{places_of}
use Rattle.recordings.specs.declared.Scales.{Scales}
use Rattle.recordings.specs.Card.{eight}
use Rattle.recordings.specs.Accepted.{ScaleInRange}
use Rattle.scale_lines.proofs.Steps.{due_most}
use Rattle.scale_lines.proofs.Exact.{said_length}
use Rattle.flat.specs.Scales.{scales_from}
use Rattle.flat.proofs.Scales.{scales_back}
use Rattle.flat.proofs.Back.{predicates_back, places_back, table_read_back}

-- under a refusal a slice keeps what it held
pub kept : {X : Type 0} (n : ℕ) (new old : List X) → (n ≡ 0 → ⊥) → old ≡ handed n new old
kept n new old h = sym (unless_some n (written new old) old h)

-- an answer with another value
abbrev pub with_value : {A B E : Type 0} → (A → B) → Result A E → Result B E
with_value f r = result_map_both f (λ e. e) r

-- what a closure makes of an answer's value takes its place, and a refusal stays
pub mapped : {A : Type 0} (f : A → List ℤ) (P : A → List ℤ → Type 0) (r : Result A Refusal) (m : Result (List ℤ) Refusal)
    → MatchResult r (λ x. IsOkAnd m (P x)) (λ e. m ≡ Err e) → ((x : A) (l : List ℤ) → P x l → l ≡ f x) → m ≡ with_value f r
mapped f P (Ok x) (Ok l) h k = ap Ok (k x l h)
mapped f P (Ok x) (Err e) h k = absurd h
mapped f P (Err e) m h k = h

-- so the distance, the margin and the verdict are handed over with their numbers
module _ (old : List ℤ) where
  pub distance_places : (r : Result ℤ Refusal) → answer_handed (with_value (λ d. d ∷ []) r) old ≡ distance_handed (distance_outcome r) old
  distance_places (Ok d) = refl
  distance_places (Err e) = kept (number e) _ old (not_none e)

  pub margin_places : (r : Result ℤ Refusal) → answer_handed (with_value (λ m. m ∷ []) r) old ≡ margin_handed (margin_outcome r) old
  margin_places (Ok m) = refl
  margin_places (Err e) = kept (number e) _ old (not_none e)

  pub verdict_places : (r : Result Judgement Refusal) → answer_handed (with_value (λ j. verdict_number j.verdict ∷ j.hold ∷ j.fail ∷ []) r) old ≡ verdict_handed (verdict_outcome r) old
  verdict_places (Ok j) = refl
  verdict_places (Err e) = kept (number e) _ old (not_none e)

pub distance_number : (f : ℤ → List ℤ) (r : Result ℤ Refusal) → number_of (with_value f r) ≡ (distance_outcome r).number
distance_number f (Ok d) = refl
distance_number f (Err e) = refl

pub margin_number : (f : ℤ → List ℤ) (r : Result ℤ Refusal) → number_of (with_value f r) ≡ (margin_outcome r).number
margin_number f (Ok m) = refl
margin_number f (Err e) = refl

pub verdict_numbered : (f : Judgement → List ℤ) (r : Result Judgement Refusal) → number_of (with_value f r) ≡ (verdict_outcome r).number
verdict_numbered f (Ok j) = refl
verdict_numbered f (Err e) = refl

pub table_handed : (s : List ℕ) → (requirement_of s).refusal ≡ 0 → (nodes : List ℕ) → CELLS ≤ length nodes
    → table_from (handed (requirement_of s).refusal (cells_of (requirement_of s).table.nodes) nodes) (requirement_of s).table.count ≡ (requirement_of s).table
table_handed s h nodes r =
    let x = answer_sound s h in
    let a = x.0 in
    let few = (required_rules s a x.1).few_nodes in
    rw (h, x.2) (rw (length_nodes 0 a) at (table_read_back (nodes_of 0 a) (rw (length_nodes 0 a) few) nodes r))

pub predicates_handed : (s : List ℕ) → (sheet_of s).number ≡ 0 → (ranges : List ℕ) (ends : List ℤ) → 32 ≤ length ranges → 32 ≤ length ends
    → predicates_from (handed (sheet_of s).number (ranges_of (sheet_of s).head.setup.predicates) ranges) (handed (sheet_of s).number (ends_of (sheet_of s).head.setup.predicates) ends) ≡ (sheet_of s).head.setup.predicates
predicates_handed s h ranges ends wide long = rw h (predicates_back (sheet_of s).head.setup.predicates (lines_keep (sheet_sound s h).written.begins.predicates) ranges ends wide long)

-- of a sheet whose scales are in range, as many numbers as it has scales are read back as they
pub scales_handed : (s : List ℕ) → (sheet_of s).number ≡ 0 → ((ch : ℕ) → ch < (sheet_of s).head.setup.scales.count → ScaleInRange (get_or (sheet_of s).head.setup.scales.each ch 0))
    → (scales : List ℕ) → 8 ≤ length scales
    → scales_from (take (sheet_of s).head.setup.scales.count (handed (sheet_of s).number (sheet_of s).head.setup.scales.each scales)) ≡ (sheet_of s).head.setup.scales
scales_handed s h r scales room =
    let f = (sheet_sound s h).written.begins.scales in
    let few : length f.said ≤ 8 = omega (arith, said_length f.in_order, f.all, due_most (sheet_of s).head.setup.channels) in
    let each : (ch : ℕ) → ch < length f.said → ScaleInRange (get_or (eight f.said) ch 0) = subst (λ (x : Scales). (ch : ℕ) → ch < x.count → ScaleInRange (get_or x.each ch 0)) f.kept r in
    rw h (subst (λ (x : Scales). scales_from (take x.count (written x.each scales)) ≡ x) (sym f.kept) (scales_back f.said few (λ i l. rw (get_or-append f.said (replicate (8 - length f.said) 0) 0 i l) at (each i l)) scales room))

-- requirement k stands in the text from number 2k up to number 2k + 1; behind the last, both are 0
pub places_handed : (s : List ℕ) → (sheet_of s).number ≡ 0 → (places : List ℕ) → 32 ≤ length places → (k : ℕ) → k < 16
    → (get_or (handed (sheet_of s).number (places_of (sheet_of s).requirements) places) (2 * k) 0 ≡ (get_or (sheet_of s).requirements k no_place).from)
    × (get_or (handed (sheet_of s).number (places_of (sheet_of s).requirements) places) (2 * k + 1) 0 ≡ (get_or (sheet_of s).requirements k no_place).to)
places_handed s h places r k l =
    rw h (places_back (sheet_of s).requirements (places_long s (sheet_of s) (sheet_sound s h)) places r k l)
