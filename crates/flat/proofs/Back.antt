-- What was written as flat numbers into slices with room is read back: predicates, and tables whose places beyond their nodes are empty.
-- Assumes nothing.
use mathlib.Core.Path.{◌≡◌, refl, sym, ap, ◌∙◌}
use mathlib.Core.List.{List, [], ◌∷◌, ◌++◌}
use Prim.Native.Nat.{ℕ, zero, suc, ◌+◌, ◌-◌, ◌*◌, ◌≤◌, ◌<◌}
use native.Mathlib.Nat.{zero-add}
use native.Mathlib.Omega.{arith}
use lib.IntN.{ℤ, pos}
use lib.ListN.{length, get_or, drop, replicate, length-append, length-replicate, get_or-append}
use lib.Seq.{take_all, ext_get_or}
use borrow.Author.Tests.{le-leb}
use Rattle.lists.specs.Fill.{fill}
use Rattle.lists.proofs.Filled.{length_fill, fill_in}
use Rattle.recordings.specs.declared.Predicate.{Predicate}
use Rattle.recordings.specs.declared.Range.{Range}
use Rattle.recordings.specs.declared.Range.TheVariants.{Unset, Free, AtLeast, AtMost, Between}
use Rattle.tables.specs.declared.Node.{Node}
use Rattle.recordings.specs.Card.{unset_predicate as none}
use Rattle.predicate_lines.specs.Form.{unset}
use Rattle.building.specs.Nodes.{empty_node}
use Rattle.building.specs.Storing.{CELLS, cells_of, nodes_from}
use Rattle.building.proofs.Cells.{length_cells, whole_cells, table_back}
use Rattle.lists.specs.Front.{written}
use Rattle.flat.specs.Tables.{table_from}
use Rattle.requirement_lines.specs.declared.Place.{Place}
use Rattle.requirement_lines.specs.Form.{no_place}
use Rattle.flat.specs.Places.{places_of}
use Rattle.flat.specs.Predicates.{range_number, lo_of, hi_of, pairs, ranges_of, ends_of, range_from, predicate_from, predicates_from}
use Rattle.flat.proofs.Padded.{same_nodes}

-- a place of what was written, in a slice with room
pub front_at : {X : Type 0} (new old : List X) (d : X) → length new ≤ length old → (j : ℕ) → j < length new → get_or (written new old) j d ≡ get_or new j d
unfolding written
front_at new old d r j h = rw (take_all (length old) new r) (get_or-append new (drop (length new) old) d j h)

-- ---- predicates

module _ {A X : Type 0} (f g : A → X) where
  pub length_pairs : (xs : List A) → length (pairs f g xs) ≡ 2 * length xs
  unfolding pairs
  length_pairs [] = refl
  length_pairs (x ∷ xs) = let h : length (pairs f g xs) ≡ 2 * length xs = length_pairs xs in omega arith

  pair_at : (xs : List A) (k : ℕ) (d : A) (z : X) → k < length xs → (get_or (pairs f g xs) (2 * k) z ≡ f (get_or xs k d)) × (get_or (pairs f g xs) (2 * k + 1) z ≡ g (get_or xs k d))
  unfolding pairs
  pair_at [] k d z h = absurd (omega arith)
  pair_at (x ∷ xs) zero d z h = (refl, refl)
  pair_at (x ∷ xs) (suc k) d z h =
      let i : 2 * suc k ≡ suc (suc (2 * k)) = omega arith in
      let j : 2 * suc k + 1 ≡ suc (suc (2 * k + 1)) = omega arith in
      rw (j, i) (pair_at xs k d z (omega arith))

range_back : (r : Range) → range_from (range_number r) (lo_of r) (hi_of r) ≡ r
unfolding range_from
range_back Unset = refl
range_back Free = refl
range_back (AtLeast lo) = refl
range_back (AtMost hi) = refl
range_back (Between lo hi) = refl

module _ (ps : List Predicate) (sixteen : length ps ≡ 16) (ranges : List ℕ) (ends : List ℤ) (wide : 32 ≤ length ranges) (long : 32 ≤ length ends) where
  pub predicate_back : (k : ℕ) → k < 16 → predicate_from (written (ranges_of ps) ranges) (written (ends_of ps) ends) k ≡ get_or ps k none
  predicate_back k h =
      let x : Predicate = get_or ps k none in
      let m = length_pairs (λ (p : Predicate). range_number p.range) (λ p. p.channel) ps in
      let n = length_pairs (λ (p : Predicate). lo_of p.range) (λ p. hi_of p.range) ps in
      let a = pair_at (λ (p : Predicate). range_number p.range) (λ p. p.channel) ps k none 0 (omega arith) in
      let b = pair_at (λ (p : Predicate). lo_of p.range) (λ p. hi_of p.range) ps k none (pos 0) (omega arith) in
      let r = front_at (ranges_of ps) ranges 0 (omega arith) in
      let e = front_at (ends_of ps) ends (pos 0) (omega arith) in
      rw (r (2 * k + 1) (omega arith), r (2 * k) (omega arith), e (2 * k + 1) (omega arith), e (2 * k) (omega arith), a.1, a.0, b.1, b.0, range_back x.range)

  -- predicates that were written are the predicates read
  pub predicates_back : predicates_from (written (ranges_of ps) ranges) (written (ends_of ps) ends) ≡ ps
  unfolding predicates_from
  predicates_back =
      let f = predicate_from (written (ranges_of ps) ranges) (written (ends_of ps) ends) in
      let l : length (fill 0 16 f unset) ≡ 16 = length_fill 0 16 f unset in
      ext_get_or none (fill 0 16 f unset) ps (l ∙ sym sixteen)
      (λ k h. (rw zero-add at (fill_in 0 16 f unset k none (omega arith) (omega arith))) ∙ predicate_back k (omega arith))

-- ---- places

-- the two numbers of place k are the place
pub places_back : (ps : List Place) → length ps ≡ 16 → (old : List ℕ) → 32 ≤ length old → (k : ℕ) → k < 16
    → (get_or (written (places_of ps) old) (2 * k) 0 ≡ (get_or ps k no_place).from) × (get_or (written (places_of ps) old) (2 * k + 1) 0 ≡ (get_or ps k no_place).to)
places_back ps l old r k h =
    let m = length_pairs (λ (p : Place). p.from) (λ p. p.to) ps in
    let a = pair_at (λ (p : Place). p.from) (λ p. p.to) ps k no_place 0 (omega arith) in
    let e = front_at (places_of ps) old 0 (omega arith) in
    (e (2 * k) (omega arith) ∙ a.0, e (2 * k + 1) (omega arith) ∙ a.1)

-- ---- tables

module _ (xs : List Node) (few : length xs ≤ 64) where
  abbrev whole : List Node
  whole = xs ++ replicate (64 - length xs) empty_node

  -- a table that was written is the table read
  pub table_read_back : (old : List ℕ) → CELLS ≤ length old → table_from (written (cells_of whole) old) (length xs) ≡ record { nodes = whole; count = length xs }
  unfolding table_from
  table_read_back old r =
      let c : length (cells_of whole) ≡ CELLS = length_cells whole ∙ rw (length-append xs, length-replicate (64 - length xs) empty_node) (omega arith) in
      let a : nodes_from (written (cells_of whole) old) (length xs) ≡ nodes_from (cells_of whole) (length xs) = same_nodes (written (cells_of whole) old) (cells_of whole) CELLS (λ j h. front_at (cells_of whole) old 0 (omega arith) j (omega arith)) (length xs) (omega arith) in
      rw (le-leb (length xs) 64 few, a ∙ ap (λ (cs : List ℕ). nodes_from cs (length xs)) (whole_cells xs few) ∙ table_back xs few)
