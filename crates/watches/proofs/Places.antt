-- What stands at which place of a watch: each run of numbers behind those before it, each node's cell in its run. So a watch reads back as its table, its setup, its times and
-- what its nodes are to hold.
-- Assumes nothing.
use mathlib.Core.Path.{◌≡◌, refl, sym, ap, ◌∙◌}
use mathlib.Core.Bool.{Bool, true, false, cond}
use mathlib.Core.List.{List, [], ◌++◌, append-nil, map}
use Prim.Native.Nat.{ℕ, suc, ◌+◌, ◌-◌, ◌*◌, ◌≤◌, ◌<◌}
use native.Mathlib.Omega.{arith}
use native.Mathlib.Decide.{dec_lt}
use lib.Dec.{eqb}
use borrow.Author.Tests.{ne_eqb}
use lib.ListN.{length, get_or, replicate, length-replicate, length-append, length-take, length-drop, length-map, get_or-append}
use lib.IntN.{ℤ, pos}
use Rattle.lists.specs.Front.{written}
use Rattle.lists.proofs.Filled.{rows_in}
use Rattle.lists.proofs.Maps.{map_at}
use Rattle.recordings.specs.declared.Predicate.{Predicate}
use Rattle.recordings.specs.Card.{Card, rows, predicate_at}
use Rattle.tables.specs.declared.Table.{Table}
use Rattle.tables.specs.Tree.{NODES, node_at}
use Rattle.refusals.specs.First.{first}
use Rattle.building.specs.Nodes.{empty_node}
use Rattle.building.specs.Storing.{WIDTH, cells_of}
use Rattle.building.proofs.Cells.{read_alike, node_back}
use Rattle.flat.specs.Predicates.{lo_of, hi_of, ranges_of, ends_of}
use Rattle.flat.proofs.Padded.{padded_at}
use Rattle.flat.proofs.Back.{front_at, length_pairs, predicate_back}
use Rattle.arrivals.specs.Arrivals.{making_checks}
use Rattle.arrivals.proofs.Growth.{getD_behind}
use Rattle.watch_cells.specs.State.{NUMBERS, CELLS, SCALES_AT, RANGES_AT, NODES_AT, HELD_AT, kept_node, node_in, predicate_in, cell_of}
use Rattle.watches.specs.Watches.{head_of, plan_of, watch_numbers, watch_cells, Watches, Kept}

pub length_written : {X : Type 0} (new old : List X) → length (written new old) ≡ length old
unfolding written
length_written new old = rw (length-append, length-take, length-drop) (omega arith)

-- a place of the nodes' cells is that of some node in some run
pub record OfNode (i : ℕ) : Type 0 where
  pub part : ℕ
  pub node : ℕ
  pub few : part < 3
  pub small : node < NODES
  pub at : i ≡ HELD_AT + NODES * part + node

pub of_node : (i : ℕ) → HELD_AT ≤ i → i < CELLS → OfNode i
of_node i a b = elim (dec_lt i 96) [
  | yes h ↦ record { part = 0; node = i - 32; few = omega arith; small = omega arith; at = omega arith }
  | no h ↦ elim (dec_lt i 160) [
    | yes l ↦ record { part = 1; node = i - 96; few = omega arith; small = omega arith; at = omega arith }
    | no l ↦ record { part = 2; node = i - 160; few = omega arith; small = omega arith; at = omega arith }
  ]
]

pub ends_long : (ps : List Predicate) → length ps ≡ 16 → length (ends_of ps) ≡ 32
ends_long ps h = length_pairs (λ (p : Predicate). lo_of p.range) (λ p. hi_of p.range) ps ∙ omega (arith, h)

module _ (t : Table) (c : Card) where
  abbrev plan : List ℕ
  plan = plan_of t.nodes c.setup.predicates c.setup.scales

  abbrev scales : List ℕ
  scales = written c.setup.scales.each (replicate 8 0)

  abbrev ranges : List ℕ
  ranges = written (ranges_of c.setup.predicates) (replicate 32 0)

  scales_long : length scales ≡ 8
  scales_long = length_written c.setup.scales.each (replicate 8 0) ∙ length-replicate {A = ℕ} 8 0

  ranges_long : length ranges ≡ 32
  ranges_long = length_written (ranges_of c.setup.predicates) (replicate 32 0) ∙ length-replicate {A = ℕ} 32 0

  -- ---- numbers
  pub head_at : (i : ℕ) → i < 5 → get_or (watch_numbers t c) i 0 ≡ get_or (head_of t c) i 0
  head_at i h = get_or-append (head_of t c) plan 0 i h

  pub plan_at : (j : ℕ) → get_or (watch_numbers t c) (5 + j) 0 ≡ get_or plan j 0
  plan_at j = getD_behind (head_of t c) plan j 0

  pub scale_at : (j : ℕ) → j < 8 → get_or plan j 0 ≡ get_or c.setup.scales.each j 0
  scale_at j h = get_or-append scales (ranges ++ cells_of (map kept_node t.nodes)) 0 j (omega (arith, scales_long)) ∙ padded_at c.setup.scales.each 8 j h

  behind_scales : (j : ℕ) → get_or plan (8 + j) 0 ≡ get_or (ranges ++ cells_of (map kept_node t.nodes)) j 0
  behind_scales j = rw (sym scales_long) (getD_behind scales (ranges ++ cells_of (map kept_node t.nodes)) j 0)

  pub range_at : (j : ℕ) → j < 32 → get_or plan (8 + j) 0 ≡ get_or ranges j 0
  range_at j h = behind_scales j ∙ get_or-append ranges (cells_of (map kept_node t.nodes)) 0 j (omega (arith, ranges_long))

  pub node_number : (j : ℕ) → get_or plan (8 + (32 + j)) 0 ≡ get_or (cells_of (map kept_node t.nodes)) j 0
  node_number j = behind_scales (32 + j) ∙ rw (sym ranges_long) (getD_behind ranges (cells_of (map kept_node t.nodes)) j 0)

  -- ---- cells
  module _ (sixteen : length c.setup.predicates ≡ 16) where
    pub end_at : (i : ℕ) → i < 32 → get_or (watch_cells t c) i (pos 0) ≡ get_or (ends_of c.setup.predicates) i (pos 0)
    end_at i h = get_or-append (ends_of c.setup.predicates) _ (pos 0) i (omega (arith, ends_long c.setup.predicates sixteen))

    pub cell_at : (part q : ℕ) → part < 3 → q < NODES → get_or (watch_cells t c) (HELD_AT + NODES * part + q) (pos 0) ≡ cell_of t c part q
    cell_at part q h l =
        let ends = ends_of c.setup.predicates in
        let long = ends_long c.setup.predicates sixteen in
        let z : HELD_AT + NODES * part + q ≡ length ends + (part * NODES + q) = omega arith in
        rw z
        (getD_behind ends _ (part * NODES + q) (pos 0) ∙ rows_in NODES (cell_of t c) 3 (replicate (3 * NODES) (pos 0)) part q (pos 0) h l (omega (arith, length-replicate {A = ℤ} (3 * NODES) (pos 0))))

-- ---- so a watch reads back
module _ {numbers : List ℕ} {cells : List ℤ} {t : Table} {c : Card} (W : Watches numbers cells t c) where
  number_at : (i j : ℕ) → i < NUMBERS → i ≡ 5 + j → get_or numbers i 0 ≡ get_or (plan t c) j 0
  number_at i j h e = W.numbers_are i h ∙ ap (λ (m : ℕ). get_or (watch_numbers t c) m 0) e ∙ plan_at t c j

  pub refused_is : get_or numbers 0 0 ≡ first (making_checks c t)
  refused_is = W.numbers_are 0 (omega arith) ∙ head_at t c 0 (omega arith)

  node_is : (k : ℕ) → k < NODES → node_in numbers k ≡ kept_node (node_at t.nodes k)
  node_is k h =
      read_alike numbers (cells_of (map kept_node t.nodes)) (NODES_AT + WIDTH * k) (WIDTH * k) (λ f l.
      number_at (NODES_AT + WIDTH * k + f) (8 + (32 + (WIDTH * k + f))) (omega arith) (omega arith) ∙ node_number t c (WIDTH * k + f))
      ∙ (rw append-nil at (node_back (map kept_node t.nodes) [] k (omega (arith, length-map t.nodes kept_node, W.nodes_are))))
      ∙ map_at kept_node t.nodes k empty_node

  range_number_at : (j : ℕ) → j < 32 → get_or numbers (RANGES_AT + j) 0 ≡ get_or (ranges t c) j 0
  range_number_at j h = number_at (RANGES_AT + j) (8 + j) (omega arith) (omega arith) ∙ range_at t c j h

  end_is : (i : ℕ) → i < 32 → get_or cells i (pos 0) ≡ get_or (written (ends_of c.setup.predicates) (replicate 32 (pos 0))) i (pos 0)
  end_is i h =
      let n = ends_long c.setup.predicates W.predicates_are in
      W.cells_are i (omega arith) ∙ end_at t c W.predicates_are i h
      ∙ sym (front_at (ends_of c.setup.predicates) (replicate 32 (pos 0)) (pos 0) (omega (arith, n, length-replicate {A = ℤ} 32 (pos 0))) i (omega (arith, n)))

  predicate_is : (p : ℕ) → p < 16 → predicate_in numbers cells p ≡ predicate_at c.setup.predicates p
  predicate_is p h =
      let z : RANGES_AT + 2 * p + 1 ≡ RANGES_AT + (2 * p + 1) = omega arith in
      rw (z, range_number_at (2 * p) (omega arith), range_number_at (2 * p + 1) (omega arith), end_is (2 * p) (omega arith), end_is (2 * p + 1) (omega arith))
      (predicate_back c.setup.predicates W.predicates_are (replicate 32 0) (replicate 32 (pos 0)) (omega (arith, length-replicate {A = ℕ} 32 0)) (omega (arith, length-replicate {A = ℤ} 32 (pos 0))) p h)

  pub kept_is : first (making_checks c t) ≡ 0 → Kept numbers cells t c
  kept_is none = record {
    planned = record {
      long = W.long;
      wide = W.wide;
      count = W.numbers_are 1 (omega arith) ∙ head_at t c 1 (omega arith);
      channels = W.numbers_are 4 (omega arith) ∙ head_at t c 4 (omega arith);
      scales = λ j h. number_at (SCALES_AT + j) j (omega arith) (omega arith) ∙ scale_at t c j h;
      predicates = predicate_is;
      nodes = node_is;
    };
    fits = W.fits none;
    clock = record { start = W.numbers_are 2 (omega arith) ∙ head_at t c 2 (omega arith); next = W.numbers_are 3 (omega arith) ∙ head_at t c 3 (omega arith) };
    each = λ q h. record { each = λ part l. W.cells_are (HELD_AT + NODES * part + q) (omega arith) ∙ cell_at t c W.predicates_are part q l h };
  }

-- whether there was a row
none_before : (b : Bool) (last : ℕ) → eqb (cond b 0 (suc last)) 0 ≡ b
none_before true last = refl
none_before false last = ne_eqb (suc last) 0 (λ (e : suc last ≡ 0). omega arith)

pub no_row_yet : {numbers : List ℕ} {cells : List ℤ} {t : Table} {c : Card} → Kept numbers cells t c → eqb (get_or numbers 3 0) 0 ≡ eqb (rows c) 0
no_row_yet {c = c} K = ap (λ (n : ℕ). eqb n 0) K.clock.next ∙ none_before (eqb (rows c) 0) _
