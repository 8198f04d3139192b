-- A fresh watch is that of no rows: each run of numbers stands where it was put, and no later run was put over it; the nodes' cells hold nothing yet.
-- Assumes nothing.
use mathlib.Core.Path.{◌≡◌, refl, sym, ap, ◌∙◌}
use mathlib.Core.List.{List, [], ◌∷◌, ◌++◌, map}
use Prim.Native.Nat.{ℕ, ◌+◌, ◌-◌, ◌*◌, ◌≤◌, ◌<◌}
use native.Mathlib.Omega.{arith}
use native.Mathlib.Decide.{dec_lt}
use lib.ListN.{length, get_or, replicate, length-replicate, length-map, drop}
use lib.Seq.{get_or-drop}
use lib.IntN.{ℤ, pos}
use Rattle.refusals.specs.First.{first}
use Rattle.lists.specs.Front.{written}
use Rattle.lists.proofs.Front.{written_in_front}
use Rattle.lists.proofs.Filled.{length_fill, fill_in, fill_out}
use Rattle.recordings.specs.declared.Predicate.{Predicate}
use Rattle.recordings.specs.declared.Scales.{Scales}
use Rattle.recordings.specs.Card.{Card}
use Rattle.tables.specs.declared.Table.{Table}
use Rattle.tables.specs.Tree.{NODES}
use Rattle.building.specs.Storing.{WIDTH, cells_of}
use Rattle.building.proofs.Cells.{length_cells}
use Rattle.flat.specs.Predicates.{ranges_of, ends_of}
use Rattle.flat.proofs.Padded.{padded_at}
use Rattle.flat.proofs.Back.{front_at}
use Rattle.arrivals.specs.Arrivals.{watch_setup, no_rows, making_checks}
use Rattle.arrivals.proofs.Growth.{getD_behind}
use Rattle.arrivals.proofs.Fitting.{fits_none}
use Rattle.watch_cells.specs.State.{NUMBERS, CELLS, SCALES_AT, RANGES_AT, NODES_AT, HELD_AT, kept_node}
use Rattle.watches.specs.Watches.{plan_of, watch_numbers, watch_cells, Watches, SameBehind, put_at, fresh_numbers, fresh_cells}
use Rattle.watches.proofs.Places.{length_written, of_node, ends_long, head_at, plan_at, scale_at, range_at, node_number, end_at, cell_at}

module _ {X : Type 0} (at : ℕ) (none : X) (new old : List X) where
  pub length_put : length (put_at at none new old) ≡ length old
  length_put = length_fill at (length new) (λ i. get_or new i none) old

  pub put_in : (i : ℕ) → i < length new → at + length new ≤ length old → get_or (put_at at none new old) (at + i) none ≡ get_or new i none
  put_in i h l = fill_in at (length new) (λ j. get_or new j none) old i none h l

  pub put_out : (m : ℕ) → (at ≤ m → m < at + length new → ⊥) → get_or (put_at at none new old) m none ≡ get_or old m none
  put_out m h = fill_out at (length new) (λ j. get_or new j none) old m none h

written_behind : {X : Type 0} (new old : List X) (i : ℕ) (d : X) → length new ≤ i → length new ≤ length old → get_or (written new old) i d ≡ get_or old i d
written_behind new old i d h l =
    let z : length new + (i - length new) ≡ i = omega arith in
    rw (written_in_front new old l)
    (ap (λ (j : ℕ). get_or (new ++ drop (length new) old) j d) (sym z) ∙ getD_behind new (drop (length new) old) (i - length new) d ∙ get_or-drop (length new) old (i - length new) d ∙ ap (λ (j : ℕ). get_or old j d) z)

module _ (number : ℕ) (t : Table) (ps : List Predicate) (ks : Scales) (old : List ℕ) (ends : List ℤ) (hn : length t.nodes ≡ NODES) (hp : length ps ≡ 16) (long : NUMBERS ≤ length old) (wide : CELLS ≤ length ends) where
  abbrev nodes : List ℕ
  nodes = cells_of (map kept_node t.nodes)

  abbrev ranges : List ℕ
  ranges = written (ranges_of ps) (replicate 32 0)

  abbrev scales : List ℕ
  scales = written ks.each (replicate 8 0)

  abbrev head : List ℕ
  head = number ∷ t.count ∷ 0 ∷ 0 ∷ ks.count ∷ []

  abbrev with_nodes : List ℕ
  with_nodes = put_at NODES_AT 0 nodes old

  abbrev with_ranges : List ℕ
  with_ranges = put_at RANGES_AT 0 ranges with_nodes

  abbrev with_scales : List ℕ
  with_scales = put_at SCALES_AT 0 scales with_ranges

  abbrev numbers : List ℕ
  numbers = fresh_numbers number t ps ks old

  nodes_long : length nodes ≡ WIDTH * NODES
  nodes_long = length_cells (map kept_node t.nodes) ∙ omega (arith, length-map t.nodes kept_node, hn)

  ranges_long : length ranges ≡ 32
  ranges_long = length_written (ranges_of ps) (replicate 32 0) ∙ length-replicate {A = ℕ} 32 0

  scales_long : length scales ≡ 8
  scales_long = length_written ks.each (replicate 8 0) ∙ length-replicate {A = ℕ} 8 0

  room_1 : length with_nodes ≡ length old
  room_1 = length_put NODES_AT 0 nodes old

  room_2 : length with_ranges ≡ length old
  room_2 = length_put RANGES_AT 0 ranges with_nodes ∙ room_1

  room_3 : length with_scales ≡ length old
  room_3 = length_put SCALES_AT 0 scales with_ranges ∙ room_2

  pub fresh_long : length numbers ≡ length old
  fresh_long = length_put 0 0 head with_scales ∙ room_3

  -- past the numbers in front, and past the scales
  behind_head : (m : ℕ) → 5 ≤ m → get_or numbers m 0 ≡ get_or with_scales m 0
  behind_head m h = put_out 0 0 head with_scales m (λ a (b : m < 0 + 5). omega arith)

  behind_scales : (m : ℕ) → 13 ≤ m → get_or numbers m 0 ≡ get_or with_ranges m 0
  behind_scales m h = behind_head m (omega arith) ∙ put_out SCALES_AT 0 scales with_ranges m (λ a b. omega (arith, scales_long))

  behind_ranges : (m : ℕ) → 45 ≤ m → get_or numbers m 0 ≡ get_or with_nodes m 0
  behind_ranges m h = behind_scales m (omega arith) ∙ put_out RANGES_AT 0 ranges with_nodes m (λ a b. omega (arith, ranges_long))

  written_head : (i : ℕ) → i < 5 → get_or numbers i 0 ≡ get_or head i 0
  written_head i h = let z : 0 + i ≡ i = omega arith in rw z at (put_in 0 0 head with_scales i h (omega (arith, room_3, long)))

  written_scale : (i : ℕ) → i < 8 → get_or numbers (SCALES_AT + i) 0 ≡ get_or ks.each i 0
  written_scale i h =
      behind_head (SCALES_AT + i) (omega arith)
      ∙ put_in SCALES_AT 0 scales with_ranges i (omega (arith, scales_long)) (omega (arith, room_2, scales_long, long))
      ∙ padded_at ks.each 8 i h

  written_range : (i : ℕ) → i < 32 → get_or numbers (RANGES_AT + i) 0 ≡ get_or ranges i 0
  written_range i h = behind_scales (RANGES_AT + i) (omega arith) ∙ put_in RANGES_AT 0 ranges with_nodes i (omega (arith, ranges_long)) (omega (arith, room_1, ranges_long, long))

  written_node : (i : ℕ) → i < WIDTH * NODES → get_or numbers (NODES_AT + i) 0 ≡ get_or nodes i 0
  written_node i h = behind_ranges (NODES_AT + i) (omega arith) ∙ put_in NODES_AT 0 nodes old i (omega (arith, nodes_long)) (omega (arith, nodes_long, long))

  abbrev none : Card
  none = no_rows (watch_setup ps ks)

  -- place j of the plan is place 5 + j of the numbers
  planned_at : (i j m : ℕ) {v : ℕ} → i ≡ m → get_or numbers m 0 ≡ v → i ≡ 5 + j → get_or (plan_of t.nodes ps ks) j 0 ≡ v → get_or numbers i 0 ≡ get_or (watch_numbers t none) i 0
  planned_at i j m e h z g = ap (λ (n : ℕ). get_or numbers n 0) e ∙ h ∙ sym g ∙ sym (plan_at t none j) ∙ ap (λ (n : ℕ). get_or (watch_numbers t none) n 0) (sym z)

  numbers_same : number ≡ first (making_checks none t) → (i : ℕ) → i < NUMBERS → get_or numbers i 0 ≡ get_or (watch_numbers t none) i 0
  numbers_same e i h = elim (dec_lt i 5) [
    | yes a ↦ written_head i a ∙ ap (λ (x : ℕ). get_or (x ∷ t.count ∷ 0 ∷ 0 ∷ ks.count ∷ []) i 0) e ∙ sym (head_at t none i a)
    | no a ↦ elim (dec_lt i 13) [
      | yes b ↦ planned_at i (i - 5) (SCALES_AT + (i - 5)) (omega arith) (written_scale (i - 5) (omega arith)) (omega arith) (scale_at t none (i - 5) (omega arith))
      | no b ↦ elim (dec_lt i 45) [
        | yes d ↦ planned_at i (8 + (i - 13)) (RANGES_AT + (i - 13)) (omega arith) (written_range (i - 13) (omega arith)) (omega arith) (range_at t none (i - 13) (omega arith))
        | no d ↦ planned_at i (8 + (32 + (i - 45))) (NODES_AT + (i - 45)) (omega arith) (written_node (i - 45) (omega arith)) (omega arith) (node_number t none (i - 45))
      ]
    ]
  ]

  cells_long : length (fresh_cells ps ends) ≡ length ends
  cells_long = length_fill HELD_AT (3 * NODES) (λ i. pos 0) (written (ends_of ps) ends) ∙ length_written (ends_of ps) ends

  cells_same : (i : ℕ) → i < CELLS → get_or (fresh_cells ps ends) i (pos 0) ≡ get_or (watch_cells t none) i (pos 0)
  cells_same i h = elim (dec_lt i 32) [
    | yes a ↦
        fill_out HELD_AT (3 * NODES) (λ j. pos 0) (written (ends_of ps) ends) i (pos 0) (λ x y. omega arith)
        ∙ front_at (ends_of ps) ends (pos 0) (omega (arith, ends_long ps hp, wide)) i (omega (arith, ends_long ps hp))
        ∙ sym (end_at t none hp i a)
    | no a ↦
        let g = of_node i (omega arith) h in
        let z : HELD_AT + (i - HELD_AT) ≡ i = omega arith in
        ap (λ (m : ℕ). get_or (fresh_cells ps ends) m (pos 0)) (sym z)
        ∙ fill_in HELD_AT (3 * NODES) (λ j. pos 0) (written (ends_of ps) ends) (i - HELD_AT) (pos 0) (omega arith) (omega (arith, length_written (ends_of ps) ends, wide))
        ∙ sym (cell_at t none hp g.part g.node g.few g.small)
        ∙ ap (λ (m : ℕ). get_or (watch_cells t none) m (pos 0)) (sym g.at)
  ]

  pub fresh_watches : number ≡ first (making_checks none t) → Watches numbers (fresh_cells ps ends) t none
  fresh_watches e = record {
    long = omega (arith, fresh_long, long);
    wide = omega (arith, cells_long, wide);
    numbers_are = numbers_same e;
    cells_are = cells_same;
    nodes_are = hn;
    predicates_are = hp;
    fits = λ z. fits_none (watch_setup ps ks) t refl z;
  }

  -- places behind keep their contents
  pub fresh_behind : SameBehind NUMBERS 0 old numbers
  fresh_behind = record { same = λ i h. behind_ranges i (omega arith) ∙ put_out NODES_AT 0 nodes old i (λ a b. omega (arith, nodes_long)) }

  pub cells_behind : SameBehind CELLS (pos 0) ends (fresh_cells ps ends)
  cells_behind = let n = ends_long ps hp in record {
    same = λ i h. fill_out HELD_AT (3 * NODES) (λ j. pos 0) (written (ends_of ps) ends) i (pos 0) (λ x (y : i < HELD_AT + 3 * NODES). omega arith) ∙ written_behind (ends_of ps) ends i (pos 0) (omega (arith, n)) (omega (arith, n, wide));
  }
