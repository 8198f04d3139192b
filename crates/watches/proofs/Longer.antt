-- A row that was accepted: what the nodes are told of it is what the longer recording says, and the watch then is one of that recording. The times are all that moves in its numbers.
-- Assumes nothing.
use mathlib.Core.Path.{◌≡◌, refl, sym, ap, ◌∙◌}
use mathlib.Core.Bool.{Bool, true, false, ◌&&◌, cond}
use mathlib.Core.List.{List}
use Prim.Native.Nat.{ℕ, zero, suc, ◌+◌, ◌-◌, ◌*◌, ◌≤◌, ◌<◌, min}
use native.Mathlib.Omega.{arith}
use native.Mathlib.Decide.{dec_lt}
use lib.Dec.{leb, eqb}
use lib.ListN.{length, get_or, set, length-set}
use lib.Seq.{get_or-set_same, get_or-set_other}
use lib.IntN.{ℤ, pos}
use borrow.Author.Tests.{ne_eqb, le-ltb}
use Rattle.recordings.specs.declared.Setup.{Setup}
use Rattle.recordings.specs.Card.{Card, rows, time}
use Rattle.tables.specs.declared.Table.{Table}
use Rattle.tables.specs.Tree.{NODES, tree}
use Rattle.refusals.specs.First.{first}
use Rattle.refusals.proofs.First.{first_of_whole}
use Rattle.arrivals.specs.Arrivals.{Row, with_row, making_checks, row_checks, offer_refusal}
use Rattle.arrivals.specs.Fits.{next_time}
use Rattle.arrivals.proofs.Growth.{rows_next, time_before, time_newest}
use Rattle.arrivals.proofs.Fitting.{made, offered, fits_next}
use Rattle.building.specs.Storing.{WIDTH}
use Rattle.building.proofs.Cells.{read_alike}
use Rattle.watch_cells.specs.State.{NUMBERS, CELLS, NODES_AT, HELD_AT, cell_of, part_of, Planned}
use Rattle.watch_cells.specs.Taking.{Arriving, Taking, SameBeyond}
use Rattle.watches.specs.Watches.{head_of, watch_numbers, watch_cells, Kept, Watches, begun}
use Rattle.watches.proofs.Places.{of_node, head_at, plan_at, end_at, cell_at, kept_is, no_row_yet}

-- what refuses a making looks at no sample
making_same : (c : Card) (t : Table) (r : Row) → first (making_checks c t) ≡ first (making_checks (with_row c r) t)
unfolding first
making_same c t r = refl

-- ---- the times in a watch's numbers
module _ (numbers : List ℕ) (now : ℕ) where
  pub begun_long : length (begun now numbers) ≡ length numbers
  begun_long = go (eqb (get_or numbers 3 0) 0)
    where
      go : (b : Bool) → length (cond b (set numbers 2 now) numbers) ≡ length numbers
      go true = rw length-set
      go false = refl

  pub begun_other : (i : ℕ) → (i ≡ 2 → ⊥) → get_or (begun now numbers) i 0 ≡ get_or numbers i 0
  begun_other i h = go (eqb (get_or numbers 3 0) 0)
    where
      go : (b : Bool) → get_or (cond b (set numbers 2 now) numbers) i 0 ≡ get_or numbers i 0
      go true = get_or-set_other numbers 2 i now 0 h
      go false = refl

  begun_start : NUMBERS ≤ length numbers → get_or (begun now numbers) 2 0 ≡ cond (eqb (get_or numbers 3 0) 0) now (get_or numbers 2 0)
  begun_start l = go (eqb (get_or numbers 3 0) 0)
    where
      go : (b : Bool) → get_or (cond b (set numbers 2 now) numbers) 2 0 ≡ cond b now (get_or numbers 2 0)
      go true = get_or-set_same numbers 2 now 0 (omega arith)
      go false = refl

-- nothing else of the plan is moved by them
planned_same : {numbers moved : List ℕ} {cells : List ℤ} {t : Table} {s : Setup} → length moved ≡ length numbers → ((i : ℕ) → (i ≡ 2 → ⊥) → (i ≡ 3 → ⊥) → get_or moved i 0 ≡ get_or numbers i 0) → Planned numbers cells t s → Planned moved cells t s
planned_same {numbers} {moved} l f P =
    let g : (i : ℕ) → 4 ≤ i → get_or moved i 0 ≡ get_or numbers i 0 = λ i h. f i (λ (e : i ≡ 2). omega arith) (λ (e : i ≡ 3). omega arith) in
    record {
      long = omega (arith, l, P.long);
      wide = P.wide;
      count = f 1 (λ (e : ◌≡◌ {A = ℕ} 1 2). omega arith) (λ (e : ◌≡◌ {A = ℕ} 1 3). omega arith) ∙ P.count;
      channels = g 4 (omega arith) ∙ P.channels;
      scales = λ ch h. g (5 + ch) (omega arith) ∙ P.scales ch h;
      predicates = λ p h. rw (g (13 + 2 * p + 1) (omega arith), g (13 + 2 * p) (omega arith)) (P.predicates p h);
      nodes = λ k h. read_alike moved numbers (NODES_AT + WIDTH * k) (NODES_AT + WIDTH * k) (λ b u. g (NODES_AT + WIDTH * k + b) (omega arith)) ∙ P.nodes k h;
    }

module _ {numbers : List ℕ} {cells : List ℤ} {t : Table} {c : Card} (r : Row) (W : Watches numbers cells t c) (e : offer_refusal c t r ≡ 0) where
  none : first (making_checks c t) ≡ 0
  none = (first_of_whole (making_checks c t) (row_checks c r) tt e).0

  K : Kept numbers cells t c
  K = kept_is W none

  abbrev longer : Card
  longer = with_row c r

  abbrev pub opened : List ℕ
  opened = begun r.time numbers

  opening_is : eqb (get_or numbers 3 0) 0 ≡ eqb (rows c) 0
  opening_is = no_row_yet K

  -- the first time of the longer recording
  start_is : get_or opened 2 0 ≡ time longer 0
  start_is = begun_start numbers r.time W.long ∙ go (rows c) refl
    where
      go : (n : ℕ) → n ≡ rows c → cond (eqb (get_or numbers 3 0) 0) r.time (get_or numbers 2 0) ≡ time longer 0
      go zero z = let o : eqb (get_or numbers 3 0) 0 ≡ true = opening_is ∙ ap (λ (x : ℕ). eqb x 0) (sym z) in rw o (sym (rw (sym z) at (time_newest c r)))
      go (suc n) z = let o : eqb (get_or numbers 3 0) 0 ≡ false = opening_is ∙ ne_eqb (rows c) 0 (λ (x : rows c ≡ 0). omega arith) in rw o (K.clock.start ∙ sym (time_before c r 0 (omega arith)))

  few : t.count ≤ NODES
  few = ((made c t none).each 0 (omega arith)).0.few_nodes

  pub counted : min (get_or opened 1 0) NODES ≡ t.count
  counted = let k = begun_other numbers r.time 1 (λ (x : ◌≡◌ {A = ℕ} 1 2). omega arith) ∙ K.planned.count in omega (arith, k, few)

  pub arriving : Arriving r.values (eqb (get_or numbers 3 0) 0) (r.time - get_or opened 2 0) t c r
  arriving =
      let m = made c t none in
      record {
        ruled = (m.each 0 (omega arith)).0;
        named = (m.each 0 (omega arith)).1;
        unnested = m.each 3 (omega arith);
        fits = K.fits;
        fits_next = fits_next c t r K.fits e;
        values_are = refl;
        fitting = (offered c t r e).each 4 (omega arith);
        opening_is = opening_is;
        since_is = ap (λ (x : ℕ). r.time - x) start_is;
      }

  pub untaken : Taking opened cells t c r 0
  untaken = record { planned = planned_same (begun_long numbers r.time) (λ i a b. begun_other numbers r.time i a) K.planned; done = λ q h. absurd (omega arith); waiting = λ q a h. K.each q h }

  -- ---- the numbers afterwards
  module _ (later : ℕ) (later_is : later ≡ r.time + 1) where
    abbrev moved : List ℕ
    moved = set opened 3 later

    moved_long : length moved ≡ length numbers
    moved_long = length-set opened 3 later ∙ begun_long numbers r.time

    next_is : later ≡ next_time longer
    next_is =
        let z : eqb (rows longer) 0 ≡ false = ne_eqb (rows longer) 0 (λ (x : rows longer ≡ 0). omega (arith, rows_next c r)) in
        let n : rows longer - 1 ≡ rows c = omega (arith, rows_next c r) in
        rw (z, n) (later_is ∙ rw (time_newest c r) (omega arith))

    head_is : (i : ℕ) → i < 5 → get_or moved i 0 ≡ get_or (head_of t longer) i 0
    head_is zero h = get_or-set_other opened 3 0 later 0 (λ (x : ◌≡◌ {A = ℕ} 0 3). omega arith) ∙ begun_other numbers r.time 0 (λ (x : ◌≡◌ {A = ℕ} 0 2). omega arith) ∙ W.numbers_are 0 (omega arith) ∙ head_at t c 0 (omega arith) ∙ making_same c t r
    head_is (suc zero) h = get_or-set_other opened 3 1 later 0 (λ (x : ◌≡◌ {A = ℕ} 1 3). omega arith) ∙ begun_other numbers r.time 1 (λ (x : ◌≡◌ {A = ℕ} 1 2). omega arith) ∙ K.planned.count
    head_is (suc (suc zero)) h = get_or-set_other opened 3 2 later 0 (λ (x : ◌≡◌ {A = ℕ} 2 3). omega arith) ∙ start_is
    head_is (suc (suc (suc zero))) h = get_or-set_same opened 3 later 0 (omega (arith, begun_long numbers r.time, W.long)) ∙ next_is
    head_is (suc (suc (suc (suc zero)))) h = get_or-set_other opened 3 4 later 0 (λ (x : ◌≡◌ {A = ℕ} 4 3). omega arith) ∙ begun_other numbers r.time 4 (λ (x : ◌≡◌ {A = ℕ} 4 2). omega arith) ∙ K.planned.channels
    head_is (suc (suc (suc (suc (suc i))))) h = absurd (omega arith)

    numbers_moved : (i : ℕ) → i < NUMBERS → get_or moved i 0 ≡ get_or (watch_numbers t longer) i 0
    numbers_moved i h = elim (dec_lt i 5) [
      | yes a ↦ head_is i a ∙ sym (head_at t longer i a)
      | no a ↦
          let z : i ≡ 5 + (i - 5) = omega arith in
          get_or-set_other opened 3 i later 0 (λ (x : i ≡ 3). omega arith) ∙ begun_other numbers r.time i (λ (x : i ≡ 2). omega arith) ∙ W.numbers_are i h
          ∙ ap (λ (m : ℕ). get_or (watch_numbers t c) m 0) z ∙ plan_at t c (i - 5) ∙ sym (plan_at t longer (i - 5)) ∙ ap (λ (m : ℕ). get_or (watch_numbers t longer) m 0) (sym z)
    ]

    -- ---- the cells afterwards
    module _ {after : List ℤ} (D : Taking opened after t c r t.count) (B : SameBeyond cells after) where
      no_node : (d : Card) (part q : ℕ) → t.count ≤ q → cell_of t d part q ≡ pos 0
      no_node d part q h = rw (le-ltb q t.count h) (never (leb 1 (rows d)) (part_of d (tree t.nodes q) part))
        where
          never : (b : Bool) (x : ℤ) → cond (b && false) x (pos 0) ≡ pos 0
          never true x = refl
          never false x = refl

      held_after : (part q : ℕ) → part < 3 → q < NODES → get_or after (HELD_AT + NODES * part + q) (pos 0) ≡ cell_of t longer part q
      held_after part q h l = elim (dec_lt q t.count) [
        | yes a ↦ (D.done q a).each part h
        | no a ↦ (D.waiting q (omega arith) l).each part h ∙ no_node c part q (omega arith) ∙ sym (no_node longer part q (omega arith))
      ]

      cells_after : (i : ℕ) → i < CELLS → get_or after i (pos 0) ≡ get_or (watch_cells t longer) i (pos 0)
      cells_after i h = elim (dec_lt i 32) [
        | yes a ↦ B.same i (λ x y. omega arith) ∙ W.cells_are i h ∙ end_at t c W.predicates_are i a ∙ sym (end_at t longer W.predicates_are i a)
        | no a ↦
            let g = of_node i (omega arith) h in
            ap (λ (m : ℕ). get_or after m (pos 0)) g.at
            ∙ held_after g.part g.node g.few g.small
            ∙ sym (cell_at t longer W.predicates_are g.part g.node g.few g.small)
            ∙ ap (λ (m : ℕ). get_or (watch_cells t longer) m (pos 0)) (sym g.at)
      ]

      pub longer_watches : Watches moved after t longer
      longer_watches = record {
        long = omega (arith, moved_long, W.long);
        wide = D.planned.wide;
        numbers_are = numbers_moved;
        cells_are = cells_after;
        nodes_are = W.nodes_are;
        predicates_are = W.predicates_are;
        fits = λ z. fits_next c t r K.fits e;
      }
