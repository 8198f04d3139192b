-- Slices that hold a watch may be longer: what is said of their first places is said of them, and the places behind keep their contents.
-- Assumes nothing.
use mathlib.Core.Path.{◌≡◌, sym, ap, ◌∙◌}
use mathlib.Core.List.{List, ◌++◌}
use Prim.Native.Nat.{ℕ, ◌+◌, ◌-◌, ◌*◌, ◌≤◌, ◌<◌}
use native.Mathlib.Omega.{arith}
use native.Mathlib.Decide.{dec_lt}
use lib.ListN.{length, get_or, take, drop, length-append, length-take, length-drop, get_or-append}
use Rattle.std.proofs.lemmas.List.{get_or-append-add, get_or-take, get_or-drop}
use lib.IntN.{ℤ, pos}
use Rattle.recordings.specs.declared.Setup.{Setup}
use Rattle.recordings.specs.Card.{Card}
use Rattle.tables.specs.declared.Table.{Table}
use Rattle.tables.specs.Tree.{NODES}
use Rattle.building.proofs.Cells.{read_alike}
use Rattle.arrivals.specs.Arrivals.{Row}
use Rattle.watch_cells.specs.State.{HELD_AT, NUMBERS, CELLS, predicate_in, Planned, Held}
use Rattle.watch_cells.specs.Taking.{SameBeyond, Taking}

module _ (a b : List ℕ) (x y : List ℤ) (long : NUMBERS ≤ length b) (wide : CELLS ≤ length y)
    (numbers_same : (i : ℕ) → i < NUMBERS → get_or b i 0 ≡ get_or a i 0) (cells_same : (i : ℕ) → i < CELLS → get_or y i (pos 0) ≡ get_or x i (pos 0)) where
  held_alike : {t : Table} {c : Card} (q : ℕ) → q < NODES → Held x t c q → Held y t c q
  held_alike q l h = record { each = λ part p. cells_same (HELD_AT + NODES * part + q) (omega arith) ∙ h.each part p }

  predicate_alike : (p : ℕ) → p < 16 → predicate_in b y p ≡ predicate_in a x p
  predicate_alike p h =
      rw (numbers_same (13 + 2 * p + 1) (omega arith), numbers_same (13 + 2 * p) (omega arith), cells_same (2 * p) (omega arith), cells_same (2 * p + 1) (omega arith))

  planned_alike : {t : Table} {s : Setup} → Planned a x t s → Planned b y t s
  planned_alike P = record {
    long = long;
    wide = wide;
    count = numbers_same 1 (omega arith) ∙ P.count;
    channels = numbers_same 4 (omega arith) ∙ P.channels;
    scales = λ ch h. numbers_same (5 + ch) (omega arith) ∙ P.scales ch h;
    predicates = λ p h. predicate_alike p h ∙ P.predicates p h;
    nodes = λ k h. read_alike b a (45 + 7 * k) (45 + 7 * k) (λ f l. numbers_same (45 + 7 * k + f) (omega arith)) ∙ P.nodes k h;
  }

  taking_alike : {t : Table} {c : Card} {r : Row} (k : ℕ) → k ≤ NODES → Taking a x t c r k → Taking b y t c r k
  taking_alike k l K = record {
    planned = planned_alike K.planned;
    done = λ q h. held_alike q (omega arith) (K.done q h);
    waiting = λ q h g. held_alike q g (K.waiting q h g);
  }

pub chunk_long : (cells x : List ℤ) → CELLS ≤ length cells → x ≡ take CELLS cells → length x ≡ CELLS
chunk_long cells x l e = rw (e, length-take) (omega arith)

module _ (numbers : List ℕ) (cells : List ℤ) (long : NUMBERS ≤ length numbers) (wide : CELLS ≤ length cells)
    {n : List ℕ} {x : List ℤ} (n-is : n ≡ take NUMBERS numbers) (x-is : x ≡ take CELLS cells) where
  front_number : (i : ℕ) → i < NUMBERS → get_or n i 0 ≡ get_or numbers i 0
  front_number i h = rw n-is (get_or-take NUMBERS numbers i 0 h)

  front_cell : (i : ℕ) → i < CELLS → get_or x i (pos 0) ≡ get_or cells i (pos 0)
  front_cell i h = rw x-is (get_or-take CELLS cells i (pos 0) h)

  -- before the row
  pub narrowed : {t : Table} {c : Card} {r : Row} (k : ℕ) → k ≤ NODES → Taking numbers cells t c r k → Taking n x t c r k
  narrowed k l K = taking_alike numbers n cells x (rw n-is (rw length-take (omega arith))) (rw x-is (rw length-take (omega arith))) front_number front_cell k l K

  -- what was written into the first places
  module _ (y : List ℤ) (y-long : length y ≡ CELLS) where
    written_cell : (i : ℕ) → i < CELLS → get_or (y ++ drop CELLS cells) i (pos 0) ≡ get_or y i (pos 0)
    written_cell i h = get_or-append y (drop CELLS cells) (pos 0) i (omega arith)

    -- after it
    pub widened : {t : Table} {c : Card} {r : Row} (k : ℕ) → k ≤ NODES → Taking n y t c r k → Taking numbers (y ++ drop CELLS cells) t c r k
    widened k l K = taking_alike n numbers y (y ++ drop CELLS cells) long (rw (length-append, length-drop) (omega arith)) (λ i h. sym (front_number i h)) written_cell k l K

    pub beyond_widened : SameBeyond x y → SameBeyond cells (y ++ drop CELLS cells)
    beyond_widened B = record { same = λ i h. go i h (dec_lt i CELLS) }
      where
        go : (i : ℕ) → (HELD_AT ≤ i → i < CELLS → ⊥) → Dec (i < CELLS) → get_or (y ++ drop CELLS cells) i (pos 0) ≡ get_or cells i (pos 0)
        go i h (yes l) = written_cell i l ∙ (B.same i h ∙ front_cell i l)
        go i h (no l) =
            let e : i ≡ length y + (i - CELLS) = omega arith in
            let f : CELLS + (i - CELLS) ≡ i = omega arith in
            ap (λ (m : ℕ). get_or (y ++ drop CELLS cells) m (pos 0)) e ∙ get_or-append-add y (drop CELLS cells) (i - CELLS) (pos 0)
            ∙ get_or-drop CELLS cells (i - CELLS) (pos 0) ∙ ap (λ (m : ℕ). get_or cells m (pos 0)) f
