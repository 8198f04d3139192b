-- Node k writes its own cells alone: then no other node's cells, and nothing of the table and the setup, has moved, and what is left to show is what its own three hold.
-- Assumes nothing.
use mathlib.Core.Path.{◌≡◌, sym, ap, ap₂, ◌∙◌, subst}
use mathlib.Core.List.{List}
use Prim.Native.Nat.{ℕ, zero, suc, ◌+◌, ◌-◌, ◌*◌, ◌≤◌, ◌<◌}
use native.Mathlib.Omega.{arith}
use native.Mathlib.Decide.{ℕ_discrete}
use lib.ListN.{length, get_or, set, length-set}
use lib.Seq.{get_or-set_same, get_or-set_other}
use lib.IntN.{ℤ, pos}
use borrow.Author.Tests.{le-leb, lt-ltb}
use Rattle.recordings.specs.declared.Range.{Range}
use Rattle.recordings.specs.declared.Setup.{Setup}
use Rattle.recordings.specs.Card.{Card, rows}
use Rattle.recordings.specs.Margin.{margin}
use Rattle.tables.specs.declared.Table.{Table}
use Rattle.tables.specs.Tree.{NODES, tree}
use Rattle.flat.specs.Predicates.{range_from}
use Rattle.arrivals.specs.Arrivals.{Row, with_row}
use Rattle.watch_cells.specs.State.{HELD_AT, predicate_in, held_in, carried_by, part_of, cell_of, Planned, Held}
use Rattle.watch_cells.specs.Taking.{SameBeyond, Taking}

-- ---- node k's own cells alone are written
pub record Only (before after : List ℤ) (k : ℕ) : Type 0 where
  pub long : length after ≡ length before
  pub same : (i : ℕ) → ((part : ℕ) → part < 3 → i ≡ HELD_AT + NODES * part + k → ⊥) → get_or after i (pos 0) ≡ get_or before i (pos 0)

pub only_one : (cells : List ℤ) (k part : ℕ) (x : ℤ) → part < 3 → Only cells (set cells (HELD_AT + NODES * part + k) x) k
only_one cells k part x h = record { long = rw length-set; same = λ i f. get_or-set_other cells (HELD_AT + NODES * part + k) i x (pos 0) (f part h) }

pub only_then : {a b c : List ℤ} {k : ℕ} → Only a b k → Only b c k → Only a c k
only_then A B = record { long = B.long ∙ A.long; same = λ i f. B.same i f ∙ A.same i f }

module _ (cells : List ℤ) (k part : ℕ) (x : ℤ) where
  pub set_same : HELD_AT + NODES * part + k < length cells → held_in (set cells (HELD_AT + NODES * part + k) x) k part ≡ x
  set_same l = get_or-set_same cells (HELD_AT + NODES * part + k) x (pos 0) l

  pub set_other : (p : ℕ) → (p ≡ part → ⊥) → held_in (set cells (HELD_AT + NODES * part + k) x) k p ≡ held_in cells k p
  set_other p h = get_or-set_other cells (HELD_AT + NODES * part + k) (HELD_AT + NODES * p + k) x (pos 0) (λ (e : HELD_AT + NODES * p + k ≡ HELD_AT + NODES * part + k). h (omega arith))

-- the first two of its cells
module _ (cells : List ℤ) (k : ℕ) (x y : ℤ) where
  abbrev pub stored_two : List ℤ
  stored_two = set (set cells (HELD_AT + NODES * 0 + k) x) (HELD_AT + NODES * 1 + k) y

  pub two_only : Only cells stored_two k
  two_only = only_then (only_one cells k 0 x (omega arith)) (only_one (set cells (HELD_AT + NODES * 0 + k) x) k 1 y (omega arith))

  pub two_first : HELD_AT + NODES * 0 + k < length cells → held_in stored_two k 0 ≡ x
  two_first l = set_other (set cells (HELD_AT + NODES * 0 + k) x) k 1 y 0 (λ (e : ◌≡◌ {A = ℕ} 0 1). omega arith) ∙ set_same cells k 0 x l

  pub two_second : HELD_AT + NODES * 1 + k < length cells → held_in stored_two k 1 ≡ y
  two_second l = set_same (set cells (HELD_AT + NODES * 0 + k) x) k 1 y (rw length-set l)

  pub two_third : held_in stored_two k 2 ≡ held_in cells k 2
  two_third = set_other (set cells (HELD_AT + NODES * 0 + k) x) k 1 y 2 (λ (e : ◌≡◌ {A = ℕ} 2 1). omega arith) ∙ set_other cells k 0 x 2 (λ (e : ◌≡◌ {A = ℕ} 2 0). omega arith)

-- and all three
module _ (cells : List ℤ) (k : ℕ) (x y z : ℤ) where
  abbrev pub stored_three : List ℤ
  stored_three = set (stored_two cells k x y) (HELD_AT + NODES * 2 + k) z

  pub three_only : Only cells stored_three k
  three_only = only_then (two_only cells k x y) (only_one (stored_two cells k x y) k 2 z (omega arith))

  pub three_first : HELD_AT + NODES * 0 + k < length cells → held_in stored_three k 0 ≡ x
  three_first l = set_other (stored_two cells k x y) k 2 z 0 (λ (e : ◌≡◌ {A = ℕ} 0 2). omega arith) ∙ two_first cells k x y l

  pub three_second : HELD_AT + NODES * 1 + k < length cells → held_in stored_three k 1 ≡ y
  three_second l = set_other (stored_two cells k x y) k 2 z 1 (λ (e : ◌≡◌ {A = ℕ} 1 2). omega arith) ∙ two_second cells k x y l

  pub three_third : HELD_AT + NODES * 2 + k < length cells → held_in stored_three k 2 ≡ z
  three_third l = set_same (stored_two cells k x y) k 2 z (rw (length-set, length-set) l)

module _ {cells after : List ℤ} {k : ℕ} (O : Only cells after k) (hk : k < NODES) where
  other_node : (j part : ℕ) → part < 3 → j < NODES → (j ≡ k → ⊥) → held_in after j part ≡ held_in cells j part
  other_node j part h b a = O.same (HELD_AT + NODES * part + j) (λ p l (e : HELD_AT + NODES * part + j ≡ HELD_AT + NODES * p + k). a (omega arith))

  end_kept : (i : ℕ) → i < 32 → get_or after i (pos 0) ≡ get_or cells i (pos 0)
  end_kept i h = O.same i (λ p l (e : i ≡ HELD_AT + NODES * p + k). omega arith)

  pub beyond_kept : SameBeyond cells after
  beyond_kept = record { same = λ i f. O.same i (λ p l (e : i ≡ HELD_AT + NODES * p + k). f (omega arith) (omega arith)) }

  held_kept : {t : Table} {d : Card} (j : ℕ) → j < NODES → (j ≡ k → ⊥) → Held cells t d j → Held after t d j
  held_kept j b a h = record { each = λ part p. other_node j part p b a ∙ h.each part p }

  planned_kept : {numbers : List ℕ} {t : Table} {s : Setup} → Planned numbers cells t s → Planned numbers after t s
  planned_kept {numbers} P = record {
    long = P.long;
    wide = rw O.long P.wide;
    count = P.count;
    channels = P.channels;
    scales = P.scales;
    predicates = λ i h. ap (λ (g : Range). record { channel = (predicate_in numbers cells i).channel; range = g }) (ap₂ (range_from (get_or numbers (13 + 2 * i) 0)) (end_kept (2 * i) (omega arith)) (end_kept (2 * i + 1) (omega arith))) ∙ P.predicates i h;
    nodes = P.nodes;
  }

  -- so the node's own values are all that is left to show
  pub next : {numbers : List ℕ} {t : Table} {c : Card} {r : Row} → t.count ≤ NODES → k < t.count → Taking numbers cells t c r k → Held after t (with_row c r) k → Taking numbers after t c r (suc k)
  next {t = t} {c = c} {r = r} few small K D = record {
    planned = planned_kept K.planned;
    done = λ j h. elim (ℕ_discrete j k) [
      | yes e ↦ subst (Held after t (with_row c r)) (sym e) D
      | no e ↦ held_kept j (omega arith) e (K.done j (omega arith))
    ];
    waiting = λ j a b. held_kept j b (λ (e : j ≡ k). omega arith) (K.waiting j (omega arith) b);
  }

-- ---- what a node's cells are to hold
pub cell_is : (t : Table) (d : Card) (part q : ℕ) → 1 ≤ rows d → q < t.count → cell_of t d part q ≡ part_of d (tree t.nodes q) part
cell_is t d part q some few = rw (le-leb 1 (rows d) some, lt-ltb q t.count few)

pub three_parts : {cells : List ℤ} {t : Table} {d : Card} {q : ℕ} → 1 ≤ rows d → q < t.count → held_in cells q 0 ≡ margin d (tree t.nodes q) (rows d - 1) → held_in cells q 1 ≡ margin d (tree t.nodes q) 0 → held_in cells q 2 ≡ carried_by d (tree t.nodes q) → Held cells t d q
three_parts {cells} {t} {d} {q} some few a b e = record { each = go }
  where
    go : (part : ℕ) → part < 3 → held_in cells q part ≡ cell_of t d part q
    go zero h = a ∙ sym (cell_is t d 0 q some few)
    go (suc zero) h = b ∙ sym (cell_is t d 1 q some few)
    go (suc (suc zero)) h = e ∙ sym (cell_is t d 2 q some few)
    go (suc (suc (suc part))) h = absurd (omega arith)
