-- What each step of the readers leaves in the cells: a node pushed after its children's nodes makes the cells those of the parent's tree, or more than 64 nodes refuse it.
-- Assumes nothing.
use Rattle.std.specs.Prelude.{Option, Some, None}
use mathlib.Core.Path.{◌≡◌, refl, sym, ap, ◌∙◌}
use mathlib.Core.List.{List, [], ◌∷◌, ◌++◌, append_assoc}
use mathlib.Core.Bool.{true, false}
use Prim.Native.Nat.{ℕ, ◌+◌, ◌-◌, ◌*◌, ◌≤◌, ◌<◌}
use native.Mathlib.Omega.{arith}
use lib.ListN.{length, length-append}
use lib.Seq.{sets}
use lib.Dec.{leb}
use borrow.Author.Tests.{le-leb, lt-leb}
use Rattle.text.specs.Bytes.{bytes}
use Rattle.text.specs.Mark.{mark_at, after}
use Rattle.text.specs.Number.{field_at}
use Rattle.text.specs.declared.Field.TheVariants.{Number, Bad as Field_as_Bad}
use Rattle.text.proofs.Tests.{by_le}
use Rattle.tables.specs.declared.Node.{Node}
use Rattle.tables.specs.Tree.{NODES, no_span}
use Rattle.tables.specs.declared.Span.{Span}
use Rattle.tables.specs.Kind.{true_kind, predicate_kind}
use Rattle.grammar.specs.Operators.{letter}
use Rattle.grammar.specs.Tree.{Tree, truth, predicate, one, two, size}
use Rattle.grammar.specs.Reading.{Reading, got, none, on_got, closing, leaf_at}
use Rattle.building.specs.declared.Subtree.{Subtree}
use Rattle.building.specs.Nodes.{node, nodes_of}
use Rattle.building.specs.Storing.{read_part, cells_of, step_of, leaf_cells, Wrote, Done, pushed_step, pushed_cells, parent_step, wrap_cells, join_cells, closed_step, WIDTH}
use Rattle.building.proofs.Cells.{length_nodes, sets_nodes}

-- ---- steps and readings

step_small : (o : ℕ) (a : Tree) (n : ℕ) → o + size a ≤ NODES → step_of o (got a n) ≡ read_part n (o + size a - 1) (o + size a)
unfolding step_of
step_small o a n h = rw (le-leb (o + size a) NODES h)

pub step_big : (o : ℕ) (a : Tree) (n : ℕ) → NODES < o + size a → step_of o (got a n) ≡ None
unfolding step_of
step_big o a n h = rw (lt-leb (o + size a) NODES h)

pub step_none : (o : ℕ) → step_of o none ≡ None
unfolding step_of
step_none o = refl

refused_read : {e r f : ℕ} → None ≡ read_part e r f → ⊥
refused_read h = cc

-- a tree that is refused for its size, or none
pub refused_big : (o : ℕ) (a : Tree) (n : ℕ) → step_of o (got a n) ≡ None → NODES < o + size a
refused_big o a n h = by_le (o + size a) NODES (λ l. absurd (refused_read (sym h ∙ step_small o a n l))) (λ l. l)

-- what a reading is that was not refused
pub record ReadIs (o : ℕ) (x : Reading) (e r f : ℕ) : Type 0 where
  pub tree : Tree
  pub reading : x ≡ got tree e
  pub fits : o + size tree ≤ NODES
  pub root : r ≡ o + size tree - 1
  pub free : f ≡ o + size tree

pub read_is : (o : ℕ) (x : Reading) (e r f : ℕ) → step_of o x ≡ read_part e r f → ReadIs o x e r f
read_is o none e r f h = absurd (refused_read (sym (step_none o) ∙ h))
read_is o (got a n) e r f h =
    by_le (o + size a) NODES
    (λ l.
    let s : read_part n (o + size a - 1) (o + size a) ≡ read_part e r f = sym (step_small o a n l) ∙ h in
    record {
      tree = a;
      reading = ap (λ (y : Option Subtree). got a (after y (λ x. x.end) 0)) s;
      fits = l;
      root = ap (λ (y : Option Subtree). after y (λ x. x.root) 0) (sym s);
      free = ap (λ (y : Option Subtree). after y (λ x. x.free) 0) (sym s);
    })
    (λ l. absurd (refused_read (sym (step_big o a n l) ∙ h)))

-- a refused reading is done, whatever the cells hold
pub refused_done : (o : ℕ) (x : Reading) (before final : List ℕ) → step_of o x ≡ None → Done o x None before final
unfolding Wrote
refused_done o none before final h = record { step = sym h; cells = tt }
refused_done o (got a n) before final h =
    record { step = sym h; cells = λ l. absurd (refused_read (sym h ∙ step_small o a n l)) }

pub done_as : (o : ℕ) (x y : Reading) (r : Option Subtree) (before final : List ℕ) → x ≡ y → Done o x r before final → Done o y r before final
done_as o x y r before final e d = rw e at d

-- ---- a parent after its children's nodes us

parent_done : (o m : ℕ) (us : List Node) (x : Node) (b : Tree) (e : ℕ) (r : Option Subtree) (before mid final : List ℕ) → length us ≡ m → size b ≡ m + 1
    → nodes_of o b ≡ us ++ (x ∷ []) → mid ≡ sets before (WIDTH * o) (cells_of us) → r ≡ pushed_step (o + m) e → final ≡ pushed_cells (o + m) x mid
    → Done o (got b e) r before final
unfolding Wrote cells_of
parent_done o m us x b e r before mid final l z w h p q = by_le (o + m + 1) NODES small big
  where
    small : o + m + 1 ≤ NODES → Done o (got b e) r before final
    small g =
        let t : leb NODES (o + m) ≡ false = lt-leb NODES (o + m) (omega arith) in
        let root : o + m ≡ o + size b - 1 = omega arith in
        let free : o + m + 1 ≡ o + size b = omega arith in
        let r1 : r ≡ read_part e (o + m) (o + m + 1) = rw t at p in
        let a1 : final ≡ sets mid (WIDTH * (o + m)) (cells_of (x ∷ [])) = rw t at q in
        let same : read_part e (o + m) (o + m + 1) ≡ read_part e (o + size b - 1) (o + size b) = cc in
        record {
          step = r1 ∙ (same ∙ sym (step_small o b e (omega arith)));
          cells = λ _. a1 ∙ (rw h (sets_nodes before o m us (x ∷ []) l) ∙ ap (λ (ns : List Node). sets before (WIDTH * o) (cells_of ns)) (sym w));
        }

    big : NODES < o + m + 1 → Done o (got b e) r before final
    big g =
        let t : leb NODES (o + m) ≡ true = le-leb NODES (o + m) (omega arith) in
        let r1 : r ≡ None = rw t at p in
        rw r1 (refused_done o (got b e) before final (step_big o b e (omega arith)))

-- what a step is whose reading is refused, and whose reading has room
parent_refused : (o : ℕ) (x y : Reading) (i r : Option Subtree) (before mid final : List ℕ) → Done o x i before mid → step_of o x ≡ None → r ≡ parent_step i → step_of o y ≡ None
    → Done o y r before final
parent_refused o x y i r before mid final d h p q =
    let e : i ≡ None = d.step ∙ h in
    let f : r ≡ None = rw e at p in
    rw f (refused_done o y before final q)

pub cells_small : (o : ℕ) (a : Tree) (n : ℕ) (i : Option Subtree) (before mid : List ℕ) → Done o (got a n) i before mid → o + size a ≤ NODES → mid ≡ sets before (WIDTH * o) (cells_of (nodes_of o a))
unfolding Wrote
cells_small o a n i before mid d h = d.cells h

-- the parent of one reading
pub one_done : (o k : ℕ) (w : Span) (x : Reading) (i r : Option Subtree) (before mid final : List ℕ) → Done o x i before mid
    → r ≡ parent_step i → final ≡ wrap_cells k w i mid → Done o (on_got x (λ a e. got (one k w a) e)) r before final
unfolding size nodes_of
one_done o k w none i r before mid final d p q = parent_refused o none none i r before mid final d (step_none o) p (step_none o)
one_done o k w (got a e) i r before mid final d p q = by_le (o + size a) NODES small big
  where
    small : o + size a ≤ NODES → Done o (got (one k w a) e) r before final
    small h =
        let f : i ≡ read_part e (o + size a - 1) (o + size a) = d.step ∙ step_small o a e h in
        parent_done o (size a) (nodes_of o a) (node k (o + size a - 1) 0 w) (one k w a) e r before mid final (length_nodes o a) refl refl
        (cells_small o a e i before mid d h) (rw f at p) (rw f at q)

    big : NODES < o + size a → Done o (got (one k w a) e) r before final
    big h = parent_refused o (got a e) _ i r before mid final d (step_big o a e h) p (step_big o (one k w a) e (omega arith))

-- the parent of a left reading, whose nodes stand, and of the reading after it
pub two_done : (o k : ℕ) (w : Span) (a : Tree) (y : Reading) (j r : Option Subtree) (before mid later final : List ℕ) → o + size a ≤ NODES
    → mid ≡ sets before (WIDTH * o) (cells_of (nodes_of o a)) → Done (o + size a) y j mid later → r ≡ parent_step j → final ≡ join_cells k w (o + size a - 1) j later
    → Done o (on_got y (λ b e. got (two k w a b) e)) r before final
unfolding size nodes_of
two_done o k w a none j r before mid later final l c d p q =
    let e : j ≡ None = d.step ∙ step_none (o + size a) in
    let f : r ≡ None = rw e at p in
    rw f (refused_done o none before final (step_none o))
two_done o k w a (got b n) j r before mid later final l c d p q = by_le (o + size a + size b) NODES small big
  where
    small : o + size a + size b ≤ NODES → Done o (got (two k w a b) n) r before final
    small h =
        let f : j ≡ read_part n (o + size a + size b - 1) (o + size a + size b) = d.step ∙ step_small (o + size a) b n h in
        let g : o + size a + size b ≡ o + (size a + size b) = omega arith in
        let us = nodes_of o a ++ nodes_of (o + size a) b in
        let m : later ≡ sets before (WIDTH * o) (cells_of us) =
        cells_small (o + size a) b n j mid later d h ∙ rw c (sets_nodes before o (size a) (nodes_of o a) (nodes_of (o + size a) b) (length_nodes o a)) in
        let r1 : r ≡ pushed_step (o + size a + size b) n = rw f at p in
        let a1 : final ≡ pushed_cells (o + size a + size b) (node k (o + size a - 1) (o + size a + size b - 1) w) later = rw f at q in
        parent_done o (size a + size b) us (node k (o + size a - 1) (o + size a + size b - 1) w) (two k w a b) n r before later final
        (rw (length-append, length_nodes o a, length_nodes (o + size a) b)) refl
        (sym (append_assoc (nodes_of o a) (nodes_of (o + size a) b) (node k (o + size a - 1) (o + size a + size b - 1) w ∷ [])))
        m (r1 ∙ ap (λ (c : ℕ). pushed_step c n) g) (a1 ∙ ap (λ (c : ℕ). pushed_cells c (node k (o + size a - 1) (o + size a + size b - 1) w) later) g)

    big : NODES < o + size a + size b → Done o (got (two k w a b) n) r before final
    big h =
        let e : j ≡ None = d.step ∙ step_big (o + size a) b n h in
        let f : r ≡ None = rw e at p in
        rw f (refused_done o (got (two k w a b) n) before final (step_big o (two k w a b) n (omega arith)))

-- a reading and its closing parenthesis
pub close_done : (o : ℕ) (s : List ℕ) (x : Reading) (i r : Option Subtree) (before final : List ℕ) → Done o x i before final → r ≡ closed_step s i → Done o (closing s x) r before final
close_done o s none i r before final d p =
    let e : i ≡ None = d.step ∙ step_none o in
    let f : r ≡ None = rw e at p in
    rw f (refused_done o none before final (step_none o))
close_done o s (got a n) i r before final d p = by_le (o + size a) NODES (λ h. small h (mark_at (bytes ")") s n) refl) (λ h. big h (mark_at (bytes ")") s n) refl)
  where
    moved : (m : ℕ) → Wrote o (got a n) before final → Wrote o (got a m) before final
    moved m w = unfold Wrote in w

    small : o + size a ≤ NODES → (m : Option ℕ) → mark_at (bytes ")") s n ≡ m → Done o (after m (λ e. got a e) none) r before final
    small h (Some m) e =
        let f : i ≡ read_part n (o + size a - 1) (o + size a) = d.step ∙ step_small o a n h in
        let g : r ≡ read_part m (o + size a - 1) (o + size a) = rw (f, e) at p in
        record { step = g ∙ sym (step_small o a m h); cells = moved m d.cells }
    small h None e =
        let f : i ≡ read_part n (o + size a - 1) (o + size a) = d.step ∙ step_small o a n h in
        let g : r ≡ None = rw (f, e) at p in
        rw g (refused_done o none before final (step_none o))

    refused : NODES < o + size a → r ≡ None
    refused h = let f : i ≡ None = d.step ∙ step_big o a n h in rw f at p

    big : NODES < o + size a → (m : Option ℕ) → mark_at (bytes ")") s n ≡ m → Done o (after m (λ e. got a e) none) r before final
    big h (Some m) e = rw (refused h) (refused_done o (got a m) before final (step_big o a m h))
    big h None e = rw (refused h) (refused_done o none before final (step_none o))

-- ---- leaves

pub stored_done : (o : ℕ) (x : Reading) (r : Option Subtree) (before final : List ℕ) → r ≡ step_of o x → final ≡ leaf_cells o x before → Done o x r before final
unfolding Wrote leaf_cells
stored_done o none r before final p q = record { step = p; cells = tt }
stored_done o (got a n) r before final p q = record { step = p; cells = λ l. q ∙ rw (le-leb (o + size a) NODES l) refl }

node_stored : (o : ℕ) (a : Tree) (x : Node) (n : ℕ) (r : Option Subtree) (before final : List ℕ) → size a ≡ 1 → nodes_of o a ≡ x ∷ [] → r ≡ pushed_step o n → final ≡ pushed_cells o x before
    → (r ≡ step_of o (got a n)) × (final ≡ leaf_cells o (got a n) before)
unfolding leaf_cells cells_of
node_stored o a x n r before final z w p q = by_le (o + 1) NODES small big
  where
    small : o + 1 ≤ NODES → (r ≡ step_of o (got a n)) × (final ≡ leaf_cells o (got a n) before)
    small h =
        let t : leb NODES o ≡ false = lt-leb NODES o (omega arith) in
        let g : o + size a ≤ NODES = omega arith in
        let root : o ≡ o + size a - 1 = omega arith in
        let free : o + 1 ≡ o + size a = omega arith in
        let same : read_part n o (o + 1) ≡ read_part n (o + size a - 1) (o + size a) = cc in
        ((rw t at p) ∙ (same ∙ sym (step_small o a n g)), (rw t at q) ∙ rw (le-leb (o + size a) NODES g, w) refl)

    big : NODES < o + 1 → (r ≡ step_of o (got a n)) × (final ≡ leaf_cells o (got a n) before)
    big h =
        let t : leb NODES o ≡ true = le-leb NODES o (omega arith) in
        let g : NODES < o + size a = omega arith in
        ((rw t at p) ∙ sym (step_big o a n g), (rw t at q) ∙ rw (lt-leb (o + size a) NODES g) refl)

module _ (o : ℕ) (s : List ℕ) (at : ℕ) (r : Option Subtree) (before final : List ℕ) where
  pub true_stored : (n : ℕ) → mark_at (letter true_kind) s at ≡ Some n → r ≡ pushed_step o n → final ≡ pushed_cells o (node true_kind 0 0 no_span) before
      → (r ≡ step_of o (leaf_at s at)) × (final ≡ leaf_cells o (leaf_at s at) before)
  unfolding leaf_at size nodes_of
  true_stored n e p q = rw e (node_stored o truth (node true_kind 0 0 no_span) n r before final refl refl p q)

  pub predicate_stored : (v n : ℕ) → mark_at (letter true_kind) s at ≡ None → field_at (letter predicate_kind) s at 15 ≡ Number v n
      → r ≡ pushed_step o n → final ≡ pushed_cells o (node predicate_kind v 0 no_span) before → (r ≡ step_of o (leaf_at s at)) × (final ≡ leaf_cells o (leaf_at s at) before)
  unfolding leaf_at size nodes_of
  predicate_stored v n e f p q = rw (e, f) (node_stored o (predicate v) (node predicate_kind v 0 no_span) n r before final refl refl p q)

module _ (o : ℕ) (s : List ℕ) (at : ℕ) (cells : List ℕ) where
  pub leaf_refused : mark_at (letter true_kind) s at ≡ None → field_at (letter predicate_kind) s at 15 ≡ Field_as_Bad → (None ≡ step_of o (leaf_at s at)) × (cells ≡ leaf_cells o (leaf_at s at) cells)
  unfolding leaf_at step_of leaf_cells
  leaf_refused e f = rw (e, f) (refl, refl)
