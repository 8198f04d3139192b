-- The answer to a whole text: a refused reading, bytes that are left and a table of more than 64 nodes are refusal 2, and any other reading leaves its table's numbers in the
-- cells, from which the table is read.
-- Assumes nothing.
use Rattle.std.specs.Prelude.{Option, None, Ok, Err}
use Rattle.refusals.specs.declared.Refusal.{Refusal}
use Rattle.refusals.specs.declared.Refusal.TheVariants.{Requirement as Unreadable}
use Rattle.refusals.specs.Number.{number}
use Rattle.refusals.proofs.Number.{not_none}
use mathlib.Core.Path.{◌≡◌, refl, sym, ap, ◌∙◌, subst}
use mathlib.Core.List.{List, ◌++◌}
use Prim.Native.Nat.{ℕ, ◌+◌, ◌-◌, ◌≤◌, ◌<◌}
use native.Mathlib.Nat.{zero-add}
use native.Mathlib.Omega.{arith}
use lib.ListN.{length, replicate, length-append, length-replicate}
use lib.Seq.{sets}
use lib.Dec.{eqb}
use borrow.Author.Tests.{eq-eqb, ne_eqb, le-leb, lt-leb}
use Rattle.tables.specs.declared.Node.{Node}
use Rattle.tables.specs.declared.Table.{Table}
use Rattle.text.proofs.Tests.{by_test}
use Rattle.tables.specs.Tree.{NODES}
use Rattle.grammar.specs.Tree.{Tree, size}
use Rattle.grammar.specs.Grammar.{ENCLOSINGS}
use Rattle.grammar.specs.Reading.{Reading, got, none, alternative_at, whole, requirement_tree}
use Rattle.building.specs.declared.Subtree.{Subtree}
use Rattle.building.specs.Nodes.{empty_node, nodes_of, table_of}
use Rattle.requirements.specs.Requirement.{Requirement, refused, outcome, answer_of, requirement_of, Numbered}
use Rattle.building.specs.Storing.{read_part, CELLS, zeros, cells_of, step_of, Done, nodes_from, table_from}
use Rattle.building.proofs.Cells.{length_nodes, length_cells, whole_cells, table_back}
use Rattle.requirements.proofs.Answers.{answer_sound}
use Rattle.building.proofs.Stores.{refused_big, ReadIs, read_is, done_as, cells_small}

-- the table of a tree's numbers is the tree's table
pub table_again : (a : Tree) → size a ≤ NODES → table_from (cells_of (table_of a).nodes) (size a) ≡ table_of a
table_again a few =
    let n : size a ≡ length (nodes_of 0 a) = sym (length_nodes 0 a) in
    let l : length (nodes_of 0 a) ≤ NODES = rw (length_nodes 0 a) few in
    let c : cells_of (table_of a).nodes ≡ sets zeros 0 (cells_of (nodes_of 0 a)) = rw (length_nodes 0 a) at (whole_cells (nodes_of 0 a) l) in
    let ns : nodes_from (cells_of (table_of a).nodes) (size a) ≡ (table_of a).nodes =
    ap (λ (x : List ℕ). nodes_from x (size a)) c
    ∙ (ap (nodes_from (sets zeros 0 (cells_of (nodes_of 0 a)))) n ∙ (table_back (nodes_of 0 a) l ∙ ap (λ (m : ℕ). nodes_of 0 a ++ replicate (NODES - m) empty_node) (length_nodes 0 a))) in
    rw (le-leb (size a) NODES few) (ap {B = Table} (λ (xs : List Node). record { nodes = xs; count = size a }) ns)

module _ (s : List ℕ) (p : Option Subtree) (cells : List ℕ) (u : Done 0 (alternative_at ENCLOSINGS s 0) p zeros cells) where
  pub whole_refused : p ≡ None → refused ≡ requirement_of s
  unfolding requirement_tree
  whole_refused q = go (alternative_at ENCLOSINGS s 0) (sym u.step ∙ q)
    where
      go : (x : Reading) → step_of 0 x ≡ None → refused ≡ answer_of (whole s x)
      go (got a n) h =
          let l : NODES < 0 + size a = refused_big 0 a n h in
          rw (lt-leb (size a) NODES (omega arith)) (by_test (eqb n (length s)) (λ e. rw e) (λ e. rw e))
      go none h = refl

  module _ (e r f : ℕ) (q : p ≡ read_part e r f) where
    whole_read : ReadIs 0 (alternative_at ENCLOSINGS s 0) e r f
    whole_read = read_is 0 (alternative_at ENCLOSINGS s 0) e r f (sym u.step ∙ q)

    whole_fits : f ≤ NODES
    whole_fits = let i = whole_read in let a = i.fits in let b = i.free in omega arith

    pub whole_part : (e ≡ length s → ⊥) → refused ≡ requirement_of s
    unfolding requirement_tree
    whole_part h = rw (whole_read.reading, ne_eqb e (length s) h)

    small : length (nodes_of 0 whole_read.tree) ≤ NODES
    small = rw (length_nodes 0 whole_read.tree) (let g = whole_read.fits in omega arith)

    kept : cells ≡ sets zeros 0 (cells_of (nodes_of 0 whole_read.tree))
    kept = let i = whole_read in cells_small 0 i.tree e p zeros cells (done_as 0 (alternative_at ENCLOSINGS s 0) (got i.tree e) p zeros cells i.reading u) i.fits

    -- the cells hold the numbers of the tree's table
    whole_numbers : cells ≡ cells_of (table_of whole_read.tree).nodes
    whole_numbers = let a = whole_read.tree in kept ∙ (rw (length_nodes 0 a) at (sym (whole_cells (nodes_of 0 a) small)))

    counted : f ≡ size whole_read.tree
    counted = whole_read.free ∙ zero-add (size whole_read.tree)

    pub whole_read_all : e ≡ length s → Numbered (requirement_of s) (Ok f) cells
    unfolding requirement_tree
    whole_read_all h =
        let i = whole_read in
        rw (i.reading, eq-eqb e (length s) h, le-leb (size i.tree) NODES (let g = i.fits in omega arith))
        (record { refusal = refl; count = counted; numbers = whole_numbers })

-- a text that is refused has no numbers
pub none_numbered : {q : Requirement} (cells : List ℕ) → refused ≡ q → Numbered q (Err Unreadable) cells
none_numbered {q} cells e = rw (← e) (record { refusal = refl; count = tt; numbers = tt })

-- cells that are 0 are those that the reading is said of
pub started : {x : Reading} {p : Option Subtree} {before cells : List ℕ} → before ≡ zeros → Done 0 x p before cells → Done 0 x p zeros cells
started {x} {p} {before} {cells} e u = subst (λ (z : List ℕ). Done 0 x p z cells) e u

-- ---- from the numbers to the table
module _ (s : List ℕ) {cells : List ℕ} where
  pub numbers_refused : (r : Refusal) → Numbered (requirement_of s) (Err r) cells → outcome (Err r) ≡ requirement_of s
  numbers_refused r n = go (requirement_tree s) n.refusal
    where
      go : (x : Reading) → number r ≡ (answer_of x).refusal → outcome (Err r) ≡ answer_of x
      go (got a n) h = absurd (not_none r h)
      go none h = rw h

  module _ (count : ℕ) (n : Numbered (requirement_of s) (Ok count) cells) where
    pub numbers_read : outcome (Ok (table_from cells count)) ≡ requirement_of s
    numbers_read =
        let x = answer_sound s (sym n.refusal) in
        let a = x.0 in
        rw (n.numbers, n.count, x.2) (ap {B = Requirement} (λ (t : Table). record { refusal = 0; table = t }) (table_again a x.1.nodes))

    pub numbers_long : length cells ≡ CELLS
    numbers_long =
        let x = answer_sound s (sym n.refusal) in
        let a = x.0 in
        let e : cells ≡ cells_of (table_of a).nodes = n.numbers ∙ ap (λ (q : Requirement). cells_of q.table.nodes) x.2 in
        let l : length (table_of a).nodes ≡ NODES = rw (length-append (nodes_of 0 a), length_nodes 0 a, length-replicate (NODES - size a) empty_node) (omega (arith, x.1.nodes)) in
        ap length e ∙ length_cells (table_of a).nodes ∙ omega (arith, l)
