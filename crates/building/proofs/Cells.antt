-- Nodes as cells: each node's numbers written in one run, and read back as the table of the nodes.
-- Assumes nothing.
use mathlib.Core.Path.{◌≡◌, refl, sym, ap, ◌∙◌}
use mathlib.Core.List.{List, [], ◌∷◌, ◌++◌, append_assoc}
use Prim.Native.Nat.{ℕ, zero, suc, ◌+◌, ◌-◌, ◌*◌, ◌≤◌, ◌<◌}
use native.Mathlib.Nat.{add-zero, zero-add}
use native.Mathlib.Numerals.{towards_suc}
use native.Mathlib.Omega.{arith}
use native.Mathlib.Decide.{ℕ_discrete}
use lib.ListN.{length, get_or, take, drop, set, replicate, length-append, length-take, length-set, length-replicate, replicate-append-replicate}
use lib.Seq.{sets, sets-eq, set_at, take-suc, take_all, drop_at, get_or-append-add, get_or-set_same, get_or-set_other}
use Rattle.tables.specs.declared.Node.{Node}
use Rattle.tables.specs.Tree.{NODES}
use Rattle.grammar.specs.Tree.{Tree, truth, predicate, one, two, size}
use Rattle.building.specs.Nodes.{empty_node, nodes_of}
use Rattle.building.specs.Storing.{CELLS, zeros, numbers_of, cells_of, node_read, node_from, nodes_from, WIDTH}

-- ---- counts

pub size_some : (a : Tree) → 1 ≤ size a
unfolding size
size_some truth = omega arith
size_some (predicate p) = omega arith
size_some (one k w a) = omega arith
size_some (two k w a b) = omega arith

pub length_nodes : (o : ℕ) (a : Tree) → length (nodes_of o a) ≡ size a
unfolding nodes_of size
length_nodes o truth = refl
length_nodes o (predicate p) = refl
length_nodes o (one k w a) = rw (length-append, length_nodes o a)
length_nodes o (two k w a b) =
    rw (length-append, length_nodes o a) (rw (length-append, length_nodes (o + size a) b) (omega arith))

pub length_cells : (xs : List Node) → length (cells_of xs) ≡ WIDTH * length xs
unfolding cells_of
length_cells [] = refl
length_cells (x ∷ xs) = let h : length (cells_of xs) ≡ WIDTH * length xs = length_cells xs in omega arith

pub cells_append : (xs ys : List Node) → cells_of (xs ++ ys) ≡ cells_of xs ++ cells_of ys
unfolding cells_of
cells_append [] ys = refl
cells_append (x ∷ xs) ys = rw (cells_append xs ys)

-- ---- writing

pub sets_append : (l : List ℕ) (i : ℕ) (vs ws : List ℕ) → sets l i (vs ++ ws) ≡ sets (sets l i vs) (i + length vs) ws
sets_append l i [] ws = rw add-zero
sets_append l i (v ∷ vs) ws = let e : i + suc (length vs) ≡ suc i + length vs = omega arith in rw (e, sets_append (set l i v) (suc i) vs ws)

-- a node's stores are one run
pub sets_node : (l : List ℕ) (i : ℕ) (x : Node)
    → set (set (set (set (set (set (set l i x.kind) (i + 1) x.left) (i + 2) x.right) (i + 3) x.span.lo) (i + 4) x.span.hi) (i + 5) x.span.openlo) (i + 6) x.span.openhi ≡ sets l i (numbers_of x)
sets_node l i x = simp towards_suc

-- nodes after nodes
pub sets_nodes : (l : List ℕ) (o m : ℕ) (xs ys : List Node) → length xs ≡ m
    → sets (sets l (WIDTH * o) (cells_of xs)) (WIDTH * (o + m)) (cells_of ys) ≡ sets l (WIDTH * o) (cells_of (xs ++ ys))
sets_nodes l o m xs ys e =
    let n : WIDTH * (o + m) ≡ WIDTH * o + length (cells_of xs) = rw (length_cells xs) (omega arith) in
    sym (rw (cells_append xs ys, sets_append l (WIDTH * o) (cells_of xs) (cells_of ys), n))

-- ---- reading back

-- two places from which the same numbers are read have the same node
pub read_alike : (a b : List ℕ) (i j : ℕ) → ((f : ℕ) → f < WIDTH → get_or a (i + f) 0 ≡ get_or b (j + f) 0) → node_read a i ≡ node_read b j
read_alike a b i j h =
    let z : get_or a i 0 ≡ get_or b j 0 = rw (add-zero i, add-zero j) at (h 0 (omega arith)) in
    rw (z, h 1 (omega arith), h 2 (omega arith), h 3 (omega arith), h 4 (omega arith), h 5 (omega arith), h 6 (omega arith))

-- a node behind other numbers
read_behind : (front cells : List ℕ) (at : ℕ) → node_read (front ++ cells) (length front + at) ≡ node_read cells at
read_behind front cells at =
    read_alike (front ++ cells) cells (length front + at) at (λ f h.
    let z : length front + at + f ≡ length front + (at + f) = omega arith in
    rw z (get_or-append-add front cells (at + f) 0))

-- the node at a number of cells that nodes begin
pub node_back : (xs : List Node) (r : List ℕ) (k : ℕ) → k < length xs → node_from (cells_of xs ++ r) k ≡ get_or xs k empty_node
unfolding cells_of
node_back [] r k l = absurd (omega arith)
node_back (x ∷ xs) r zero l = refl
node_back (x ∷ xs) r (suc k) l =
    let e : WIDTH * suc k ≡ length (numbers_of x) + WIDTH * k = omega arith in
    rw (e, append_assoc (numbers_of x) (cells_of xs) r) (read_behind (numbers_of x) (cells_of xs ++ r) (WIDTH * k) ∙ node_back xs r k (omega arith))

-- the table of the first n of the nodes
nodes_back : (xs : List Node) (r : List ℕ) (n : ℕ) → n ≤ length xs → length xs ≤ NODES
    → nodes_from (cells_of xs ++ r) n ≡ take n xs ++ replicate (NODES - n) empty_node
unfolding nodes_from
nodes_back xs r zero l m = refl
nodes_back xs r (suc n) l m =
    let e : NODES - n ≡ suc (NODES - suc n) = omega arith in
    let f : length (take n xs) ≡ n = rw length-take (omega arith) in
    rw (nodes_back xs r n (omega arith) m, node_back xs r n (omega arith), e, set_at (take n xs) empty_node (replicate (NODES - suc n) empty_node) (get_or xs n empty_node) n f, take-suc xs n empty_node)
    (sym (append_assoc (take n xs) (get_or xs n empty_node ∷ []) (replicate (NODES - suc n) empty_node)))

-- a node of the table of any cells is the one that they hold
nodes_long : (cells : List ℕ) (n : ℕ) → length (nodes_from cells n) ≡ NODES
unfolding nodes_from
nodes_long cells zero = length-replicate NODES empty_node
nodes_long cells (suc n) = length-set (nodes_from cells n) n (node_from cells n) ∙ nodes_long cells n

pub node_kept : (cells : List ℕ) (n k : ℕ) → k < n → n ≤ NODES → get_or (nodes_from cells n) k empty_node ≡ node_from cells k
unfolding nodes_from
node_kept cells zero k h l = absurd (omega arith)
node_kept cells (suc n) k h l = elim (ℕ_discrete k n) [
  | yes e ↦ rw e (get_or-set_same (nodes_from cells n) n (node_from cells n) empty_node (omega (arith, nodes_long cells n)))
  | no e ↦ get_or-set_other (nodes_from cells n) n k (node_from cells n) empty_node e ∙ node_kept cells n k (omega arith) (omega arith)
]

-- a table that was written from number 0 on is read back
pub table_back : (xs : List Node) → length xs ≤ NODES → nodes_from (sets zeros 0 (cells_of xs)) (length xs) ≡ xs ++ replicate (NODES - length xs) empty_node
table_back xs l =
    let e : 0 + length (cells_of xs) ≤ length zeros = rw (length_cells xs) (omega arith) in
    rw (sets-eq (cells_of xs) zeros 0 e, nodes_back xs _ (length xs) (omega arith) l, take_all (length xs) xs (omega arith))

-- and its cells are those of the whole table, whose other nodes are empty
no_cells : (n : ℕ) → cells_of (replicate n empty_node) ≡ replicate (WIDTH * n) 0
unfolding cells_of
no_cells zero = refl
no_cells (suc n) = let e : WIDTH * suc n ≡ WIDTH + WIDTH * n = omega arith in rw (e, no_cells n) (replicate-append-replicate WIDTH (WIDTH * n) 0)

pub whole_cells : (xs : List Node) → length xs ≤ NODES → cells_of (xs ++ replicate (NODES - length xs) empty_node) ≡ sets zeros 0 (cells_of xs)
whole_cells xs few =
    let n = length xs in
    let l : length (cells_of xs) ≡ WIDTH * n = length_cells xs in
    let s : WIDTH * n + WIDTH * (NODES - n) ≡ CELLS = omega arith in
    let z : zeros ≡ replicate (WIDTH * n) 0 ++ replicate (WIDTH * (NODES - n)) 0 = rw replicate-append-replicate (ap (λ (k : ℕ). replicate k 0) (sym s)) in
    let d : drop (WIDTH * n) zeros ≡ replicate (WIDTH * (NODES - n)) 0 = ap (drop (WIDTH * n)) z ∙ drop_at (replicate (WIDTH * n) 0) (replicate (WIDTH * (NODES - n)) 0) (WIDTH * n) (length-replicate (WIDTH * n) 0) in
    cells_append xs (replicate (NODES - n) empty_node) ∙ rw (no_cells (NODES - n), sets-eq (cells_of xs) zeros 0 (omega (arith, length-replicate {A = ℕ} CELLS 0)), l, zero-add, d)
