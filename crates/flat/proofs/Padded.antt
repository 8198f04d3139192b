-- Slices that read alike give the same table. Numbers copied over zeros read as they do in their slice, where a missing place is 0.
-- Assumes nothing.
use mathlib.Core.Path.{◌≡◌, refl, ◌∙◌}
use mathlib.Core.List.{List, ◌++◌}
use Prim.Native.Nat.{ℕ, zero, suc, ◌+◌, ◌-◌, ◌*◌, ◌≤◌, ◌<◌}
use native.Mathlib.Omega.{arith}
use native.Mathlib.Decide.{dec_lt, dec_le}
use lib.ListN.{length, get_or, take, drop, replicate, length-take, length-replicate, get_or-replicate, get_or-append, get_or-eq_default}
use lib.Seq.{take_all, get_or-take, get_or-drop, get_or-append-add}
use borrow.Author.Tests.{lt-leb}
use Rattle.building.specs.Storing.{WIDTH, CELLS, node_from, nodes_from, table_from as table_in}
use Rattle.building.proofs.Cells.{read_alike}
use Rattle.lists.specs.Front.{written}
use Rattle.flat.specs.Tables.{table_from}

module _ (a b : List ℕ) (room : ℕ) (alike : (j : ℕ) → j < room → get_or a j 0 ≡ get_or b j 0) where
  same_node : (k : ℕ) → WIDTH * k + WIDTH ≤ room → node_from a k ≡ node_from b k
  same_node k h = read_alike a b (WIDTH * k) (WIDTH * k) (λ f l. alike (WIDTH * k + f) (omega arith))

  pub same_nodes : (k : ℕ) → WIDTH * k ≤ room → nodes_from a k ≡ nodes_from b k
  unfolding nodes_from
  same_nodes zero h = refl
  same_nodes (suc k) h = rw (same_nodes k (omega arith), same_node k (omega arith))

pub padded_at : (ns : List ℕ) (room j : ℕ) → j < room → get_or (written ns (replicate room 0)) j 0 ≡ get_or ns j 0
unfolding written
padded_at ns room j h = rw length-replicate (go (dec_lt j (length ns)))
  where
    go : Dec (j < length ns) → get_or (take room ns ++ drop (length ns) (replicate room 0)) j 0 ≡ get_or ns j 0
    go (yes p) = get_or-append (take room ns) _ 0 j (rw length-take (omega arith)) ∙ get_or-take room ns j 0 h
    go (no p) =
        let e : j ≡ length ns + (j - length ns) = omega arith in
        rw (take_all room ns (omega arith), get_or-eq_default ns 0 {n = j} (omega arith), e, get_or-append-add, get_or-drop, ← e) (get_or-replicate room j 0 0 h)

pub padded_table : (ns : List ℕ) (count : ℕ) → table_in (written ns (replicate CELLS 0)) count ≡ table_from ns count
unfolding table_from
padded_table ns count = go (dec_le count 64)
  where
    go : Dec (count ≤ 64) → table_in (written ns (replicate CELLS 0)) count ≡ table_from ns count
    go (yes p) = rw (same_nodes (written ns (replicate CELLS 0)) ns CELLS (padded_at ns CELLS) count (omega arith))
    go (no p) = rw (lt-leb count 64 (omega arith))
