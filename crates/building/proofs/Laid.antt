-- A table's numbers laid out node by node: after k turns the front of the array is what the first k nodes give.
-- Assumes nothing.
use mathlib.Core.Path.{◌≡◌, refl, sym, ap, ◌∙◌}
use mathlib.Core.List.{List, [], ◌∷◌, ◌++◌}
use Prim.Native.Nat.{ℕ, ◌+◌, ◌*◌, ◌≤◌, ◌<◌}
use native.Mathlib.Numerals.{add-one}
use native.Mathlib.Omega.{arith}
use lib.ListN.{length, get_or, take, drop, length-append}
use lib.Seq.{sets, sets-eq, length-sets, take-suc, take_all, take_at, length-take-le}
use borrow.Author.Tests.{lt-leb}
use Rattle.tables.specs.declared.Node.{Node}
use Rattle.tables.specs.Tree.{NODES}
use Rattle.building.specs.Storing.{CELLS, WIDTH, numbers_of, cells_of, pushed_cells}
use Rattle.building.proofs.Cells.{cells_append}

pub record Laid (ns : List Node) (k : ℕ) (l : List ℕ) : Type 0 where
  pub inside : k ≤ NODES
  pub long : length l ≡ CELLS
  pub front : take (WIDTH * k) l ≡ cells_of (take k ns)

module _ (ns : List Node) (nodes : length ns ≡ NODES) where
  pub laid_start : (l : List ℕ) → length l ≡ CELLS → Laid ns 0 l
  unfolding cells_of
  laid_start l e = record { inside = omega arith; long = e; front = refl }

  pub laid_next : (k : ℕ) (l r : List ℕ) (d : Node) → Laid ns k l → k < NODES → r ≡ pushed_cells k (get_or ns k d) l → Laid ns (k + 1) r
  unfolding cells_of
  laid_next k l r d p h e =
      let x : Node = get_or ns k d in
      let own : List ℕ = numbers_of x in
      let s : r ≡ sets l (WIDTH * k) own = e ∙ rw (lt-leb NODES k h) in
      let z : sets l (WIDTH * k) own ≡ take (WIDTH * k) l ++ own ++ drop (WIDTH * k + WIDTH) l = sets-eq own l (WIDTH * k) (omega (arith, p.long)) in
      let m : length (take (WIDTH * k) l ++ own) ≡ WIDTH * (k + 1) = length-append (take (WIDTH * k) l) own ∙ rw (length-take-le (WIDTH * k) l (omega (arith, p.long))) (omega arith) in
      record {
        inside = omega arith;
        long = ap length s ∙ length-sets l (WIDTH * k) own ∙ p.long;
        front =
            rw (s, z, take_at (take (WIDTH * k) l ++ own) (drop (WIDTH * k + WIDTH) l) (WIDTH * (k + 1)) m, p.front, add-one k, take-suc ns k d (omega arith))
            (sym (cells_append (take k ns) (x ∷ [])));
      }

  pub laid_over : (k : ℕ) (l : List ℕ) → Laid ns k l → NODES ≤ k → l ≡ cells_of ns
  laid_over k l p h =
      sym (take_all (WIDTH * k) l (omega (arith, p.long))) ∙ p.front ∙ ap cells_of (take_all k ns (omega arith))
