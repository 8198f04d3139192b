-- The loop's invariant is the contract for the first k nodes, in the first places of the slices.
-- Assumes nothing.
use mathlib.Core.Path.{◌≡◌, refl, ◌∙◌}
use Prim.Native.Nat.{suc, ◌+◌}
use native.Mathlib.Omega.{arith}
use lib.ListN.{take}
use Rattle.watch_cells.specs.State.{NUMBERS, CELLS}
use Rattle.watch_cells.proofs.Chunks.{chunk_long, narrowed, widened, beyond_widened}
use Rattle.watch_cells.proofs.take_nodes.Goals as goal

pub loop-k-init : goal.loop-k-init
loop-k-init c = (record { same = λ i h. refl }, chunk_long _ _ c.requires.1 (rw c.unwrap-cells.ensures at c.first_chunk_mut.ensures.cases).same, λ t k r A e K. K)

pub take_node-requires : goal.take_node-requires
take_node-requires c = (omega (arith, c.requires.2, c.loop-k-test.true), c.requires.3, c.requires.4)

pub loop-k-preserved : goal.loop-k-preserved
loop-k-preserved c =
    let l = c.loop-k in
    let k : suc l.k ≡ l.k + 1 = omega arith in (
      record { same = λ i h. c.take_node.ensures.beyond.same i h ∙ l.invariant.0.same i h },
      c.take_node.array_long,
      λ t d r A e K. rw k at (c.take_node.ensures.taken t d r A (omega (arith, e, c.loop-k-test.true)) (l.invariant.2 t d r A e K)),
    )

pub returns : goal.returns
returns c =
    let s = c.args in
    let n : c.unwrap-numbers.result.now ≡ take NUMBERS s.numbers.now = (rw c.unwrap-numbers.ensures at c.first_chunk.ensures.cases).same in
    let x : c.unwrap-cells.result.now ≡ take CELLS s.cells.now = (rw c.unwrap-cells.ensures at c.first_chunk_mut.ensures.cases).same in
    let l = c.loop-k in
    let k : l.k ≡ s.count = omega arith in
    record {
      taken = λ t d r A e K.
          widened s.numbers.now s.cells.now c.requires.0 c.requires.1 n x l.cells l.invariant.1 s.count c.requires.2
          (rw k at (l.invariant.2 t d r A e (narrowed s.numbers.now s.cells.now c.requires.0 c.requires.1 n x 0 (omega arith) K)));
      beyond = beyond_widened s.numbers.now s.cells.now c.requires.0 c.requires.1 n x l.cells l.invariant.1 l.invariant.0;
    }
