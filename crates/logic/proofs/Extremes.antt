-- The larger of two whole numbers does not depend on order or repetition, and neither does the smaller, its dual. So an extremum may be taken apart and read
-- from either end.
-- Assumes nothing.
use mathlib.Core.Path.{◌≡◌}
use native.Mathlib.Omega.{arith}
use lib.IntN.{ℤ, neg_ℤ, neg_ℤ-neg_ℤ}
use Rattle.numbers.specs.Order.{larger_of}
use Rattle.numbers.proofs.Parts.{plus, minus, parts_eq, larger_parts}
use Rattle.lists.proofs.Folds.{Semilattice, dual_semilattice}
use Rattle.logic.specs.declared.Extremum.{Extremum}
use Rattle.logic.specs.declared.Extremum.TheVariants.{Largest, Smallest}
use Rattle.logic.specs.Reading.{margin_extreme}
use Rattle.logic.proofs.Margins.{margins_dual}

same_parts : (a b : ℤ) → plus a ≡ plus b → minus a ≡ minus b → a ≡ b
same_parts a b h k = parts_eq a b (omega arith)

larger : Semilattice larger_of
larger = record {
  associative = λ a b c.
      let x = larger_parts a b in
      let y = larger_parts b c in
      let z = larger_parts (larger_of a b) c in
      let t = larger_parts a (larger_of b c) in
      same_parts _ _ (omega (arith, x.up, y.up, z.up, t.up)) (omega (arith, x.down, y.down, z.down, t.down));
  commutative = λ a b.
      let x = larger_parts a b in
      let y = larger_parts b a in
      same_parts _ _ (omega arith) (omega arith);
  idempotent = λ a. let x = larger_parts a a in same_parts _ _ (omega arith) (omega arith);
}

pub extremes : (e : Extremum) → Semilattice (margin_extreme e)
extremes Largest = larger
extremes Smallest = dual_semilattice neg_ℤ neg_ℤ-neg_ℤ ((margins_dual 0).extremes Smallest) larger
