-- One value, one row at a time: what the loops' turns leave is what the definitions say from there on.
-- Assumes nothing.
use mathlib.Core.Path.{◌≡◌, refl, sym, ap, ◌∙◌}
use mathlib.Core.List.{List, []}
use Prim.Native.Nat.{ℕ, suc, ◌+◌, ◌-◌, ◌≤◌, ◌<◌}
use native.Mathlib.Omega.{arith}
use lib.IntN.{ℤ}
use Rattle.std.specs.Prelude.{Some, None}
use Rattle.text.specs.Mark.{read}
use Rattle.text.specs.declared.Field.TheVariants.{Number, Bad}
use Rattle.lines.specs.Reading.{also}
use Rattle.row_lines.specs.Reading.{value_at, ValuesAt, values_from, end_of}

module _ (k c : ℕ) (s : List ℕ) (at : ℕ) where
  pub values_over : k ≤ c → values_from (k - c) c s at ≡ read [] at
  unfolding values_from
  values_over l = let e : k - c ≡ 0 = omega arith in rw e

  pub values_none : c < k → value_at s at c ≡ Bad → values_from (k - c) c s at ≡ None
  unfolding values_from
  values_none l h = let e : k - c ≡ suc (k - (c + 1)) = omega arith in rw (e, h)

  pub values_next : (v : ℤ) (n : ℕ) → c < k → value_at s at c ≡ Number v n
      → values_from (k - c) c s at ≡ also v (values_from (k - (c + 1)) (c + 1) s n)
  unfolding values_from
  values_next v n l h = let e : k - c ≡ suc (k - (c + 1)) = omega arith in rw (e, h)

end_also : (v : ℤ) (x : ValuesAt) → end_of (also v x) ≡ end_of x
end_also v (Some r) = refl
end_also v None = refl

-- the values that are left end where all of them do
pub ends_next : (k c : ℕ) (s : List ℕ) (at : ℕ) (v : ℤ) (n : ℕ) → c < k → value_at s at c ≡ Number v n
    → end_of (values_from (k - (c + 1)) (c + 1) s n) ≡ end_of (values_from (k - c) c s at)
ends_next k c s at v n l h = sym (ap end_of (values_next k c s at v n l h) ∙ end_also v (values_from (k - (c + 1)) (c + 1) s n))

pub end_over : (k c : ℕ) (s : List ℕ) (at : ℕ) → k ≤ c → end_of (values_from (k - c) c s at) ≡ Some at
end_over k c s at l = ap end_of (values_over k c s at l)

pub end_none : (k c : ℕ) (s : List ℕ) (at : ℕ) → c < k → value_at s at c ≡ Bad → end_of (values_from (k - c) c s at) ≡ None
end_none k c s at l h = ap end_of (values_none k c s at l h)

-- what the reader's loop cites
pub ruleset turns = (end_over, end_none, ends_next)
