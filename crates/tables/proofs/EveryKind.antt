-- A fact of every kind is a test of the list `kinds`, which is computed, and of the unknown kinds; so a kind more is a line more of that list, and of no proof.
-- Assumes nothing.
use mathlib.Core.Path.{◌≡◌, refl, sym, ◌∙◌}
use mathlib.Core.Bool.{Bool, true, false, not, cond, ◌||◌}
use Prim.Native.Nat.{ℕ, ◌≤◌, ◌<◌}
use native.Mathlib.Omega.{arith}
use native.Mathlib.Decide.{dec_lt}
use lib.Dec.{T, eqb}
use lib.ListN.{length, get_or-eq_default}
use borrow.Author.Tests.{ne_eqb}
use Rattle.lists.specs.Fold.{all_below}
use Rattle.lists.proofs.Below.{all_at}
use Rattle.tables.specs.Kind.{kinds, operator, is_not, predicate_kind, not_kind}
use Rattle.tables.specs.declared.Operator.{Operator}
use Rattle.tables.specs.declared.Operator.TheVariants.{Unknown}
use Rattle.tables.specs.Rules.{Use, child, number, unused, is_child, left_use}

abbrev is_number : Use → Bool
is_number child = false
is_number number = true
is_number unused = false

pub known_kind : (test : Operator → ℕ → Bool) → T (all_below (λ k. test (operator k) k) (length kinds)) → (k : ℕ) → k < length kinds → T (test (operator k) k)
known_kind test t k h = all_at (λ k. test (operator k) k) (length kinds) t k h

pub every_kind : (test : Operator → ℕ → Bool) → T (all_below (λ k. test (operator k) k) (length kinds)) → ((k : ℕ) → length kinds ≤ k → T (test Unknown k)) → (k : ℕ) → T (test (operator k) k)
every_kind test t u k = elim (dec_lt k (length kinds)) [
  | yes h ↦ known_kind test t k h
  | no h ↦ rw (get_or-eq_default kinds Unknown {n = k} (omega arith)) (u k (omega arith))
]

-- ---- a test of the code, or a use, agrees with what the definitions say of the kind's operator
abbrev agree : Bool → Bool → Bool
agree true b = b
agree false b = not b

agreed : {a b : Bool} → T (agree a b) → a ≡ b
agreed {a = true} {b = true} t = refl
agreed {a = true} {b = false} t = absurd t
agreed {a = false} {b = true} t = absurd t
agreed {a = false} {b = false} t = refl

pub by_test : (code : ℕ → Bool) (said : Operator → Bool) → T (all_below (λ k. agree (code k) (said (operator k))) (length kinds)) → ((k : ℕ) → length kinds ≤ k → T (agree (code k) (said Unknown))) → (k : ℕ) → code k ≡ said (operator k)
by_test code said t u k = agreed (every_kind (λ o k. agree (code k) (said o)) t u k)

abbrev same : Use → Use → Bool
same child v = is_child v
same number v = is_number v
same unused v = not (is_child v || is_number v)

same_use : {u v : Use} → T (same u v) → u ≡ v
same_use {u = child} {v = child} t = refl
same_use {u = child} {v = number} t = absurd t
same_use {u = child} {v = unused} t = absurd t
same_use {u = number} {v = child} t = absurd t
same_use {u = number} {v = number} t = refl
same_use {u = number} {v = unused} t = absurd t
same_use {u = unused} {v = child} t = absurd t
same_use {u = unused} {v = number} t = absurd t
same_use {u = unused} {v = unused} t = refl

not_test : (k : ℕ) → eqb k not_kind ≡ is_not (operator k)
not_test = by_test (λ k. eqb k not_kind) is_not tt (λ k h. rw (ne_eqb k not_kind (λ (e : k ≡ not_kind). omega arith)) tt)

-- "not" has one kind
pub no_not : (k : ℕ) → (k ≡ not_kind → ⊥) → is_not (operator k) ≡ false
no_not k h = sym (not_test k) ∙ ne_eqb k not_kind h

-- ---- a use from the tests
pub left_is : (k : ℕ) → left_use (operator k) ≡ cond (eqb k predicate_kind) number (cond (is_child (left_use (operator k))) child unused)
left_is k = same_use (every_kind (λ o k. same (left_use o) (cond (eqb k predicate_kind) number (cond (is_child (left_use o)) child unused))) tt (λ k h. rw (ne_eqb k predicate_kind (λ (e : k ≡ predicate_kind). omega arith)) tt) k)
