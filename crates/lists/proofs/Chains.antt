-- A chain's test of every element, number or pair of neighbours is `all_below`. An answer hands these laws the call's clause and what a call of the closure gives:
-- all_of_slice p d xs n c.all.ensures.ran (cc) (search rules) (λ x b q k. search (rules, tests))
-- all_of_range p n c.all.ensures.ran refl (λ x b q k. search (rules, tests))
-- all_of_neighbours p d xs (c.is_sorted_by.ensures.cases p (search (rules, always_returns_same)))
-- Assumes nothing.
use mathlib.Core.Path.{◌≡◌, refl, ap, ap₂, sym, subst, ◌∙◌}
use mathlib.Core.Bool.{Bool, true, false, ◌&&◌}
use mathlib.Core.List.{List, [], ◌∷◌}
use Prim.Native.Nat.{ℕ, zero, suc, ◌+◌, ◌-◌}
use native.Mathlib.Omega.{arith}
use native.Mathlib.Numerals.{add-one}
use lib.Dec.{T}
use lib.ListN.{length, get_or}
use denote.Ref.{Bor}
use denote.Param.Members.{Mut}
use Rattle.std.specs.declared.ops.Range.{Range}
use Rattle.std.specs.declared.slice.Iter.{Iter}
use Rattle.std.proofs.iter.Yields.{fronts, nat_range_steps}
use Rattle.std.specs.Slice.Iter.{iter_rest}
use Rattle.std.specs.Fn.{Called}
use Rattle.std.specs.Iterator.{ChecksAll}
use Rattle.std.specs.List.{list_all, range_with_len, IsAllAdjacentAnswer}
use Rattle.std.proofs.lemmas.Iterator.{YieldsList-from_slice, YieldsList-from_range}
use Rattle.std.proofs.lemmas.Iterator.Search.{all_from_yields_List}
use Rattle.lists.specs.Fold.{all_below}
use Rattle.lists.proofs.Below.{same_test, all_at, at_all}

-- the test of the first element comes first in one, and last in the other
all_shift : (p : ℕ → Bool) (n : ℕ) → all_below p (suc n) ≡ (p 0 && all_below (λ i. p (suc i)) n)
all_shift p zero = with_true (p 0)
  where
    with_true : (b : Bool) → (true && b) ≡ (b && true)
    with_true true = refl
    with_true false = refl
all_shift p (suc n) = ap (λ b. b && p (suc n)) (all_shift p n) ∙ grouped (p 0) (all_below (λ i. p (suc i)) n) (p (suc n))
  where
    grouped : (a b c : Bool) → ((a && b) && c) ≡ (a && (b && c))
    grouped true b c = refl
    grouped false b c = refl

list_all_below : {X : Type 0} (p : X → Bool) (d : X) (xs : List X) → list_all p xs ≡ all_below (λ i. p (get_or xs i d)) (length xs)
list_all_below p d [] = refl
list_all_below p d (x ∷ xs) = ap (λ b. p x && b) (list_all_below p d xs) ∙ sym (all_shift (λ i. p (get_or (x ∷ xs) i d)) (length xs))

range_all : (p f : ℕ → Bool) (a n : ℕ) → ((i : ℕ) → p (a + i) ≡ f i) → list_all p (range_with_len a n) ≡ all_below f n
range_all p f a zero h = refl
range_all p f a (suc n) h =
    let next : (i : ℕ) → p (a + 1 + i) ≡ f (suc i) = λ i. let e : a + 1 + i ≡ a + suc i = omega arith in ap p e ∙ h (suc i) in
    ap₂ ◌&&◌ (let e : a ≡ a + 0 = omega arith in ap p e ∙ h 0) (range_all p (λ i. f (suc i)) (a + 1) n next) ∙ sym (all_shift f n)

range_all_below : (p : ℕ → Bool) (n : ℕ) → list_all p (range_with_len 0 n) ≡ all_below p n
range_all_below p n = range_all p p 0 n (λ i. let e : 0 + i ≡ i = omega arith in ap p e)

-- `xs.iter().all(test)`
module _ {A F : Type 0} {g : Mut F (Bor A × Unit {0}) Bool} {s u : Iter A} {f : F} {r : Bool} where
  pub all_of_slice : (test : A → Bool) (d : A) (xs : List A) (n : ℕ) → ChecksAll fronts g s f r u → iter_rest s ≡ xs → length xs ≡ n
      → ((x : Bor A) (b : Bool) (q : F) → Called g f (x, tt) b q → (q ≡ f) × (b ≡ test x.now)) → r ≡ all_below (λ i. test (get_or xs i d)) n
  all_of_slice test d xs n ran e l calls =
      all_from_yields_List test u f r ran (YieldsList-from_slice xs e) calls ∙ list_all_below test d xs ∙ ap (all_below (λ i. test (get_or xs i d))) l

-- `(0..n).all(test)`
module _ {F : Type 0} {g : Mut F (ℕ × Unit {0}) Bool} {s u : Range ℕ} {f : F} {r : Bool} where
  pub all_of_range : (test : ℕ → Bool) (n : ℕ) → ChecksAll nat_range_steps g s f r u → s ≡ record { start = 0; end = n }
      → ((x : ℕ) (b : Bool) (q : F) → Called g f (x, tt) b q → (q ≡ f) × (b ≡ test x)) → r ≡ all_below test n
  all_of_range test n ran e calls = all_from_yields_List test u f r ran (YieldsList-from_range 0 n n e (omega arith)) calls ∙ range_all_below test n

-- `xs.is_sorted_by(test)`
module _ {X : Type 0} (test : X → X → Bool) (d : X) (xs : List X) where
  abbrev next_to : ℕ → Bool
  next_to i = test (get_or xs i d) (get_or xs (suc i) d)

  pub all_of_neighbours : {r : Bool} → IsAllAdjacentAnswer (λ x y b. b ≡ test x y) xs r → r ≡ all_below (λ i. test (get_or xs i d) (get_or xs (suc i) d)) (length xs - 1)
  all_of_neighbours {r = true} h = same_test (λ _. at_all next_to (length xs - 1) (λ i k. subst T (rw (add-one i) at (h i d (omega arith))) tt)) (λ _. tt)
  all_of_neighbours {r = false} h = same_test absurd (λ t. subst T (sym (rw (add-one h.0) at (h.2 d))) (all_at next_to (length xs - 1) t h.0 (omega (arith, h.1))))
