-- Where each test is exact, the answer is a number exactly when that number's condition does not hold and every earlier one does, and 0 exactly when all hold. By induction over the list.
-- Assumes nothing.
use mathlib.Core.Path.{◌≡◌, refl, sym, subst, ◌∙◌}
use mathlib.Core.Bool.{Bool, true, false}
use mathlib.Core.Logic.{◌⊎◌, inl, inr}
use mathlib.Core.List.{List, [], ◌∷◌, ◌++◌}
use Prim.Native.Nat.{ℕ, zero, suc, ◌≤◌, ◌<◌}
use native.Mathlib.Omega.{arith}
use native.Mathlib.Nat.{le_of_suc-le-suc}
use lib.Dec.{T, leb, leb→le}
use lib.ListN.{length}
use mir.Facts.{and_yes}
use Rattle.numbers.proofs.Parts.{holds}
use Rattle.refusals.specs.First.{Check, first, AllExact, numbered, check_at, Refused, Passed, unless_refused}

either : (b : Bool) → (b ≡ true) ⊎ (b ≡ false)
either true = inl refl
either false = inr refl

pub answers : {b : Bool} → T b → b ≡ true
answers {b = true} t = refl
answers {b = false} t = absurd t

refutes : {b : Bool} → (T b → ⊥) → b ≡ false
refutes {b = true} h = absurd (h tt)
refutes {b = false} h = refl

-- ---- one condition more in front
pub first_passes : (c : Check) (cs : List Check) → c.passes ≡ true → first (c ∷ cs) ≡ first cs
unfolding first
first_passes c cs e = rw e

pub first_fails : (c : Check) (cs : List Check) → c.passes ≡ false → first (c ∷ cs) ≡ c.number
unfolding first
first_fails c cs e = rw e

head_numbered : (c : Check) (cs : List Check) → T (numbered (c ∷ cs)) → 1 ≤ c.number
head_numbered c cs n = leb→le 1 c.number (and_yes (leb 1 c.number) (numbered cs) n).0

tail_numbered : (c : Check) (cs : List Check) → T (numbered (c ∷ cs)) → T (numbered cs)
tail_numbered c cs n = (and_yes (leb 1 c.number) (numbered cs) n).1

-- ---- 0 exactly when every condition holds
pub passed : (cs : List Check) → T (numbered cs) → AllExact cs → first cs ≡ 0 → Passed cs
passed [] n x e = record { each = λ j h. absurd (omega arith) }
passed (c ∷ cs) n x e = elim (either c.passes) [
  | inl p ↦
      let r = passed cs (tail_numbered c cs n) (x.1 (x.0.sound (holds p))) (sym (first_passes c cs p) ∙ e) in
      record { each = λ j. elim j as (λ k. k < suc (length cs) → (check_at (c ∷ cs) k).sentence) [ zero ↦ λ h. x.0.sound (holds p) | suc i ↦ λ h. r.each i (le_of_suc-le-suc h) ] }
  | inr p ↦ absurd (omega (arith, head_numbered c cs n, sym (first_fails c cs p) ∙ e))
]

pub none_fails : (cs : List Check) → AllExact cs → Passed cs → first cs ≡ 0
unfolding first
none_fails [] x r = refl
none_fails (c ∷ cs) x r =
    first_passes c cs (answers (x.0.complete (r.each 0 (omega arith))))
    ∙ none_fails cs (x.1 (r.each 0 (omega arith))) (record { each = λ j h. r.each (suc j) (omega arith) })

-- ---- m exactly when condition m does not hold and every earlier one does
pub refused : (cs : List Check) → AllExact cs → (first cs ≡ 0 → ⊥) → Refused cs (first cs)
unfolding first
refused [] x h = absurd (h refl)
refused (c ∷ cs) x h = elim (either c.passes) [
  | inl p ↦
      let e = first_passes c cs p in
      let r = refused cs (x.1 (x.0.sound (holds p))) (λ z. h (e ∙ z)) in
      record {
        place = suc r.place;
        listed = omega (arith, r.listed);
        number = r.number ∙ sym e;
        fails = r.fails;
        earlier = λ j. elim j as (λ k. k < suc r.place → (check_at (c ∷ cs) k).sentence) [ zero ↦ λ k. x.0.sound (holds p) | suc i ↦ λ k. r.earlier i (le_of_suc-le-suc k) ];
      }
  | inr p ↦ record {
    place = 0;
    listed = omega arith;
    number = sym (first_fails c cs p);
    fails = λ s. subst T p (x.0.complete s);
    earlier = λ j k. absurd (omega arith);
  }
]

at_place : (cs : List Check) (m place : ℕ) → AllExact cs → place < length cs → (check_at cs place).number ≡ m → ((check_at cs place).sentence → ⊥) → ((j : ℕ) → j < place → (check_at cs j).sentence) → first cs ≡ m
at_place [] m place x l n f e = absurd (omega arith)
at_place (c ∷ cs) m zero x l n f e = first_fails c cs (refutes (λ t. f (x.0.sound t))) ∙ n
at_place (c ∷ cs) m (suc p) x l n f e =
    first_passes c cs (answers (x.0.complete (e 0 (omega arith))))
    ∙ at_place cs m p (x.1 (e 0 (omega arith))) (le_of_suc-le-suc l) n f (λ j k. e (suc j) (omega arith))

pub first_is : (cs : List Check) {m : ℕ} → AllExact cs → Refused cs m → first cs ≡ m
first_is cs {m} x r = at_place cs m r.place x r.listed r.number r.fails r.earlier

-- ---- a list in two parts: the second counts where the first finds nothing
pub first_append : (cs ds : List Check) → T (numbered cs) → first cs ≡ 0 → first (cs ++ ds) ≡ first ds
first_append [] ds n e = refl
first_append (c ∷ cs) ds n e = elim (either c.passes) [
  | inl p ↦ first_passes c (cs ++ ds) p ∙ first_append cs ds (tail_numbered c cs n) (sym (first_passes c cs p) ∙ e)
  | inr p ↦ absurd (omega (arith, head_numbered c cs n, sym (first_fails c cs p) ∙ e))
]

pub first_stays : (cs ds : List Check) → (first cs ≡ 0 → ⊥) → first (cs ++ ds) ≡ first cs
unfolding first
first_stays [] ds h = absurd (h refl)
first_stays (c ∷ cs) ds h = elim (either c.passes) [
  | inl p ↦ first_passes c (cs ++ ds) p ∙ first_stays cs ds (λ z. h (first_passes c cs p ∙ z)) ∙ sym (first_passes c cs p)
  | inr p ↦ first_fails c (cs ++ ds) p ∙ sym (first_fails c cs p)
]

-- nothing applies to the whole exactly when nothing applies to either part
pub first_of_whole : (cs ds : List Check) → T (numbered cs) → first (cs ++ ds) ≡ 0 → (first cs ≡ 0) × (first ds ≡ 0)
unfolding first
first_of_whole [] ds n e = (refl, e)
first_of_whole (c ∷ cs) ds n e = elim (either c.passes) [
  | inl p ↦
      let r = first_of_whole cs ds (tail_numbered c cs n) (sym (first_passes c (cs ++ ds) p) ∙ e) in
      (first_passes c cs p ∙ r.0, r.1)
  | inr p ↦ absurd (omega (arith, head_numbered c cs n, sym (first_fails c (cs ++ ds) p) ∙ e))
]

-- the second part's tests are exact where the whole first part holds
pub exact_append : (cs ds : List Check) → AllExact cs → (Passed cs → AllExact ds) → AllExact (cs ++ ds)
exact_append [] ds x y = y (record { each = λ j h. absurd (omega arith) })
exact_append (c ∷ cs) ds x y = (x.0, λ s. exact_append cs ds (x.1 s) (λ p. y (record { each = λ j. elim j as (λ k. k < suc (length cs) → (check_at (c ∷ cs) k).sentence) [ zero ↦ λ h. s | suc i ↦ λ h. p.each i (le_of_suc-le-suc h) ] })))

-- and the other way round
pub exact_parts : (cs ds : List Check) → AllExact (cs ++ ds) → AllExact cs × (Passed cs → AllExact ds)
exact_parts [] ds x = (tt, λ _. x)
exact_parts (c ∷ cs) ds x = (
  (x.0, λ s. (exact_parts cs ds (x.1 s)).0),
  λ p. (exact_parts cs ds (x.1 (p.each 0 (omega arith)))).1 (record { each = λ j h. p.each (suc j) (omega arith) }),
)

-- ---- a condition in the middle of a list, none before it applying: its number where it fails, what stands behind it where it passes
pub first_here : (cs : List Check) (c : Check) (ds : List Check) → T (numbered cs) → first cs ≡ 0 → c.passes ≡ false → first (cs ++ (c ∷ ds)) ≡ c.number
first_here cs c ds n e h = first_append cs (c ∷ ds) n e ∙ first_fails c ds h

pub first_behind : (cs : List Check) (c : Check) (ds : List Check) → T (numbered cs) → first cs ≡ 0 → c.passes ≡ true → first (cs ++ (c ∷ ds)) ≡ first ds
first_behind cs c ds n e h = first_append cs (c ∷ ds) n e ∙ first_passes c ds h

pub parts_none : (cs : List Check) (c : Check) (ds : List Check) → T (numbered cs) → T (numbered (c ∷ ds)) → first (cs ++ (c ∷ ds)) ≡ 0 → (first cs ≡ 0) × T c.passes × (first ds ≡ 0)
parts_none cs c ds n m e =
    let w = first_of_whole cs (c ∷ ds) n e in
    elim (either c.passes) [
      | inl p ↦ (w.0, holds p, sym (first_passes c ds p) ∙ w.1)
      | inr p ↦ absurd (omega (arith, head_numbered c ds m, sym (first_fails c ds p) ∙ w.1))
    ]

-- ---- what is handed back: a number 0 gives a, another gives b
pub unless_none : {X : Type 0} {n : ℕ} (a b : X) → n ≡ 0 → unless_refused n a b ≡ a
unless_none a b e = rw e refl

pub unless_some : {X : Type 0} (n : ℕ) (a b : X) → (n ≡ 0 → ⊥) → unless_refused n a b ≡ b
unless_some zero a b h = absurd (h refl)
unless_some (suc n) a b h = refl

-- what is handed back has the number that was found, where a has 0 and b has it
pub unless_number : {X : Type 0} (number : X → ℕ) (n : ℕ) (a b : X) → number a ≡ 0 → number b ≡ n → number (unless_refused n a b) ≡ n
unless_number number zero a b e f = e
unless_number number (suc n) a b e f = f
