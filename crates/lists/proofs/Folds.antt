-- Values joined by an operation for which neither order nor repetition counts: a run may be taken apart anywhere, and read from either end.
-- Assumes nothing.
use mathlib.Core.Path.{◌≡◌, refl, sym, ap, ap₂, ◌∙◌}
use Prim.Native.Nat.{ℕ, zero, suc, ◌+◌, ◌<◌}
use native.Mathlib.Omega.{arith}
use Rattle.lists.specs.Fold.{fold}

pub record Semilattice {X : Type 0} (o : X → X → X) : Type 0 where
  pub associative : (a b c : X) → o (o a b) c ≡ o a (o b c)
  pub commutative : (a b : X) → o a b ≡ o b a
  pub idempotent : (a : X) → o a a ≡ a

-- the dual of such an operation under "not"
pub dual_semilattice : {X : Type 0} {o p : X → X → X} (n : X → X) → ((a : X) → n (n a) ≡ a) → ((a b : X) → n (p a b) ≡ o (n a) (n b)) → Semilattice o → Semilattice p
dual_semilattice {X} {o} {p} n twice through S = record {
  associative = λ a b c. back (rw (through (p a b) c, through a b, through a (p b c), through b c) (S.associative (n a) (n b) (n c)));
  commutative = λ a b. back (rw (through a b, through b a) (S.commutative (n a) (n b)));
  idempotent = λ a. back (rw (through a a) (S.idempotent (n a)));
}
  where
    back : {a b : X} → n a ≡ n b → a ≡ b
    back {a} {b} e = sym (twice a) ∙ ap n e ∙ twice b

-- a run goes on where another one ended; g is f from place m on
pub fold_on : {X : Type 0} (o : X → X → X) (u : X) (f g : ℕ → X) (m n : ℕ) → ((k : ℕ) → k < n → f (m + k) ≡ g k) → fold o u f (m + n) ≡ fold o (fold o u f m) g n
fold_on o u f g m zero h = let e : m + 0 ≡ m = omega arith in rw e refl
fold_on o u f g m (suc n) h =
    let e : m + suc n ≡ suc (m + n) = omega arith in
    rw e (ap₂ o (fold_on o u f g m n (λ k p. h k (omega arith))) (h n (omega arith)))

module _ {X : Type 0} {o : X → X → X} (S : Semilattice o) (u : X) where
  -- what stands for nothing is a part of every run
  pub fold_nothing : (f : ℕ → X) (n : ℕ) → o (fold o u f n) u ≡ fold o u f n
  fold_nothing f zero = S.idempotent u
  fold_nothing f (suc n) =
      S.associative (fold o u f n) (f n) u
      ∙ ap (o (fold o u f n)) (S.commutative (f n) u)
      ∙ sym (S.associative (fold o u f n) u (f n))
      ∙ ap (λ (a : X). o a (f n)) (fold_nothing f n)

  -- two runs one after the other
  pub fold_split : (f g : ℕ → X) (m n : ℕ) → ((k : ℕ) → k < n → f (m + k) ≡ g k) → fold o u f (m + n) ≡ o (fold o u f m) (fold o u g n)
  fold_split f g m n h = fold_on o u f g m n h ∙ onto n
    where
      onto : (n : ℕ) → fold o (fold o u f m) g n ≡ o (fold o u f m) (fold o u g n)
      onto zero = sym (fold_nothing f m)
      onto (suc n) = ap (λ (a : X). o a (g n)) (onto n) ∙ S.associative (fold o u f m) (fold o u g n) (g n)

  -- read from its other end: the first value comes last
  pub fold_front : (f g : ℕ → X) (n : ℕ) → ((k : ℕ) → k < n → f (1 + k) ≡ g k) → fold o u f (1 + n) ≡ o (fold o u g n) (f 0)
  fold_front f g n h =
      fold_split f g 1 n h
      ∙ S.commutative (o u (f 0)) (fold o u g n)
      ∙ sym (S.associative (fold o u g n) u (f 0))
      ∙ ap (λ (a : X). o a (f 0)) (fold_nothing g n)
