-- The turns of `|` and `&` need no count: any number of turns that the bytes left allow reads the same, so a turn and the end are plain equations.
-- Assumes nothing.
use Rattle.std.specs.Prelude.{Option, Some, None}
use mathlib.Core.Path.{◌≡◌, refl, sym, ◌∙◌}
use mathlib.Core.List.{List}
use Prim.Native.Nat.{ℕ, zero, suc, ◌+◌, ◌≤◌, ◌<◌}
use native.Mathlib.Omega.{arith}
use lib.ListN.{length}
use Rattle.text.specs.Mark.{mark_at, after}
use Rattle.text.proofs.Answers.{mark_is}
use Rattle.grammar.specs.Operators.{letter}
use Rattle.tables.specs.Tree.{no_span}
use Rattle.grammar.specs.Tree.{Tree, two}
use Rattle.grammar.specs.Reading.{Reading, got, none, on_got, Reads, more_turns, more}

-- a part of the grammar that never goes back
abbrev pub Onward : Reads → Type 0
Onward part = (s : List ℕ) (at : ℕ) (a : Tree) (n : ℕ) → part s at ≡ got a n → at ≤ n

module _ (part : Reads) (k : ℕ) (s : List ℕ) where
  turns_none : (f : ℕ) → more_turns f part k s none ≡ none
  unfolding more_turns
  turns_none zero = refl
  turns_none (suc f) = refl

  -- no letter stands behind the end
  end_missing : (n : ℕ) → length s ≤ n → mark_at (letter k) s n ≡ None
  end_missing n l = go (mark_at (letter k) s n) refl
    where
      go : (m : Option ℕ) → mark_at (letter k) s n ≡ m → m ≡ None
      go (Some m) e = let b = mark_is (letter k) s n m e in absurd (omega arith)
      go None e = refl

  turns_same : Onward part → (f g : ℕ) (a : Tree) (n : ℕ) → length s ≤ n + f → length s ≤ n + g
      → more_turns f part k s (got a n) ≡ more_turns g part k s (got a n)
  unfolding more_turns
  turns_same o zero zero a n p q = refl
  turns_same o zero (suc g) a n p q = sym (rw (end_missing n (omega arith)))
  turns_same o (suc f) zero a n p q = rw (end_missing n (omega arith))
  turns_same o (suc f) (suc g) a n p q = go (λ b e i j. turns_same o f g b e i j) (mark_at (letter k) s n) refl
    where
      on : ((b : Tree) (e : ℕ) → length s ≤ e + f → length s ≤ e + g → more_turns f part k s (got b e) ≡ more_turns g part k s (got b e))
          → (m : ℕ) → n < m → (x : Reading) → part s m ≡ x
          → more_turns f part k s (on_got x (λ b e. got (two k no_span a b) e)) ≡ more_turns g part k s (on_got x (λ b e. got (two k no_span a b) e))
      on ih m l (got b e) h = let w : m ≤ e = o s m b e h in ih (two k no_span a b) e (omega arith) (omega arith)
      on ih m l none h = turns_none f ∙ sym (turns_none g)

      go : ((b : Tree) (e : ℕ) → length s ≤ e + f → length s ≤ e + g → more_turns f part k s (got b e) ≡ more_turns g part k s (got b e))
          → (m : Option ℕ) → mark_at (letter k) s n ≡ m
          → after m (λ i. more_turns f part k s (on_got (part s i) (λ b e. got (two k no_span a b) e))) (got a n)
          ≡ after m (λ i. more_turns g part k s (on_got (part s i) (λ b e. got (two k no_span a b) e))) (got a n)
      go ih (Some m) e = let b = mark_is (letter k) s n m e in on ih m (omega arith) (part s m) refl
      go ih None e = refl

  pub more_none : more part k s none ≡ none
  more_none = turns_none (length s)

  -- the end
  pub more_over : (a : Tree) (n : ℕ) → mark_at (letter k) s n ≡ None → more part k s (got a n) ≡ got a n
  unfolding more_turns
  more_over a n e = over (length s)
    where
      over : (f : ℕ) → more_turns f part k s (got a n) ≡ got a n
      over zero = refl
      over (suc f) = rw e

  -- a turn
  pub more_turn : Onward part → (a : Tree) (n m : ℕ) → mark_at (letter k) s n ≡ Some m
      → more part k s (got a n) ≡ more part k s (on_got (part s m) (λ b e. got (two k no_span a b) e))
  unfolding more_turns
  more_turn o a n m e = go (length s) refl
    where
      on : (f : ℕ) → length s ≡ suc f → (x : Reading) → part s m ≡ x
          → more_turns f part k s (on_got x (λ b i. got (two k no_span a b) i)) ≡ more_turns (suc f) part k s (on_got x (λ b i. got (two k no_span a b) i))
      on f h (got b i) g =
          let w : m ≤ i = o s m b i g in
          let l = mark_is (letter k) s n m e in
          let z = l.end in
          turns_same o f (suc f) (two k no_span a b) i (omega arith) (omega arith)
      on f h none g = turns_none f

      go : (f : ℕ) → length s ≡ f → more_turns f part k s (got a n) ≡ more_turns f part k s (on_got (part s m) (λ b i. got (two k no_span a b) i))
      go zero h = let l = mark_is (letter k) s n m e in let y = l.inside in let z = l.end in absurd (omega arith)
      go (suc f) h = rw e (on f h (part s m) refl)
