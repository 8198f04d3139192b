-- A text begins with `req=` exactly where its first line does: the key has no line feed.
-- Assumes nothing.
use mathlib.Core.Path.{◌≡◌, refl, sym, ◌∙◌}
use mathlib.Core.List.{List, [], ◌∷◌}
use mathlib.Core.Bool.{Bool, true, false}
use Prim.Native.Nat.{ℕ, ◌+◌}
use native.Mathlib.Nat.{zero-add}
use native.Mathlib.Omega.{arith}
use lib.ListN.{length, drop, drop_of_length-le}
use lib.Dec.{eqb}
use borrow.Author.Tests.{le-leb, ne_eqb}
use Rattle.text.specs.Bytes.{bytes}
use Rattle.text.specs.Mark.{prefix_of, key_at}
use Rattle.text.proofs.Tests.{false_true, by_test, by_le}
use Rattle.lines.specs.Lines.{cut, lines}
use Rattle.lines.proofs.Counts.{count}
use Rattle.lines.proofs.Lines.{lines_none}
use Rattle.requirement_lines.specs.Form.{Over}

-- the bytes of a text without a line feed are none
clear_first : (k : ℕ) (ks : List ℕ) → count 10 (k ∷ ks) ≡ 0 → (eqb k 10 ≡ false) × (count 10 ks ≡ 0)
unfolding count
clear_first k ks h = by_test (eqb k 10) (λ t. absurd (full (rw t at h))) (λ t. (t, rw (t, zero-add) at h))
  where
    full : 1 + count 10 ks ≡ 0 → ⊥
    full g = omega arith

-- a text begins with a key that has no line feed where its first line does
prefix_line : (key s l : List ℕ) (ls : List (List ℕ)) → count 10 key ≡ 0 → lines s ≡ l ∷ ls → prefix_of key s ≡ prefix_of key l
unfolding prefix_of lines
prefix_line [] s l ls c h = refl
prefix_line (k ∷ ks) [] l ls c h = let z : ◌≡◌ {A = ℕ} 0 1 = cc in absurd (omega arith)
prefix_line (k ∷ ks) (b ∷ s) l ls c h = go (eqb b 10) refl (lines s) refl h (λ m ms. prefix_line ks s m ms (clear_first k ks c).1)
  where
    other : eqb b 10 ≡ true → eqb b k ≡ false
    other t = ne_eqb b k (λ (e : b ≡ k). false_true (sym (clear_first k ks c).0 ∙ (rw e at t)))

    go : (t : Bool) → eqb b 10 ≡ t → (x : List (List ℕ)) → lines s ≡ x → cut b t x ≡ l ∷ ls
        → ((m : List ℕ) (ms : List (List ℕ)) → lines s ≡ m ∷ ms → prefix_of ks s ≡ prefix_of ks m) → prefix_of (k ∷ ks) (b ∷ s) ≡ prefix_of (k ∷ ks) l
    go true e x f g again = let d : l ≡ b ∷ [] = cc in rw (d, other e)
    go false e [] f g again = let d : l ≡ b ∷ [] = cc in rw (d, lines_none s f)
    go false e (m ∷ ms) f g again = let d : l ≡ b ∷ m = cc in rw (d, again m ms f)

-- lines that go on otherwise are those of a text that does
pub over_made : (x : List ℕ) → prefix_of (bytes "req=") x ≡ false → Over (lines x)
unfolding count
over_made x h = go (lines x) refl
  where
    go : (ls : List (List ℕ)) → lines x ≡ ls → Over ls
    go [] e = tt
    go (l ∷ ls) e = sym (prefix_line (bytes "req=") x l ls refl e) ∙ h

pub over_is : (rest : List (List ℕ)) → Over rest → (x : List ℕ) → lines x ≡ rest → prefix_of (bytes "req=") x ≡ false
unfolding count prefix_of
over_is [] o x e = rw (lines_none x e)
over_is (l ∷ ls) o x e = prefix_line (bytes "req=") x l ls refl e ∙ o

-- where no requirement's line begins, what follows does not begin with its key; behind the text nothing follows
pub key_off : (s : List ℕ) (at : ℕ) → key_at (bytes "req=") s at ≡ false → prefix_of (bytes "req=") (drop at s) ≡ false
unfolding prefix_of
key_off s at h = by_le at (length s) (λ l. rw (le-leb at (length s) l) at h) (λ l. rw (drop_of_length-le s {i = at} (omega arith)))
