-- Letters tell kinds apart: the table is tested once by computing, and the laws read the test.
-- Assumes nothing.
use mathlib.Core.Path.{◌≡◌, sym, ap, ◌∙◌}
use mathlib.Core.List.Memᴰ
use mathlib.Core.List.{List, [], ◌∷◌}
use mathlib.Core.Bool.{Bool, true, not, cond, ◌&&◌}
use Prim.Native.Nat.{ℕ, suc, ◌<◌}
use lib.ListN.{length, get_or}
use lib.Dec.{eqb, ltb, eqb→eq}
use Rattle.lists.proofs.Below.{all_at}
use Rattle.text.proofs.Tests.{both}
use Rattle.grammar.specs.Operators.{letters, ◌∈◌}

-- the place of a byte in a list
place_of : ℕ → List ℕ → ℕ
place_of b [] = 0
place_of b (c ∷ l) = cond (eqb b c) 0 (suc (place_of b l))

-- the table holds no letter twice
places : (k : ℕ) → k < length letters → place_of (get_or letters k 0) letters ≡ k
unfolding place_of
places k l = eqb→eq _ k (all_at (λ i. eqb (place_of (get_or letters i 0) letters) i) (length letters) tt k l)

pub letter_one : (j k : ℕ) → j < length letters → k < length letters → get_or letters j 0 ≡ get_or letters k 0 → j ≡ k
letter_one j k a b e = sym (places j a) ∙ (ap (λ (c : ℕ). place_of c letters) e ∙ places k b)

-- a test that holds of all of some kinds
abbrev pub every : (ℕ → Bool) → List ℕ → Bool
every f [] = true
every f (k ∷ ks) = f k && every f ks

pub all_in : (f : ℕ → Bool) {k : ℕ} {ks : List ℕ} → k ∈ ks → every f ks ≡ true → f k ≡ true
all_in f (Memᴰ.head {x} {xs} e) h = rw e (both (f x) (every f xs) h).0
all_in f (Memᴰ.tail {x} {xs} m) h = all_in f m (both (f x) (every f xs) h).1

-- whether all of some kinds are in the table, and a byte is the letter of none of them
abbrev pub lettered : List ℕ → Bool
lettered ks = every (λ k. ltb k (length letters)) ks

abbrev pub none_of : ℕ → List ℕ → Bool
none_of b ks = every (λ k. not (eqb b (get_or letters k 0))) ks
