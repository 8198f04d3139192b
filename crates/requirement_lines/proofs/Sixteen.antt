-- Sixteen places of a list: each one more is set behind the ones before it, and behind the sixteenth nothing is.
-- Assumes nothing.
use mathlib.Core.Path.{◌≡◌, refl, sym, ap, ◌∙◌}
use mathlib.Core.List.{List, [], ◌∷◌, ◌++◌}
use Prim.Native.Nat.{ℕ, zero, suc, ◌+◌, ◌≤◌, ◌<◌}
use native.Mathlib.Omega.{arith}
use lib.ListN.{length, get_or, set, take, replicate, length-append, get_or-append}
use lib.Seq.{length-take-le, get_or-take}
use Rattle.requirement_lines.specs.declared.Place.{Place}
use Rattle.requirement_lines.specs.Form.{no_place, nowhere, sixteen}

pub sixteen_long : (ps : List Place) → length (sixteen ps) ≡ 16
sixteen_long ps = length-take-le 16 (ps ++ nowhere) (omega (arith, length-append ps nowhere))

-- the places of up to sixteen requirements are kept
pub sixteen_at : (ps : List Place) (k : ℕ) (d : Place) → k < length ps → length ps ≤ 16 → get_or (sixteen ps) k d ≡ get_or ps k d
sixteen_at ps k d l h = get_or-take 16 (ps ++ nowhere) k d (omega arith) ∙ get_or-append ps nowhere d k l

take_same : {X : Type 0} (n m : ℕ) (x : X) → n ≤ m → take n (replicate m x) ≡ replicate n x
take_same zero m x h = refl
take_same (suc n) zero x h = absurd (omega arith)
take_same (suc n) (suc m) x h = ap (λ (l : List _). x ∷ l) (take_same n m x (omega arith))

set_more : {X : Type 0} (n m : ℕ) (ps : List X) (p x : X) → n ≤ length ps + m → set (take n (ps ++ replicate m x)) (length ps) p ≡ take n (ps ++ (p ∷ []) ++ replicate m x)
set_more zero m ps p x h = refl
set_more (suc n) zero [] p x h = absurd (omega arith)
set_more (suc n) (suc m) [] p x h = ap (λ (l : List _). p ∷ l) (take_same n m x (omega arith) ∙ sym (take_same n (suc m) x (omega arith)))
set_more (suc n) m (q ∷ ps) p x h = ap (λ (l : List _). q ∷ l) (set_more n m ps p x (omega arith))

pub sixteen_more : (ps : List Place) (p : Place) → set (sixteen ps) (length ps) p ≡ sixteen (ps ++ (p ∷ []))
sixteen_more ps p = set_more 16 16 ps p no_place (omega arith)

-- and behind the last is no place
behind : {X : Type 0} (n m : ℕ) (ps : List X) (x : X) (k : ℕ) → length ps ≤ k → get_or (take n (ps ++ replicate m x)) k x ≡ x
behind zero m ps x k h = refl
behind (suc n) zero [] x k h = refl
behind (suc n) (suc m) [] x zero h = refl
behind (suc n) (suc m) [] x (suc k) h = behind n m [] x k (omega arith)
behind (suc n) m (p ∷ ps) x zero h = absurd (omega arith)
behind (suc n) m (p ∷ ps) x (suc k) h = behind n m ps x k (omega arith)

pub sixteen_behind : (ps : List Place) (k : ℕ) → length ps ≤ k → get_or (sixteen ps) k no_place ≡ no_place
sixteen_behind ps k h = behind 16 16 ps no_place k h
