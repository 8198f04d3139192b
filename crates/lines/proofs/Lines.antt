-- A line that ends in its only line feed is a line of every text that begins with it, so lines that do are the lines of their text.
-- Assumes nothing.
use mathlib.Core.Path.{◌≡◌, refl, sym, ap, ◌∙◌}
use mathlib.Core.List.{List, [], ◌∷◌, ◌++◌, append_assoc}
use mathlib.Core.Bool.{Bool, true, false}
use Prim.Native.Nat.{ℕ, ◌+◌, ◌<◌}
use native.Mathlib.Nat.{zero-add}
use native.Mathlib.Omega.{arith}
use lib.ListN.{length, length-append}
use lib.Dec.{eqb}
use Rattle.text.specs.Bytes.{bytes}
use Rattle.text.proofs.Tests.{by_test}
use Rattle.lines.specs.Lines.{cut, lines, size, joined}
use Rattle.lines.proofs.Counts.{count}

-- a line that ends in its only line feed
pub record Fed (l : List ℕ) : Type 0 where
  pub body : List ℕ
  pub ends : l ≡ body ++ bytes "\n"
  pub clear : count 10 body ≡ 0

pub fed_some : {l : List ℕ} → Fed l → 0 < length l
fed_some f = omega (arith, ap length f.ends, length-append f.body (bytes "\n"))

lines_body : (w r : List ℕ) → count 10 w ≡ 0 → lines (w ++ (10 ∷ r)) ≡ (w ++ (10 ∷ [])) ∷ lines r
unfolding lines count
lines_body [] r h = refl
lines_body (b ∷ w) r h =
    by_test (eqb b 10)
    (λ t. absurd (full (rw t at h)))
    (λ t. rw (t, lines_body w r (rw (t, zero-add) at h)))
  where
    full : 1 + count 10 w ≡ 0 → ⊥
    full g = omega arith

pub lines_fed : {l : List ℕ} (r : List ℕ) → Fed l → lines (l ++ r) ≡ l ∷ lines r
lines_fed r f = rw (f.ends, append_assoc f.body (bytes "\n") r) (lines_body f.body r f.clear)

-- the first line of a text, and the text behind it
pub lines_split : (s l : List ℕ) (ls : List (List ℕ)) → lines s ≡ l ∷ ls → (r : List ℕ) × (s ≡ l ++ r) × (lines r ≡ ls)
unfolding lines
lines_split [] l ls h = let z : ◌≡◌ {A = ℕ} 0 1 = cc in absurd (omega arith)
lines_split (b ∷ s) l ls h = go (eqb b 10) (lines s) refl h (λ k ks. lines_split s k ks)
  where
    go : (t : Bool) (x : List (List ℕ)) → lines s ≡ x → cut b t x ≡ l ∷ ls
        → ((k : List ℕ) (ks : List (List ℕ)) → lines s ≡ k ∷ ks → (r : List ℕ) × (s ≡ k ++ r) × (lines r ≡ ks))
        → (r : List ℕ) × (b ∷ s ≡ l ++ r) × (lines r ≡ ls)
    go true x e g more = let f : l ≡ b ∷ [] = cc in let d : x ≡ ls = cc in (s, rw f, e ∙ d)
    go false [] e g more = let f : l ≡ b ∷ [] = cc in let d : [] ≡ ls = cc in (s, rw f, e ∙ d)
    go false (k ∷ ks) e g more =
        let f : l ≡ b ∷ k = cc in
        let d : ks ≡ ls = cc in
        let m = more k ks e in
        (m.0, rw f (ap (λ (y : List ℕ). b ∷ y) m.1), m.2 ∙ d)

-- what stands before the line feed of a text's line has none
pub lines_clear : (s w : List ℕ) (ls : List (List ℕ)) → lines s ≡ (w ++ bytes "\n") ∷ ls → count 10 w ≡ 0
unfolding lines count
lines_clear [] w ls h = let z : ◌≡◌ {A = ℕ} 0 1 = cc in absurd (omega arith)
lines_clear (b ∷ s) w ls h = go (eqb b 10) refl (lines s) refl w h (λ v ks. lines_clear s v ks)
  where
    go : (t : Bool) → eqb b 10 ≡ t → (x : List (List ℕ)) → lines s ≡ x → (w : List ℕ) → cut b t x ≡ (w ++ bytes "\n") ∷ ls
        → ((v : List ℕ) (ks : List (List ℕ)) → lines s ≡ (v ++ bytes "\n") ∷ ks → count 10 v ≡ 0) → count 10 w ≡ 0
    go t e x f [] g more = refl
    go true e x f (c ∷ w) g more =
        let h : b ∷ [] ≡ c ∷ (w ++ bytes "\n") = cc in
        let i : [] ≡ w ++ bytes "\n" = cc in
        absurd (omega (arith, ap length i, length-append w (bytes "\n")))
    go false e [] f (c ∷ w) g more =
        let h : b ∷ [] ≡ c ∷ (w ++ bytes "\n") = cc in
        let i : [] ≡ w ++ bytes "\n" = cc in
        absurd (omega (arith, ap length i, length-append w (bytes "\n")))
    go false e (k ∷ ks) f (c ∷ w) g more =
        let h : b ∷ k ≡ c ∷ (w ++ bytes "\n") = cc in
        let i : k ≡ w ++ bytes "\n" = cc in
        let j : b ≡ c = cc in
        rw (← j, e, more w ks (f ∙ ap (λ (y : List ℕ). y ∷ ks) i))

pub lines_none : (s : List ℕ) → lines s ≡ [] → s ≡ []
unfolding lines
lines_none [] h = refl
lines_none (b ∷ s) h = absurd (go (eqb b 10) (lines s) h)
  where
    go : (t : Bool) (x : List (List ℕ)) → cut b t x ≡ [] → ⊥
    go true x g = let z : ◌≡◌ {A = ℕ} 0 1 = cc in omega arith
    go false [] g = let z : ◌≡◌ {A = ℕ} 0 1 = cc in omega arith
    go false (k ∷ ks) g = let z : ◌≡◌ {A = ℕ} 0 1 = cc in omega arith

-- ---- several lines

-- what is true of each line
pub data Each (P : List ℕ → Type 0) : List (List ℕ) → Type 0 where
  none : Each P []
  also : {l : List ℕ} {ls : List (List ℕ)} → P l → Each P ls → Each P (l ∷ ls)

pub each_append : {P : List ℕ → Type 0} {ls ms : List (List ℕ)} → Each P ls → Each P ms → Each P (ls ++ ms)
each_append none h = h
each_append (also p k) h = also p (each_append k h)

pub each_map : {P Q : List ℕ → Type 0} {ls : List (List ℕ)} → ((l : List ℕ) → P l → Q l) → Each P ls → Each Q ls
each_map f none = none
each_map f (also {l} p h) = also (f l p) (each_map f h)

pub size_append : (ls ms : List (List ℕ)) → size (ls ++ ms) ≡ size ls + size ms
unfolding size
size_append [] ms = sym (zero-add (size ms))
size_append (l ∷ ls) ms = let h : size (ls ++ ms) ≡ size ls + size ms = size_append ls ms in omega arith

pub joined_append : (ls ms : List (List ℕ)) → joined (ls ++ ms) ≡ joined ls ++ joined ms
unfolding joined
joined_append [] ms = refl
joined_append (l ∷ ls) ms = ap (λ (y : List ℕ). l ++ y) (joined_append ls ms) ∙ sym (append_assoc l (joined ls) (joined ms))

pub joined_length : (ls : List (List ℕ)) → length (joined ls) ≡ size ls
unfolding joined size
joined_length [] = refl
joined_length (l ∷ ls) = length-append l (joined ls) ∙ ap (λ (n : ℕ). length l + n) (joined_length ls)

-- a text is its lines one after the other
pub lines_joined : (s : List ℕ) → joined (lines s) ≡ s
unfolding lines joined
lines_joined [] = refl
lines_joined (b ∷ s) = go (eqb b 10) (lines s) (lines_joined s)
  where
    go : (t : Bool) (x : List (List ℕ)) → joined x ≡ s → joined (cut b t x) ≡ b ∷ s
    go true x e = ap (λ (y : List ℕ). b ∷ y) e
    go false [] e = ap (λ (y : List ℕ). b ∷ y) e
    go false (l ∷ ls) e = ap (λ (y : List ℕ). b ∷ y) e

pub size_lines : (s : List ℕ) → size (lines s) ≡ length s
size_lines s = sym (joined_length (lines s)) ∙ ap length (lines_joined s)

-- lines that end in their only line feed are the lines of their text
pub joined_lines : {ls : List (List ℕ)} (r : List ℕ) → Each Fed ls → lines (joined ls ++ r) ≡ ls ++ lines r
unfolding joined
joined_lines r none = refl
joined_lines r (also {l} {ls} f h) = ap lines (append_assoc l (joined ls) r) ∙ (lines_fed (joined ls ++ r) f ∙ ap (λ (x : List (List ℕ)). l ∷ x) (joined_lines r h))
