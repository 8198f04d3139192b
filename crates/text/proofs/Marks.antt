-- A key at a place of a text: what it means that the text begins with it there.
-- Assumes nothing.
use mathlib.Core.Path.{◌≡◌, refl, sym, ap, ◌∙◌}
use mathlib.Core.List.{List, [], ◌∷◌, ◌++◌}
use mathlib.Core.Bool.{true}
use Prim.Native.Nat.{ℕ, ◌+◌, ◌-◌, ◌≤◌}
use native.Mathlib.Omega.{arith}
use Rattle.std.specs.List.{starts_with}
use lib.ListN.{length, drop, length-drop, length-append}
use lib.Dec.{leb, eqb}
use borrow.Author.Tests.{eq-eqb, ne_eqb, eqb-true, eqb-false, leb-true}
use Rattle.text.specs.Mark.{prefix_of, key_at}
use Rattle.text.proofs.Tests.{both, by_test, false_true}

-- `starts_with` compares the key with the first bytes of the text, as many as the key has
pub starts_prefix : (key s : List ℕ) → starts_with eqb s key ≡ prefix_of key s
unfolding prefix_of
starts_prefix [] s = refl
starts_prefix (k ∷ ks) [] = refl
starts_prefix (k ∷ ks) (b ∷ s) = by_test (eqb b k) (λ e. rw (e, eq-eqb k b (sym (eqb-true b k e)), starts_prefix ks s)) (λ e. rw (e, ne_eqb k b (λ d. eqb-false b k e (sym d))))

-- a text that begins with a key is the key and what follows it
pub prefix_split : (key s : List ℕ) → prefix_of key s ≡ true → s ≡ key ++ drop (length key) s
unfolding prefix_of
prefix_split [] s h = refl
prefix_split (k ∷ ks) [] h = absurd (false_true h)
prefix_split (k ∷ ks) (b ∷ s) h =
    let t = both (eqb b k) (prefix_of ks s) h in
    let e : b ≡ k = eqb-true b k t.0 in
    rw (e, ← prefix_split ks s t.1)

pub prefix_append : (key r : List ℕ) → prefix_of key (key ++ r) ≡ true
unfolding prefix_of
prefix_append [] r = refl
prefix_append (k ∷ ks) r = rw (eq-eqb k k refl, prefix_append ks r)

-- a key that stands at a place ends inside the text
pub key_inside : (key s : List ℕ) (at : ℕ) → key_at key s at ≡ true → at + length key ≤ length s
key_inside key s at h =
    let t = both (leb at (length s)) (prefix_of key (drop at s)) h in
    let a : at ≤ length s = leb-true at (length s) t.0 in
    let l : length key ≤ length s - at = rw length-drop at (prefix_fits key (drop at s) t.1) in
    omega arith
  where
    prefix_fits : (key s : List ℕ) → prefix_of key s ≡ true → length key ≤ length s
    prefix_fits key s h =
        let e : length s ≡ length key + length (drop (length key) s) = ap length (prefix_split key s h) ∙ length-append key (drop (length key) s) in
        omega arith
