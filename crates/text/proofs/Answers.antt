-- What an answer tells a caller: the place after it is past its start and inside the text, and which bytes stand between; and the converse for a mark.
-- Assumes nothing.
use mathlib.Core.Path.{◌≡◌, refl, sym}
use mathlib.Core.List.{List, [], ◌∷◌, ◌++◌}
use mathlib.Core.Bool.{Bool, true, false, cond}
use Prim.Native.Nat.{ℕ, ◌+◌, ◌^◌, ◌≤◌, ◌<◌}
use native.Mathlib.Omega.{arith}
use lib.ListN.{length, get_or, drop}
use lib.Seq.{drop-drop}
use lib.Dec.{leb, eqb}
use borrow.Author.Tests.{le-leb}
use Rattle.text.specs.Mark.{prefix_of, key_at, mark_at, after}
use Rattle.text.specs.Number.{is_digit, number_at, field_at, after_number}
use Rattle.std.specs.Prelude.{Option, Some, None}
use Rattle.text.specs.declared.Field.{Field}
use Rattle.text.specs.declared.Field.TheVariants.{Number, Bad}
use Rattle.text.proofs.Tests.{both, never}
use Rattle.text.specs.Numeral.{Numeral}
use Rattle.text.proofs.Places.{Between, after_bytes, place_inside}
use Rattle.text.proofs.Marks.{key_inside, prefix_split, prefix_append}
use Rattle.text.proofs.Numerals.{Numbered, number_is, number_made}

-- a mark that was read: its bytes stand there
pub mark_is : (key s : List ℕ) (at n : ℕ) → mark_at key s at ≡ Some n → Between s at n key
unfolding mark_at
mark_is key s at n h = go (key_at key s at) refl h
  where
    go : (t : Bool) → key_at key s at ≡ t → cond t (Some (at + length key)) None ≡ Some n → Between s at n key
    go true e g =
        let z : at + length key ≡ n = cc in
        let p = both (leb at (length s)) (prefix_of key (drop at s)) e in
        record {
          end = sym z;
          bytes = rw (← z, ← drop-drop (length key) at s) (prefix_split key (drop at s) p.1);
          inside = rw (← z) (key_inside key s at e);
        }
    go false e g = let z : ◌≡◌ {A = ℕ} 0 1 = cc in absurd (omega arith)

-- a key that stands at a place is read
pub mark_made : (key s r : List ℕ) (at : ℕ) → 0 < length key → drop at s ≡ key ++ r → mark_at key s at ≡ Some (at + length key)
unfolding mark_at
mark_made key s r at p e =
    let l = place_inside s at key r e p in
    rw (le-leb at (length s) (omega arith), e, prefix_append key r)

-- where other bytes stand it is not
pub mark_missing : (key s : List ℕ) (at : ℕ) {l : List ℕ} → drop at s ≡ l → prefix_of key l ≡ false → mark_at key s at ≡ None
unfolding mark_at
mark_missing key s at e h = rw (e, h, never (leb at (length s)))

-- a number that follows a key
pub field_is : (key s : List ℕ) (at max v n : ℕ) → field_at key s at max ≡ Number v n
    → (m : ℕ) × Between s at m key × Numbered s m max v n
unfolding field_at
field_is key s at max v n h = go (mark_at key s at) refl h
  where
    go : (m : Option ℕ) → mark_at key s at ≡ m → after m (λ k. number_at s k max) Bad ≡ Number v n → (m : ℕ) × Between s at m key × Numbered s m max v n
    go (Some m) e g = (m, mark_is key s at m e, number_is s m max v n g)
    go None e g = let z : ◌≡◌ {A = ℕ} 0 1 = cc in absurd (omega arith)

-- an answer y that is not the one of a missing mark, or number, comes from what follows it
module _ {A : Type 0} (bad y : A) (ne : bad ≡ y → ⊥) where
  pub past : {B : Type 0} (o : Option B) (f : B → A) → after o f bad ≡ y → (x : B) × (o ≡ Some x) × (f x ≡ y)
  past (Some x) f h = (x, refl, h)
  past None f h = absurd (ne h)

  pub past_number : {V : Type 0} (x : Field V) (f : V → ℕ → A) → after_number x f bad ≡ y → (v : V) × (k : ℕ) × (x ≡ Number v k) × (f v k ≡ y)
  past_number (Number v k) f h = (v, k, refl, h)
  past_number Bad f h = absurd (ne h)

-- a key and a numeral within the bound that no digit follows are read
pub field_made : (key s : List ℕ) (at max v : ℕ) (w r : List ℕ) → 0 < length key → drop at s ≡ key ++ (w ++ r) → Numeral w v → v ≤ max → max < 10 ^ 10
    → is_digit (get_or r 0 0) ≡ false → field_at key s at max ≡ Number v (at + length key + length w)
unfolding field_at
field_made key s at max v w r p e n l m f =
    rw (mark_made key s (w ++ r) at p e) (number_made s (at + length key) max v w r (after_bytes s at key (w ++ r) e) n l m f)

-- where another byte stands, or none, a key that begins with c is missing
pub mark_first : (c : ℕ) (ks s : List ℕ) (at : ℕ) (l : List ℕ) → drop at s ≡ l → eqb (get_or l 0 0) c ≡ false → mark_at (c ∷ ks) s at ≡ None
unfolding prefix_of
mark_first c ks s at [] e h = mark_missing (c ∷ ks) s at e refl
mark_first c ks s at (b ∷ l) e h = mark_missing (c ∷ ks) s at e (rw h)
