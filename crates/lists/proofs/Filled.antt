-- What `fill` leaves at each place: inside the run the new value, elsewhere the old one. A part of a slice that was lent, filled and put back is a run in the whole.
-- Assumes nothing.
use mathlib.Core.Path.{◌≡◌, refl, sym, ap, ◌∙◌}
use Prim.Native.Nat.{ℕ, zero, suc, ◌+◌, ◌*◌, ◌-◌, ◌≤◌, ◌<◌}
use native.Mathlib.Omega.{arith}
use native.Mathlib.Nat.{zero-add, suc-add, mul-le-mul_right}
use native.Mathlib.Numerals.{add-one}
use native.Mathlib.Decide.{dec_lt}
use mathlib.Core.List.{List, [], ◌∷◌, ◌++◌}
use Rattle.std.proofs.lemmas.Grind.{common_steps}
use lib.ListN.{length, get_or, set, take, drop, replicate, length-set, length-take, length-drop}
use borrow.Rule.Slice.PartMut.{mid_of, post_of, put_mid, put_same}
use lib.Seq.{set-append_left, set_comm, get_or-set_same, get_or-set_other, length-take-le}
use Rattle.std.proofs.lemmas.List.{ext_get_or, same_lists, get_or_default}
use Rattle.lists.specs.Fill.{fill, fill_rows}

module _ {X : Type 0} where
  pub length_fill : (b n : ℕ) (f : ℕ → X) (w : List X) → length (fill b n f w) ≡ length w
  unfolding fill
  length_fill b zero f w = refl
  length_fill b (suc n) f w = rw length-set (length_fill b n f w)

  -- a place before or after the run
  pub fill_out : (b n : ℕ) (f : ℕ → X) (w : List X) (m : ℕ) (d : X) → (b ≤ m → m < b + n → ⊥) → get_or (fill b n f w) m d ≡ get_or w m d
  unfolding fill
  fill_out b zero f w m d h = refl
  fill_out b (suc n) f w m d h =
      get_or-set_other (fill b n f w) (b + n) m (f n) d (λ (e : m ≡ b + n). h (omega arith) (omega arith))
      ∙ fill_out b n f w m d (λ p q. h p (omega arith))

  -- a place of the run
  pub fill_in : (b n : ℕ) (f : ℕ → X) (w : List X) (i : ℕ) (d : X) → i < n → b + n ≤ length w → get_or (fill b n f w) (b + i) d ≡ f i
  unfolding fill
  fill_in b zero f w i d h k = absurd (omega arith)
  fill_in b (suc n) f w i d h k = go (dec_lt i n) (λ p. fill_in b n f w i d p (omega arith))
    where
      go : Dec (i < n) → (i < n → get_or (fill b n f w) (b + i) d ≡ f i) → get_or (set (fill b n f w) (b + n) (f n)) (b + i) d ≡ f i
      go (yes p) r = get_or-set_other (fill b n f w) (b + n) (b + i) (f n) d (λ (e : b + i ≡ b + n). omega arith) ∙ r p
      go (no q) r =
          let e : n ≡ i = omega arith in
          rw e (get_or-set_same (fill b i f w) (b + i) (f i) d (omega (arith, length_fill b i f w)))

  -- two fillings that agree on the run are one
  pub fill_cong : (b n : ℕ) (f g : ℕ → X) (w : List X) → ((i : ℕ) → i < n → f i ≡ g i) → fill b n f w ≡ fill b n g w
  unfolding fill
  fill_cong b zero f g w h = refl
  fill_cong b (suc n) f g w h =
      let e : fill b n f w ≡ fill b n g w = fill_cong b n f g w (λ i p. h i (omega arith)) in
      let k : f n ≡ g n = h n (omega arith) in
      cc

  -- ---- a loop that fills from b on: before its first store, after one more, at its end
  pub fill_none : (b : ℕ) (f : ℕ → X) (w : List X) → w ≡ fill b 0 f w
  unfolding fill
  fill_none b f w = refl

  pub fill_next : (b n : ℕ) (f : ℕ → X) (w : List X) {l : List X} {v : X} → l ≡ fill b n f w → v ≡ f n → set l (b + n) v ≡ fill b (n + 1) f w
  unfolding fill
  fill_next b n f w {l} {v} e h = rw (add-one n) (cc)

  pub fill_to : (b : ℕ) (f : ℕ → X) (w : List X) {i n : ℕ} {l : List X} → i ≡ n → l ≡ fill b i f w → l ≡ fill b n f w
  fill_to b f w p e = rw (← p) e

  -- ---- a loop that fills downward, from place j of the run up to place n: one place more in front
  fill_front : (b n : ℕ) (f g : ℕ → X) (w : List X) → ((i : ℕ) → i < n → f i ≡ g (suc i)) → set (fill (suc b) n f w) b (g 0) ≡ fill b (suc n) g w
  unfolding fill
  fill_front b zero f g w h = let e : b + 0 ≡ b = omega arith in rw e refl
  fill_front b (suc n) f g w h =
      let e : suc b + n ≡ b + suc n = omega arith in
      set_comm (fill (suc b) n f w) (suc b + n) b (f n) (g 0) (λ (p : suc b + n ≡ b). omega arith)
      ∙ (rw (fill_front b n f g w (λ i p. h i (omega arith)), h n (omega arith), e) refl)

  pub fill_down : (b j n : ℕ) (f : ℕ → X) (w : List X) {l : List X} {v : X} → 0 < j → j ≤ n → l ≡ fill (b + j) (n - j) (λ m. f (j + m)) w → v ≡ f (j - 1) → set l (b + (j - 1)) v ≡ fill (b + (j - 1)) (n - (j - 1)) (λ m. f (j - 1 + m)) w
  fill_down b j n f w h k e q =
      let x : b + j ≡ suc (b + (j - 1)) = omega arith in
      let y : n - (j - 1) ≡ suc (n - j) = omega arith in
      let z : j - 1 ≡ j - 1 + 0 = omega arith in
      rw (e, x, y, q, ap f z) (fill_front (b + (j - 1)) (n - j) (λ m. f (j + m)) (λ m. f (j - 1 + m)) w (λ i p. ap f (omega arith)))

  -- a place before the run is as it was, so rows of earlier nodes may be read while a later row is filled
  pub fill_before : (b n : ℕ) (f : ℕ → X) (w : List X) {l : List X} (m : ℕ) (d : X) → l ≡ fill b n f w → m < b → get_or l m d ≡ get_or w m d
  fill_before b n f w m d e h = rw e (fill_out b n f w m d (λ p q. omega arith))

  -- a front that has one value at every place
  pub fill_same_value : (n : ℕ) (v : X) (w : List X) → n ≤ length w → replicate n v ++ drop n w ≡ fill 0 n (λ i. v) w
  fill_same_value n v w h = ext_get_or v (replicate n v ++ drop n w) (fill 0 n (λ i. v) w) (grind (arith, common_steps, length_fill 0 n (λ i. v) w)) each
    where
      each : (i : ℕ) → i < length (replicate n v ++ drop n w) → get_or (replicate n v ++ drop n w) i v ≡ get_or (fill 0 n (λ i. v) w) i v
      each i l = elim (dec_lt i n) [
        | yes p ↦
            let e : get_or (replicate n v ++ drop n w) i v ≡ v = grind (arith, common_steps) in
            e ∙ sym (rw zero-add at (fill_in 0 n (λ i. v) w i v p (omega arith)))
        | no p ↦
            let e : get_or (replicate n v ++ drop n w) i v ≡ get_or w i v = grind (arith, common_steps) in
            e ∙ sym (fill_out 0 n (λ i. v) w i v (λ _ q. omega arith))
      ]

  -- ---- a part that was lent, `&mut w[a..]` or `&mut w[a..a + k]`
  set_append : (p q : List X) (i : ℕ) (v : X) → set (p ++ q) (length p + i) v ≡ p ++ set q i v
  set_append [] q i v = rw zero-add refl
  set_append (x ∷ p) q i v = rw suc-add (ap (λ (l : List X). x ∷ l) (set_append p q i v))

  fill_mid : (a k n : ℕ) (f : ℕ → X) (w : List X) → a ≤ length w → n ≤ length (mid_of a k w) → put_mid a k w (fill 0 n f (mid_of a k w)) ≡ fill a n f w
  unfolding fill
  fill_mid a k zero f w h g = put_same a k w
  fill_mid a k (suc n) f w h g =
      let y : List X = fill 0 n f (mid_of a k w) in
      let l : length (take a w) ≡ a = length-take-le a w h in
      let e : set (y ++ post_of a k w) n (f n) ≡ set y n (f n) ++ post_of a k w = set-append_left y (post_of a k w) n (f n) (omega (arith, length_fill 0 n f (mid_of a k w))) in
      let s : set (take a w ++ (y ++ post_of a k w)) (a + n) (f n) ≡ take a w ++ set (y ++ post_of a k w) n (f n) = rw l at (set_append (take a w) (y ++ post_of a k w) n (f n)) in
      rw (zero-add n, ← e, ← s) (ap (λ (x : List X). set x (a + n) (f n)) (fill_mid a k n f w h (omega arith)))

  -- what `&mut w[a..]` was filled with is a run of the whole from a on
  pub fill_part : (a n : ℕ) (f : ℕ → X) (w : List X) {y : List X} → a + n ≤ length w → y ≡ fill 0 n f (mid_of a (length w - a) w) → put_mid a (length w - a) w y ≡ fill a n f w
  fill_part a n f w {y} h e =
      rw e (fill_mid a (length w - a) n f w (omega arith) (simp (length-take, length-drop) (omega arith)))

  -- ---- a list that was copied into a part is a run of its values
  fill_whole : (v w : List X) (d : X) → length v ≡ length w → v ≡ fill 0 (length v) (λ i. get_or v i d) w
  fill_whole v w d e =
      same_lists v (fill 0 (length v) (λ i. get_or v i d) w) (e ∙ sym (length_fill 0 (length v) (λ i. get_or v i d) w))
      (λ k x h. get_or_default v k x d h ∙ sym (rw zero-add at (fill_in 0 (length v) (λ i. get_or v i d) w k x h (omega (arith, e)))))

  pub fill_list : (a : ℕ) (v w : List X) (d : X) → a + length v ≤ length w → put_mid a (a + length v - a) w v ≡ fill a (length v) (λ i. get_or v i d) w
  fill_list a v w d h =
      let n : a + length v - a ≡ length v = omega arith in
      let m : length (mid_of a (length v) w) ≡ length v = simp (length-take, length-drop) (omega arith) in
      rw n (ap (put_mid a (length v) w) (fill_whole v (mid_of a (length v) w) d (sym m)) ∙ fill_mid a (length v) (length v) (λ i. get_or v i d) w (omega arith) (omega (arith, m)))

-- the places of an earlier row stand before those of row k
pub earlier_row : (a k rows : ℕ) → a < k → a * rows + rows ≤ k * rows
earlier_row a k rows h = omega (arith, mul-le-mul_right rows h)

-- ---- rows
module _ {X : Type 0} (n : ℕ) (f : ℕ → ℕ → X) where
  pub length_rows : (r : ℕ) (w : List X) → length (fill_rows n f r w) ≡ length w
  unfolding fill_rows
  length_rows zero w = refl
  length_rows (suc r) w = length_fill (r * n) n (f r) (fill_rows n f r w) ∙ length_rows r w

  -- place i of row q
  pub rows_in : (r : ℕ) (w : List X) (q i : ℕ) (d : X) → q < r → i < n → r * n ≤ length w → get_or (fill_rows n f r w) (q * n + i) d ≡ f q i
  unfolding fill_rows
  rows_in zero w q i d h k l = absurd (omega arith)
  rows_in (suc r) w q i d h k l = go (dec_lt q r) (λ p. rows_in r w q i d p k (omega (arith, earlier_row r (suc r) n (omega arith))))
    where
      go : Dec (q < r) → (q < r → get_or (fill_rows n f r w) (q * n + i) d ≡ f q i) → get_or (fill (r * n) n (f r) (fill_rows n f r w)) (q * n + i) d ≡ f q i
      go (yes p) e = fill_out (r * n) n (f r) (fill_rows n f r w) (q * n + i) d (λ a b. omega (arith, earlier_row q r n p)) ∙ e p
      go (no p) e =
          let z : q ≡ r = omega arith in
          rw z (fill_in (r * n) n (f r) (fill_rows n f r w) i d k (omega (arith, length_rows r w, earlier_row r (suc r) n (omega arith))))

  -- a place behind the rows
  pub rows_out : (r : ℕ) (w : List X) (m : ℕ) (d : X) → r * n ≤ m → get_or (fill_rows n f r w) m d ≡ get_or w m d
  unfolding fill_rows
  rows_out zero w m d h = refl
  rows_out (suc r) w m d h =
      let l = earlier_row r (suc r) n (omega arith) in
      fill_out (r * n) n (f r) (fill_rows n f r w) m d (λ a b. omega arith) ∙ rows_out r w m d (omega arith)

  -- one row more, as a loop over the rows fills it
  pub rows_next : (r : ℕ) (w : List X) {l : List X} → l ≡ fill_rows n f r w → fill (r * n) n (f r) l ≡ fill_rows n f (r + 1) w
  unfolding fill_rows
  rows_next r w e = rw (add-one r, e) refl

  pub rows_none : (w : List X) → w ≡ fill_rows n f 0 w
  unfolding fill_rows
  rows_none w = refl

  pub rows_to : (w : List X) {r q : ℕ} {l : List X} → r ≡ q → l ≡ fill_rows n f r w → l ≡ fill_rows n f q w
  rows_to w p e = rw (← p) e
