-- Windows and the operators that carry one are read exactly where the grammar has them: an answer gives the bytes of a window, and a window's bytes give the answer.
-- Assumes nothing.
use Rattle.std.specs.Prelude.{Option, Some, None}
use mathlib.Core.Path.{◌≡◌, refl, sym, ap, ◌∙◌}
use mathlib.Core.List.Memᴰ
use mathlib.Core.List.{List, [], ◌∷◌, ◌++◌, append_assoc}
use mathlib.Core.Logic.{◌⊎◌, inl, inr}
use mathlib.Core.Bool.{Bool, true, false, not, cond}
use Prim.Native.Nat.{ℕ, ◌+◌, ◌≤◌, ◌<◌}
use native.Mathlib.Omega.{arith}
use lib.ListN.{length, get_or, drop, length-append, get_or-append}
use lib.Dec.{leb, ltb, eqb}
use borrow.Author.Tests.{ltb-true, leb-true, le-leb, ne_eqb, eqb-true, eq-eqb, not-true}
use Rattle.text.specs.Bytes.{bytes}
use Rattle.text.specs.Numeral.{Numeral}
use Rattle.text.specs.Mark.{mark_at, after, read}
use Rattle.text.specs.declared.Field.TheVariants.{Number, Bad as Field_as_Bad}
use Rattle.text.specs.Number.{is_digit, number_at, after_number}
use Rattle.text.proofs.Tests.{both, by_test, false_true}
use Rattle.text.proofs.Places.{Between, between_both, after_bytes}
use Rattle.text.proofs.Digits.{digit_range}
use Rattle.text.proofs.Numerals.{Numbered, number_is, number_made, numeral_begins}
use Rattle.text.proofs.Answers.{mark_is, mark_made, mark_first, past, past_number}
use Rattle.tables.specs.declared.Span.{Span}
use Rattle.text.specs.declared.Read.{Read}
use Rattle.grammar.specs.declared.Operator.TheVariants.{Absent, Over}
use Rattle.grammar.specs.Operators.{letters, letter, ◌∈◌}
use Rattle.tables.specs.Tree.{LONGEST, NO_END, marked}
use Rattle.grammar.specs.Tree.{opens, closes, mark}
use Rattle.grammar.specs.Grammar.{WindowText, ended, endless}
use Rattle.grammar.specs.Reading.{bracket_at, high_end_at, window_at, over_window, timed_at, or_else, timed_among}
use Rattle.grammar.proofs.Letters.{letter_one, all_in, lettered, none_of}

-- a window's bytes stand between two places
pub record WindowIs (s : List ℕ) (at : ℕ) (r : Span) (n : ℕ) : Type 0 where
  pub word : List ℕ
  pub between : Between s at n word
  pub window : WindowText word r

bad_ends : {r : Span} {n : ℕ} → None ≡ read r n → ⊥
bad_ends h = cc

same_ends : {q r : Span} {m n : ℕ} → read q m ≡ read r n → (m ≡ n) × (q ≡ r)
same_ends {r = r} h = (ap (λ (w : Option (Read Span)). after w (λ x. x.next) 0) h, ap (λ (w : Option (Read Span)). after w (λ x. x.value) r) h)

-- ---- brackets

-- the bracket that a mark stands for, between two places
record BracketIs (bracket : Bool → List ℕ) (s : List ℕ) (at m n : ℕ) : Type 0 where
  excluded : Bool
  mark_is_it : m ≡ mark excluded
  between : Between s at n (bracket excluded)

bracket_is : (bracket : Bool → List ℕ) (s : List ℕ) (at m n : ℕ) → bracket_at (bracket false) (bracket true) s at ≡ Number m n → BracketIs bracket s at m n
unfolding bracket_at
bracket_is bracket s at m n h = go (mark_at (bracket false) s at) refl (mark_at (bracket true) s at) refl h
  where
    go : (x : Option ℕ) → mark_at (bracket false) s at ≡ x → (y : Option ℕ) → mark_at (bracket true) s at ≡ y
        → after x (λ k. Number 0 k) (after y (λ k. Number 1 k) Field_as_Bad) ≡ Number m n → BracketIs bracket s at m n
    go (Some k) e y f h =
        let a : 0 ≡ m = cc in
        let b : k ≡ n = cc in
        record { excluded = false; mark_is_it = sym a; between = rw (← b) (mark_is (bracket false) s at k e) }
    go None e (Some k) f h =
        let a : 1 ≡ m = cc in
        let b : k ≡ n = cc in
        record { excluded = true; mark_is_it = sym a; between = rw (← b) (mark_is (bracket true) s at k f) }
    go None e None f h = absurd (cc)

-- a mark is 0 or 1
pub bracket_small : (counted excluded s : List ℕ) (at : ℕ) {m n : ℕ} → bracket_at counted excluded s at ≡ Number m n → m ≤ 1
unfolding bracket_at
bracket_small counted excluded s at {m} {n} h = go (mark_at counted s at) (mark_at excluded s at) h
  where
    go : (x y : Option ℕ) → after x (λ k. Number 0 k) (after y (λ k. Number 1 k) Field_as_Bad) ≡ Number m n → m ≤ 1
    go (Some k) y h = let a : 0 ≡ m = cc in omega arith
    go None (Some k) h = let a : 1 ≡ m = cc in omega arith
    go None None h = absurd (cc)

-- two brackets of one byte each are told apart
bracket_made : (square round : ℕ) → eqb round square ≡ false → (b : Bool) (s : List ℕ) (at : ℕ) (t : List ℕ) → drop at s ≡ cond b round square ∷ t → bracket_at (square ∷ []) (round ∷ []) s at ≡ Number (mark b) (at + 1)
unfolding bracket_at
bracket_made square round d false s at t e = rw (mark_made (square ∷ []) s t at (omega arith) e) refl
bracket_made square round d true s at t e = rw (mark_first square [] s at (round ∷ t) e d, mark_made (round ∷ []) s t at (omega arith) e) refl

opens_is : (b : Bool) → opens b ≡ cond b 40 91 ∷ []
opens_is false = refl
opens_is true = refl

closes_is : (b : Bool) → closes b ≡ cond b 41 93 ∷ []
closes_is false = refl
closes_is true = refl

-- ---- windows

module _ (s : List ℕ) (at : ℕ) (r : Span) (n : ℕ) where
  -- after the comma: the end, or none
  high_end_is : (lo openlo comma end m : ℕ) → BracketIs opens s at openlo m → Numbered s m LONGEST lo comma → Between s comma end (bytes ",")
      → (x : Option ℕ) → mark_at (bytes "*]") s end ≡ x
      → after x
      (λ next. read (marked lo NO_END openlo 0) next)
      (after_number (number_at s end LONGEST)
      (λ hi close. after_number (bracket_at (closes false) (closes true) s close)
      (λ openhi next. cond (leb (lo + openlo + openhi) hi) (read (marked lo hi openlo openhi) next) None)
      None)
      None)
      ≡ read r n
      → WindowIs s at r n
  high_end_is lo openlo comma end m a b c (Some p) e h =
      let y = (same_ends h).0 in
      let z = (same_ends h).1 in
      record {
        word = opens a.excluded ++ (b.word ++ (bytes "," ++ bytes "*]"));
        between = rw (← y) (between_both a.between (between_both b.between (between_both c (mark_is (bytes "*]") s end p e))));
        window = rw (← z, a.mark_is_it) (endless a.excluded b.numeral b.bound);
      }
  high_end_is lo openlo comma end m a b c None e h =
      let i = past_number None (read r n) bad_ends (number_at s end LONGEST) _ h in
      let hi = i.0 in
      let close = i.1 in
      let j = number_is s end LONGEST hi close i.2 in
      let k = past_number None (read r n) bad_ends (bracket_at (closes false) (closes true) s close) _ i.3 in
      last hi close j k.0 k.1 (bracket_is closes s close k.0 k.1 k.2) (leb (lo + openlo + k.0) hi) refl k.3
    where
      last : (hi close : ℕ) → Numbered s end LONGEST hi close → (openhi next : ℕ) → BracketIs closes s close openhi next → (t : Bool) → leb (lo + openlo + openhi) hi ≡ t
          → cond t (read (marked lo hi openlo openhi) next) None ≡ read r n → WindowIs s at r n
      last hi close j openhi next q false g f = absurd (bad_ends f)
      last hi close j openhi next q true g f =
          let y = (same_ends f).0 in
          let z = (same_ends f).1 in
          let fits : lo + mark a.excluded + mark q.excluded ≤ hi = rw (← a.mark_is_it, ← q.mark_is_it) (leb-true (lo + openlo + openhi) hi g) in
          record {
            word = opens a.excluded ++ (b.word ++ (bytes "," ++ (j.word ++ closes q.excluded)));
            between = rw (← y) (between_both a.between (between_both b.between (between_both c (between_both j.between q.between))));
            window = rw (← z, a.mark_is_it, q.mark_is_it) (ended a.excluded q.excluded b.numeral j.numeral fits j.bound);
          }

  pub window_is : window_at s at ≡ read r n → WindowIs s at r n
  unfolding window_at high_end_at
  window_is h =
      let o = past_number None (read r n) bad_ends (bracket_at (opens false) (opens true) s at) _ h in
      let i = past_number None (read r n) bad_ends (number_at s o.1 LONGEST) _ o.3 in
      let k = past None (read r n) bad_ends (mark_at (bytes ",") s i.1) _ i.3 in
      high_end_is i.0 o.0 i.1 k.0 o.1 (bracket_is opens s at o.0 o.1 o.2) (number_is s o.1 LONGEST i.0 i.1 i.2) (mark_is (bytes ",") s i.1 k.0 k.1) (mark_at (bytes "*]") s k.0) refl k.2

-- a number is no `*`
star_missing : {w : List ℕ} {v : ℕ} → Numeral w v → (s : List ℕ) (at : ℕ) (t : List ℕ) → drop at s ≡ w ++ t → mark_at (bytes "*]") s at ≡ None
star_missing {w} n s at t e =
    let b = numeral_begins n in
    mark_first 42 (bytes "]") s at (w ++ t) e
    (rw (get_or-append w t 0 0 b.0) (ne_eqb (get_or w 0 0) 42 (λ z. let d = digit_range (get_or w 0 0) b.1 in omega arith)))

-- no digit follows a number in a window
close_no_digit : (b : Bool) (t : List ℕ) → is_digit (get_or (closes b ++ t) 0 0) ≡ false
close_no_digit false t = refl
close_no_digit true t = refl

-- the text of a window is read as it
pub window_made : {x : List ℕ} {r : Span} → WindowText x r → (s : List ℕ) (at : ℕ) (t : List ℕ) → drop at s ≡ x ++ t → window_at s at ≡ read r (at + length x)
unfolding window_at high_end_at
window_made (ended {v} {w} {lo} {hi} low high a b l m) s at t e =
    let e0 : drop at s ≡ opens low ++ (v ++ (bytes "," ++ (w ++ (closes high ++ t)))) =
    e ∙ append_assoc (opens low) _ t ∙ ap (λ (l : List ℕ). opens low ++ l) (append_assoc v _ t ∙ ap (λ (l : List ℕ). v ++ (bytes "," ++ l)) (append_assoc w (closes high) t)) in
    let o : length (opens low) ≡ 1 = ap length (opens_is low) in
    let c : length (closes high) ≡ 1 = ap length (closes_is high) in
    let e1 : drop (at + 1) s ≡ v ++ (bytes "," ++ (w ++ (closes high ++ t))) = rw o at (after_bytes s at (opens low) _ e0) in
    let e2 : drop (at + 1 + length v) s ≡ bytes "," ++ (w ++ (closes high ++ t)) = after_bytes s (at + 1) v _ e1 in
    let e3 : drop (at + 1 + length v + 1) s ≡ w ++ (closes high ++ t) = after_bytes s (at + 1 + length v) (bytes ",") _ e2 in
    let e4 : drop (at + 1 + length v + 1 + length w) s ≡ closes high ++ t = after_bytes s (at + 1 + length v + 1) w _ e3 in
    let n : at + 1 + length v + 1 + length w + 1 ≡ at + length (opens low ++ (v ++ (bytes "," ++ (w ++ closes high)))) =
    rw (length-append (opens low) _, length-append v _, length-append w _, o, c) (omega arith) in
    rw (bracket_made 91 40 refl low s at _ (rw (opens_is low) at e0))
    (rw (number_made s (at + 1) LONGEST lo v _ e1 a (omega arith) (omega arith) refl)
    (rw (mark_made (bytes ",") s _ (at + 1 + length v) (omega arith) e2)
    (rw (star_missing b s (at + 1 + length v + 1) _ e3)
    (rw (number_made s (at + 1 + length v + 1) LONGEST hi w _ e3 b m (omega arith) (close_no_digit high t))
    (rw (bracket_made 93 41 refl high s (at + 1 + length v + 1 + length w) t (rw (closes_is high) at e4))
    (rw (le-leb (lo + mark low + mark high) hi l, n)))))))
window_made (endless {v} {lo} low a l) s at t e =
    let e0 : drop at s ≡ opens low ++ (v ++ (bytes "," ++ (bytes "*]" ++ t))) =
    e ∙ append_assoc (opens low) _ t ∙ ap (λ (l : List ℕ). opens low ++ l) (append_assoc v _ t) in
    let o : length (opens low) ≡ 1 = ap length (opens_is low) in
    let e1 : drop (at + 1) s ≡ v ++ (bytes "," ++ (bytes "*]" ++ t)) = rw o at (after_bytes s at (opens low) _ e0) in
    let e2 : drop (at + 1 + length v) s ≡ bytes "," ++ (bytes "*]" ++ t) = after_bytes s (at + 1) v _ e1 in
    let e3 : drop (at + 1 + length v + 1) s ≡ bytes "*]" ++ t = after_bytes s (at + 1 + length v) (bytes ",") _ e2 in
    let n : at + 1 + length v + 1 + 2 ≡ at + length (opens low ++ (v ++ (bytes "," ++ bytes "*]"))) = rw (length-append (opens low) _, length-append v _, o) (omega arith) in
    rw (bracket_made 91 40 refl low s at _ (rw (opens_is low) at e0))
    (rw (number_made s (at + 1) LONGEST lo v _ e1 a l (omega arith) refl)
    (rw (mark_made (bytes ",") s _ (at + 1 + length v) (omega arith) e2)
    (rw (mark_made (bytes "*]") s _ (at + 1 + length v + 1) (omega arith) e3, n))))

-- ---- operators with a window

-- a kind's letter and its window's bytes stand between two places
pub record OperatorIs (ks s : List ℕ) (at k : ℕ) (r : Span) (n : ℕ) : Type 0 where
  pub among : k ∈ ks
  pub word : List ℕ
  pub between : Between s at n (letter k ++ word)
  pub window : WindowText word r

pub timed_is : (ks s : List ℕ) (at k : ℕ) (r : Span) (n : ℕ) → timed_among ks s at ≡ Over k r n → OperatorIs ks s at k r n
unfolding timed_among timed_at
timed_is [] s at k r n h = absurd (cc)
timed_is (j ∷ ks) s at k r n h = go (timed_is ks s at k r n) (mark_at (letter j) s at) refl h
  where
    over : (m : ℕ) → mark_at (letter j) s at ≡ Some m → (x : Option (Read Span)) → window_at s m ≡ x → or_else (over_window j x) (timed_among ks s at) ≡ Over k r n → OperatorIs (j ∷ ks) s at k r n
    over m e (Some q) f g =
        let a : j ≡ k = cc in
        let b : q.value ≡ r = cc in
        let c : q.next ≡ n = cc in
        let w = rw (b, c) at (window_is s m q.value q.next f) in
        record {
          among = Memᴰ.head (sym a);
          word = w.word;
          between = rw (← a) (between_both (mark_is (letter j) s at m e) w.between);
          window = w.window;
        }
    over m e None f g = absurd (cc)

    go : (timed_among ks s at ≡ Over k r n → OperatorIs ks s at k r n) → (m : Option ℕ) → mark_at (letter j) s at ≡ m
        → or_else (after m (λ i. over_window j (window_at s i)) Absent) (timed_among ks s at) ≡ Over k r n → OperatorIs (j ∷ ks) s at k r n
    go more (Some m) e g = over m e (window_at s m) refl g
    go more None e g =
        let o = more g in
        record { among = Memᴰ.tail o.among; word = o.word; between = o.between; window = o.window }

-- the letter of one of the kinds and a window's bytes are read
pub timed_made : (ks : List ℕ) → lettered ks ≡ true → {k : ℕ} {x : List ℕ} {r : Span} → k ∈ ks → WindowText x r
    → (s : List ℕ) (at : ℕ) (t : List ℕ) → drop at s ≡ letter k ++ (x ++ t) → timed_among ks s at ≡ Over k r (at + 1 + length x)
unfolding timed_among timed_at
timed_made [] l i w s at t e = absurd (Memᴰ.not-nil i)
timed_made (j ∷ ks) l {k} {x} {r} i w s at t e =
    by_test (eqb (get_or letters k 0) (get_or letters j 0)) same (other (λ m. timed_made ks (both (ltb j (length letters)) (lettered ks) l).1 m w s at t e))
  where
    j_in : j < length letters
    j_in = ltb-true j (length letters) (both (ltb j (length letters)) (lettered ks) l).0

    here : j ≡ k → or_else (timed_at j s at) (timed_among ks s at) ≡ Over k r (at + 1 + length x)
    here q = rw (q, mark_made (letter k) s (x ++ t) at (omega arith) e, window_made w s (at + 1) t (after_bytes s at (letter k) (x ++ t) e))

    same : eqb (get_or letters k 0) (get_or letters j 0) ≡ true → or_else (timed_at j s at) (timed_among ks s at) ≡ Over k r (at + 1 + length x)
    same q = here (letter_one j k j_in (ltb-true k (length letters) (all_in (λ m. ltb m (length letters)) i l)) (sym (eqb-true _ _ q)))

    later : eqb (get_or letters k 0) (get_or letters j 0) ≡ false → (k ≡ j) ⊎ (k ∈ ks) → k ∈ ks
    later q (inl z) = absurd (false_true (sym q ∙ eq-eqb _ _ (ap (λ (m : ℕ). get_or letters m 0) z)))
    later q (inr m) = m

    other : (k ∈ ks → timed_among ks s at ≡ Over k r (at + 1 + length x)) → eqb (get_or letters k 0) (get_or letters j 0) ≡ false
        → or_else (timed_at j s at) (timed_among ks s at) ≡ Over k r (at + 1 + length x)
    other more q = rw (mark_first (get_or letters j 0) [] s at (letter k ++ (x ++ t)) e q) (more (later q (Memᴰ.cases_cons i)))

-- where a byte stands that is the letter of none of the kinds, none is read
pub timed_none : (ks s : List ℕ) (at : ℕ) (l : List ℕ) → drop at s ≡ l → none_of (get_or l 0 0) ks ≡ true → timed_among ks s at ≡ Absent
unfolding timed_among timed_at
timed_none [] s at l e h = refl
timed_none (k ∷ ks) s at l e h =
    let t = both (not (eqb (get_or l 0 0) (get_or letters k 0))) (none_of (get_or l 0 0) ks) h in
    rw (mark_first (get_or letters k 0) [] s at l e (not-true _ t.0)) (timed_none ks s at l e t.1)
