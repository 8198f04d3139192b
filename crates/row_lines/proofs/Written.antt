-- A row is read exactly where a row's line is written: each part of an answer tells the bytes it was read from, and these bytes lead to that answer.
-- Assumes nothing.
use mathlib.Core.Path.{◌≡◌, refl, sym, ap, ◌∙◌}
use mathlib.Core.List.{List, [], ◌++◌, append_assoc}
use mathlib.Core.Bool.{Bool, true, false}
use Prim.Native.Nat.{ℕ, zero, suc, ◌+◌, ◌≤◌}
use native.Mathlib.Omega.{arith}
use lib.ListN.{length, get_or, drop}
use lib.IntN.{ℤ}
use lib.Dec.{eqb}
use borrow.Author.Tests.{eq-eqb, eqb-true}
use Rattle.text.specs.Bytes.{bytes}
use Rattle.text.specs.Mark.{prefix_of, mark_at, after, read}
use Rattle.text.specs.Number.{is_digit, largest, field_at, signed_field_at}
use Rattle.text.specs.Numeral.{Numeral, Signed}
use Rattle.std.specs.Prelude.{Option, Some, None}
use Rattle.text.specs.declared.Field.{Field}
use Rattle.text.specs.declared.Field.TheVariants.{Number, Bad}
use Rattle.lines.specs.Reading.{also}
use Rattle.text.proofs.Tests.{test_case}
use Rattle.text.proofs.Places.{Between, between_both}
use Rattle.text.proofs.Answers.{mark_is, mark_missing, field_is}
use Rattle.text.proofs.Fields.{after_case, number_case, signed_field_bytes, mark_taken, field_taken, signed_field_taken}
use Rattle.row_lines.specs.declared.RowLine.{RowLine}
use Rattle.row_lines.specs.declared.RowLine.TheVariants.{Measured, Filled}
use Rattle.row_lines.specs.Form.{ValueFields, no_field, next, source, Row}
use Rattle.row_lines.specs.Reading.{value_at, ValuesAt, values_from, end_of, all_of, measured_row, filled_row, rest_at, row_at}

-- ---- one value

pub record ValueIs (s : List ℕ) (at c : ℕ) (v : ℤ) (n : ℕ) : Type 0 where
  pub number : List ℕ
  pub worth : List ℕ
  pub between : Between s at n (bytes " v" ++ number ++ bytes "=" ++ worth)
  pub bound : c ≤ largest
  pub channel : Numeral number c
  pub signed : Signed worth v

abbrev ValueHere : List ℕ → ℕ → ℕ → Field ℤ → Type 0
ValueHere s at c (Number v n) = ValueIs s at c v n
ValueHere s at c Bad = Unit

value_of : (s : List ℕ) (at c k n : ℕ) → field_at (bytes " v") s at largest ≡ Number k n → k ≡ c
    → (x : Field ℤ) → signed_field_at (bytes "=") s n ≡ x → ValueHere s at c x
value_of s at c k n e z (Number v m) h =
    let a = field_is (bytes " v") s at largest c n (rw z at e) in
    let b = signed_field_bytes (bytes "=") s n v m h in
    let f = between_both a.1 a.2.between in
    record {
      number = a.2.word;
      worth = b.0;
      between = rw append_assoc (between_both f b.1);
      bound = a.2.bound;
      channel = a.2.numeral;
      signed = b.2;
    }
value_of s at c k n e z Bad h = tt

value_here : (s : List ℕ) (at c : ℕ) → ValueHere s at c (value_at s at c)
unfolding value_at
value_here s at c =
    number_case (ValueHere s at c) (field_at (bytes " v") s at largest) _ _
    (λ k n e. test_case (ValueHere s at c) (eqb k c) _ _ (λ t. value_of s at c k n e (eqb-true k c t) (signed_field_at (bytes "=") s n) refl) (λ t. tt))
    (λ e. tt)

pub value_is : (s : List ℕ) (at c : ℕ) (v : ℤ) (n : ℕ) → value_at s at c ≡ Number v n → ValueIs s at c v n
value_is s at c v n h = rw h at (value_here s at c)

value_taken : (s : List ℕ) (at c : ℕ) (r : List ℕ) → is_digit (get_or r 0 0) ≡ false → {m w : List ℕ} {v : ℤ} → drop at s ≡ bytes " v" ++ m ++ bytes "=" ++ w ++ r
    → c ≤ largest → Numeral m c → Signed w v → (n : ℕ) × (value_at s at c ≡ Number v n) × (drop n s ≡ r)
unfolding value_at
value_taken s at c r stop {m} {w} {v} e l num sg =
    let f : drop at s ≡ bytes " v" ++ (m ++ (bytes "=" ++ (w ++ r))) = simp append_assoc at e in
    let k = field_taken s at (bytes "=" ++ (w ++ r)) refl (bytes " v") (omega arith) largest f num l (omega arith) in
    let n = signed_field_taken s k.0 r stop (bytes "=") (omega arith) k.2 sg in
    (n.0, rw (k.1, eq-eqb c c refl) n.1, n.2)

-- ---- the values of a row

abbrev ValuesHere : ℕ → ℕ → List ℕ → ℕ → ValuesAt → Type 0
ValuesHere k c s at (Some r) = (ws : List ℕ) × Between s at r.next ws × ValueFields c k ws r.value
ValuesHere k c s at None = Unit

values_more : (k c : ℕ) (s : List ℕ) (at : ℕ) (v : ℤ) (n : ℕ) (x : ValuesAt) → ValueIs s at c v n → ValuesHere k (c + 1) s n x → ValuesHere (suc k) c s at (also v x)
values_more k c s at v n (Some x) h r = (_, between_both h.between r.1, next h.bound h.channel h.signed r.2)
values_more k c s at v n None h r = tt

values_here : (k c : ℕ) (s : List ℕ) (at : ℕ) → at ≤ length s → ValuesHere k c s at (values_from k c s at)
unfolding values_from
values_here zero c s at l = ([], record { bytes = refl; end = omega arith; inside = l }, no_field)
values_here (suc k) c s at l =
    number_case (ValuesHere (suc k) c s at) (value_at s at c) _ _
    (λ v n e. let h = value_is s at c v n e in values_more k c s at v n (values_from k (c + 1) s n) h (values_here k (c + 1) s n h.between.inside))
    (λ e. tt)

-- no digit follows a number in a row
values_stop : {c k : ℕ} {ws : List ℕ} {vs : List ℤ} (r : List ℕ) → is_digit (get_or r 0 0) ≡ false → ValueFields c k ws vs → is_digit (get_or (ws ++ r) 0 0) ≡ false
values_stop r stop no_field = stop
values_stop r stop (next l num sg rest) = refl

values_taken : {c k : ℕ} {ws : List ℕ} {vs : List ℤ} (s : List ℕ) (at : ℕ) (r : List ℕ) → is_digit (get_or r 0 0) ≡ false → ValueFields c k ws vs → drop at s ≡ ws ++ r
    → (n : ℕ) × (values_from k c s at ≡ read vs n) × (drop n s ≡ r)
unfolding values_from
values_taken s at r stop no_field e = (at, refl, e)
values_taken s at r stop (next {c} {k} {n} {w} {ws} l num sg rest) e =
    let f : drop at s ≡ bytes " v" ++ n ++ bytes "=" ++ w ++ (ws ++ r) = rw append_assoc at e in
    let a = value_taken s at c (ws ++ r) (values_stop r stop rest) f l num sg in
    let b = values_taken s a.0 r stop rest a.2 in
    (b.0, rw (a.1, b.1), b.2)

-- ---- what follows the source

-- the values of a row, and where they end
abbrev pub Fields : ℕ → List ℕ → ℕ → ℕ → ValuesAt → Type 0
Fields ch s a n x = (fs : List ℕ) × Between s a n (fs ++ bytes "\n") × ValueFields 0 ch fs (all_of x) × (e : ℕ) × (x ≡ read (all_of x) e)

rest_of : (s : List ℕ) (a ch : ℕ) (x : ValuesAt) → ValuesHere ch 0 s a x → (n : ℕ) → after (end_of x) (λ m. mark_at (bytes "\n") s m) None ≡ Some n
    → Fields ch s a n x
rest_of s a ch (Some r) h n e = (h.0, between_both h.1 (mark_is (bytes "\n") s r.next n e), h.2, r.next, refl)
rest_of s a ch None h n e = let z : ◌≡◌ {A = ℕ} 0 1 = cc in absurd (omega arith)

rest_is : (s : List ℕ) (a ch n : ℕ) → a ≤ length s → rest_at s a ch ≡ Some n → Fields ch s a n (values_from ch 0 s a)
unfolding rest_at
rest_is s a ch n l e = rest_of s a ch (values_from ch 0 s a) (values_here ch 0 s a l) n e

rest_taken : {ch : ℕ} {fs : List ℕ} {vs : List ℤ} (s : List ℕ) (a : ℕ) (r : List ℕ) → ValueFields 0 ch fs vs → drop a s ≡ fs ++ (bytes "\n" ++ r)
    → (n : ℕ) × (rest_at s a ch ≡ Some n) × (all_of (values_from ch 0 s a) ≡ vs) × (drop n s ≡ r)
unfolding rest_at
rest_taken s a r f e =
    let k = values_taken s a (bytes "\n" ++ r) refl f e in
    let m = mark_taken s k.0 r (bytes "\n") (omega arith) k.2 in
    (m.0, rw k.1 m.1, rw k.1, m.2)

-- ---- a row

row_line : (ch : ℕ) (s : List ℕ) (at t e b a n : ℕ) (m : Bool) (x : ValuesAt)
    → field_at (bytes "t=") s at largest ≡ Number t e → mark_at (bytes " src=") s e ≡ Some b → mark_at (source m) s b ≡ Some a
    → Fields ch s a n x → (l : List ℕ) × Between s at n l × Row ch l m t (all_of x)
row_line ch s at t e b a n m x h k g f =
    let d = field_is (bytes "t=") s at largest t e h in
    let w = between_both (between_both (between_both d.1 d.2.between) (mark_is (bytes " src=") s e b k)) (mark_is (source m) s b a g) in (
      _,
      between_both w f.1,
      record {
        digits = d.2.word;
        fields = f.0;
        numeral = d.2.numeral;
        bound = d.2.bound;
        valued = f.2;
        spelled = sym (append_assoc (bytes "t=" ++ d.2.word ++ bytes " src=" ++ source m) f.0 (bytes "\n"));
      },
    )

-- what an answer says of the line at a place
abbrev pub RowHere : ℕ → List ℕ → ℕ → Option RowLine → Type 0
RowHere ch s at (Some (Measured r)) =
    (l : List ℕ) × Between s at r.next l × Row ch l true r.time (all_of (values_from ch 0 s r.values))
    × (e : ℕ) × (values_from ch 0 s r.values ≡ read (all_of (values_from ch 0 s r.values)) e)
RowHere ch s at (Some (Filled n)) = (l : List ℕ) × (t : ℕ) × (vs : List ℤ) × Between s at n l × Row ch l false t vs
RowHere ch s at None = Unit

pub row_here : (ch : ℕ) (s : List ℕ) (at : ℕ) → RowHere ch s at (row_at s at ch)
unfolding row_at
row_here ch s at =
    number_case P (field_at (bytes "t=") s at largest) _ _
    (λ t e h. after_case P (mark_at (bytes " src=") s e) _ _
    (λ b k. after_case P (mark_at (bytes "m") s b) _ _
    (λ a g. after_case P (rest_at s a ch) _ _
    (λ n f. measured t a n (rest_is s a ch n (mark_is (bytes "m") s b a g).inside f) (λ x. row_line ch s at t e b a n true _ h k g x))
    (λ f. tt))
    (λ g. after_case P (mark_at (bytes "f") s b) _ _
    (λ a o. after_case P (rest_at s a ch) _ _
    (λ n f. filled t n (row_line ch s at t e b a n false _ h k o (rest_is s a ch n (mark_is (bytes "f") s b a o).inside f)))
    (λ f. tt))
    (λ o. tt)))
    (λ k. tt))
    (λ h. tt)
  where
    P : Option RowLine → Type 0
    P r = RowHere ch s at r

    measured : (t a n : ℕ) → Fields ch s a n (values_from ch 0 s a)
        → (Fields ch s a n (values_from ch 0 s a) → (l : List ℕ) × Between s at n l × Row ch l true t (all_of (values_from ch 0 s a)))
        → RowHere ch s at (measured_row t a n)
    measured t a n f line = let l = line f in (l.0, l.1, l.2, f.3, f.4)

    filled : (t n : ℕ) {vs : List ℤ} → (l : List ℕ) × Between s at n l × Row ch l false t vs → RowHere ch s at (filled_row n)
    filled t n {vs} f = (f.0, t, vs, f.1, f.2)

-- the answer to a row's line, and the rest behind it
abbrev pub Taken : Bool → ℕ → List ℕ → ℕ → ℕ → List ℤ → List ℕ → Type 0
Taken true ch s at t vs r = (a : ℕ) × (n : ℕ) × (row_at s at ch ≡ measured_row t a n) × (all_of (values_from ch 0 s a) ≡ vs) × (drop n s ≡ r)
Taken false ch s at t vs r = (n : ℕ) × (row_at s at ch ≡ filled_row n) × (drop n s ≡ r)

front_taken : (m : Bool) {ch t : ℕ} {l : List ℕ} {vs : List ℤ} (s : List ℕ) (at : ℕ) (r : List ℕ) (f : Row ch l m t vs) → drop at s ≡ l ++ r
    → (e : ℕ) × (b : ℕ) × (field_at (bytes "t=") s at largest ≡ Number t e) × (mark_at (bytes " src=") s e ≡ Some b)
    × (drop b s ≡ source m ++ (f.fields ++ (bytes "\n" ++ r)))
front_taken m s at r f e =
    let x : List ℕ = source m ++ (f.fields ++ (bytes "\n" ++ r)) in
    let g : drop at s ≡ bytes "t=" ++ (f.digits ++ (bytes " src=" ++ x)) = simp append_assoc at (e ∙ ap (λ (y : List ℕ). y ++ r) f.spelled) in
    let k = field_taken s at (bytes " src=" ++ x) refl (bytes "t=") (omega arith) largest g f.numeral f.bound (omega arith) in
    let n = mark_taken s k.0 x (bytes " src=") (omega arith) k.2 in
    (k.0, n.0, k.1, n.1, n.2)

pub row_taken : (m : Bool) {ch t : ℕ} {l : List ℕ} {vs : List ℤ} (s : List ℕ) (at : ℕ) (r : List ℕ) → Row ch l m t vs → drop at s ≡ l ++ r → Taken m ch s at t vs r
unfolding row_at prefix_of
row_taken true s at r f e =
    let h = front_taken true s at r f e in
    let a = mark_taken s h.1 (f.fields ++ (bytes "\n" ++ r)) (bytes "m") (omega arith) h.4 in
    let q = rest_taken s a.0 r f.valued a.2 in
    (a.0, q.0, rw (h.2, h.3, a.1, q.1), q.2, q.3)
row_taken false s at r f e =
    let h = front_taken false s at r f e in
    let m : mark_at (bytes "m") s h.1 ≡ None = mark_missing (bytes "m") s h.1 h.4 refl in
    let a = mark_taken s h.1 (f.fields ++ (bytes "\n" ++ r)) (bytes "f") (omega arith) h.4 in
    let q = rest_taken s a.0 r f.valued a.2 in
    (q.0, rw (h.2, h.3, m, a.1, q.1), q.3)

-- a row has as many values as its sheet has channels
pub values_length : {c k : ℕ} {ws : List ℕ} {vs : List ℤ} → ValueFields c k ws vs → length vs ≡ k
values_length no_field = refl
values_length (next l num sg rest) = ap suc (values_length rest)
