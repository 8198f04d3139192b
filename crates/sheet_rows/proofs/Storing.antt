-- Storing one value, one row at a time: with what is left stored behind it, the slice is always what it will be at the end.
-- Assumes nothing.
use mathlib.Core.Path.{◌≡◌, refl, sym, ap, subst, ◌∙◌}
use mathlib.Core.List.{List, [], ◌∷◌, ◌++◌}
use Prim.Native.Nat.{ℕ, suc, ◌+◌, ◌-◌, ◌*◌, ◌≤◌, ◌<◌}
use native.Mathlib.Nat.{zero-add, add-zero, zero-mul, suc-mul}
use native.Mathlib.Numerals.{add-one}
use native.Mathlib.Omega.{arith}
use lib.ListN.{length, set, length-set, length-append}
use lib.Seq.{sets, length-sets}
use lib.IntN.{ℤ}
use Rattle.std.specs.Prelude.{Option, Some, None}
use Rattle.text.specs.Mark.{read}
use Rattle.text.specs.declared.Field.TheVariants.{Number, Bad}
use Rattle.lines.specs.Reading.{also}
use Rattle.row_lines.specs.declared.RowLine.{RowLine}
use Rattle.row_lines.specs.Form.{Sample, Rows, no_row, measured, filled}
use Rattle.row_lines.specs.Reading.{value_at, ValuesAt, values_from, end_of, all_of, measured_row, filled_row, row_at, Listing, listed, broken, also_measured, also_filled, sample_at, rows_from, rows_of}
use Rattle.row_lines.proofs.Steps.{values_over, values_none, values_next}
use Rattle.row_lines.proofs.Written.{RowHere, row_here, values_length}
use Rattle.row_lines.proofs.Exact.{row_past, rows_over, rows_turn, rows_exact}
use Rattle.lists.specs.Front.{in_front}
use Rattle.lists.proofs.Front.{front}
use Rattle.sheet_rows.specs.Answer.{times_in, values_in, times_of, values_of}
use Rattle.sheet_rows.specs.Room.{Storable, Fitting}

-- ---- the values of a row

also_split : (v : ℤ) (x : ValuesAt) (vs : List ℤ) (n : ℕ) → also v x ≡ read vs n → (ws : List ℤ) × (x ≡ read ws n) × (vs ≡ v ∷ ws)
also_split v (Some r) vs n h = let e : Some r.next ≡ Some n = ap end_of h in let f : r.next ≡ n = cc in (r.value, rw (← f), sym (ap all_of h))
also_split v None vs n h = let z : ◌≡◌ {A = ℕ} 0 1 = cc in absurd (omega arith)

-- the values of the channels below c are stored
pub record Storing (s : List ℕ) (at ch place : ℕ) (values₀ values : List ℤ) (next c : ℕ) : Type 0 where
  pub rest : List ℤ
  pub end : ℕ
  pub reads : values_from (ch - c) c s next ≡ read rest end
  pub long : length values ≡ length values₀
  pub same : sets values (place + c) rest ≡ sets values₀ place (all_of (values_from ch 0 s at))

module _ (s : List ℕ) (at ch place : ℕ) (values₀ values : List ℤ) (next c : ℕ) (i : Storing s at ch place values₀ values next c) where
  pub store_over : ch ≤ c → values ≡ sets values₀ place (all_of (values_from ch 0 s at))
  store_over l =
      let e : read i.rest i.end ≡ read [] next = sym i.reads ∙ values_over ch c s next l in
      let f : i.rest ≡ [] = ap all_of e in
      rw f at i.same

  module _ (l : c < ch) where
    pub store_bad : value_at s next c ≡ Bad → ⊥
    store_bad h =
        let e : read i.rest i.end ≡ None = sym i.reads ∙ values_none ch c s next l h in
        let z : ◌≡◌ {A = ℕ} 0 1 = cc in
        omega arith

    pub store_next : (v : ℤ) (n : ℕ) → value_at s next c ≡ Number v n → Storing s at ch place values₀ (set values (place + c) v) n (c + 1)
    store_next v n h =
        let p = also_split v (values_from (ch - (c + 1)) (c + 1) s n) i.rest i.end (sym (values_next ch c s next v n l h) ∙ i.reads) in
        let e : place + (c + 1) ≡ suc (place + c) = omega arith in
        record {
          rest = p.0;
          end = i.end;
          reads = p.1;
          long = length-set values (place + c) v ∙ i.long;
          same = rw e (rw p.2 at i.same);
        }

-- ---- the rows

pub length_times : (xs : List Sample) → length (times_in xs) ≡ length xs
unfolding times_in
length_times [] = refl
length_times (x ∷ xs) = ap suc (length_times xs)

-- as many values as rows × channels
pub length_values : {ch k : ℕ} {ls : List (List ℕ)} {xs : List Sample} → Rows ch ls xs k → length (values_in xs) ≡ length xs * ch
unfolding values_in
length_values {ch} no_row = sym (zero-mul ch)
length_values {ch} (measured {vs} {samples} row rest) =
    let e : length vs ≡ ch = values_length row.valued in
    let h : length (values_in samples) ≡ length samples * ch = length_values rest in
    rw (length-append vs (values_in samples), suc-mul) (omega arith)
length_values (filled row rest) = length_values rest

sets_append : (l : List ℤ) (i : ℕ) (vs ws : List ℤ) → sets l i (vs ++ ws) ≡ sets (sets l i vs) (i + length vs) ws
sets_append l i [] ws = rw add-zero
sets_append l i (v ∷ vs) ws = let e : i + suc (length vs) ≡ suc i + length vs = omega arith in rw (e, sets_append (set l i v) (suc i) vs ws)

-- the rows before a place are stored, n of them measured
pub record Filling (s : List ℕ) (ch : ℕ) (times₀ : List ℕ) (values₀ : List ℤ) (times : List ℕ) (values : List ℤ) (at n : ℕ) : Type 0 where
  pub fuel : ℕ
  pub rest : List Sample
  pub filled : ℕ
  pub enough : length s ≤ at + fuel
  pub reads : rows_from fuel ch s at ≡ listed rest filled
  pub rows_fit : n + length rest ≤ length times₀
  pub values_fit : (n + length rest) * ch ≤ length values₀
  pub t_long : length times ≡ length times₀
  pub v_long : length values ≡ length values₀
  pub t_same : sets times n (times_in rest) ≡ in_front (times_of (rows_of ch s)) times₀
  pub v_same : sets values (n * ch) (values_in rest) ≡ in_front (values_of (rows_of ch s)) values₀

pub fill_start : (s : List ℕ) (ch : ℕ) (times : List ℕ) (values : List ℤ) → Fitting s ch (length times) (length values) → Filling s ch times values times values 0 0
fill_start s ch times values p =
    let xs : List Sample = p.samples in
    let l : length (values_in xs) ≡ length xs * ch = length_values ((rows_exact ch s xs p.filled).0 p.reads) in
    let t : sets times 0 (times_in xs) ≡ in_front (times_in xs) times = front (times_in xs) times (omega (arith, p.rows_fit, length_times xs)) in
    let v : sets values 0 (values_in xs) ≡ in_front (values_in xs) values = front (values_in xs) values (omega (arith, p.values_fit)) in
    record {
      fuel = length s;
      rest = xs;
      filled = p.filled;
      enough = omega arith;
      reads = p.reads;
      rows_fit = omega (arith, p.rows_fit);
      values_fit = rw zero-add p.values_fit;
      t_long = refl;
      v_long = refl;
      t_same = rw p.reads t;
      v_same = rw (p.reads, zero-mul) v;
    }

measured_split : (x : Sample) (y : Listing) (xs : List Sample) (k : ℕ) → also_measured x y ≡ listed xs k → (ys : List Sample) × (y ≡ listed ys k) × (xs ≡ x ∷ ys)
measured_split x (listed ys j) xs k h = let e : j ≡ k = cc in (ys, rw e, cc)
measured_split x broken xs k h = let z : ◌≡◌ {A = ℕ} 0 1 = cc in absurd (omega arith)

filled_split : (y : Listing) (xs : List Sample) (k : ℕ) → also_filled y ≡ listed xs k → (j : ℕ) × (y ≡ listed xs j)
filled_split (listed ys j) xs k h = let e : ys ≡ xs = cc in (j, rw e)
filled_split broken xs k h = let z : ◌≡◌ {A = ℕ} 0 1 = cc in absurd (omega arith)

module _ (s : List ℕ) (ch : ℕ) (times₀ : List ℕ) (values₀ : List ℤ) (times : List ℕ) (values : List ℤ) (at n : ℕ) (i : Filling s ch times₀ values₀ times values at n) where
  pub fill_over : length s ≤ at → (times ≡ in_front (times_of (rows_of ch s)) times₀) × (values ≡ in_front (values_of (rows_of ch s)) values₀)
  unfolding times_in values_in
  fill_over l =
      let e : listed i.rest i.filled ≡ listed [] 0 = sym i.reads ∙ rows_over i.fuel ch s at l in
      let f : i.rest ≡ [] = cc in
      (rw f at i.t_same, rw f at i.v_same)

  module _ (x : Option RowLine) (l : at < length s) (e : x ≡ row_at s at ch) where
    pub fill_bad : x ≡ None → ⊥
    fill_bad h =
        let f : broken ≡ listed i.rest i.filled = sym (rows_turn i.fuel ch s at None i.enough l (sym h ∙ e)) ∙ i.reads in
        let z : ◌≡◌ {A = ℕ} 0 1 = cc in
        omega arith

    -- a filled row is skipped
    pub fill_filled : (m : ℕ) → x ≡ filled_row m → (at < m) × Filling s ch times₀ values₀ times values m n
    fill_filled m h =
        let p : at < m = row_past ch s at (filled_row m) (sym h ∙ e) in
        let q = filled_split (rows_from (i.fuel - 1) ch s m) i.rest i.filled (sym (rows_turn i.fuel ch s at (filled_row m) i.enough l (sym h ∙ e)) ∙ i.reads) in (
          p,
          record {
            fuel = i.fuel - 1;
            rest = i.rest;
            filled = q.0;
            enough = omega (arith, i.enough);
            reads = q.1;
            rows_fit = i.rows_fit;
            values_fit = i.values_fit;
            t_long = i.t_long;
            v_long = i.v_long;
            t_same = i.t_same;
            v_same = i.v_same;
          },
        )

    module _ (t a m : ℕ) (h : x ≡ measured_row t a m) where
      here : RowHere ch s at (measured_row t a m)
      here = subst (λ (r : Option RowLine). RowHere ch s at r) (sym e ∙ h) (row_here ch s at)

      turn : (ys : List Sample) × (rows_from (i.fuel - 1) ch s m ≡ listed ys i.filled) × (i.rest ≡ sample_at s ch t a ∷ ys)
      turn =
          measured_split (sample_at s ch t a) (rows_from (i.fuel - 1) ch s m) i.rest i.filled
          (sym (rows_turn i.fuel ch s at (measured_row t a m) i.enough l (sym h ∙ e)) ∙ i.reads)

      pub fill_past : at < m
      fill_past = row_past ch s at (measured_row t a m) (sym h ∙ e)

      pub fill_row : n < length times
      fill_row =
          let f : n + suc (length turn.0) ≤ length times₀ = rw turn.2 at i.rows_fit in
          omega (arith, i.t_long)

      pub fill_room : n * ch + ch ≤ length values
      fill_room =
          let f : (n + suc (length turn.0)) * ch ≤ length values₀ = rw turn.2 at i.values_fit in
          omega (arith, i.v_long)

      pub fill_storable : Storable s a ch (n * ch) (length values)
      fill_storable = record { worth = all_of (values_from ch 0 s a); end = here.3; reads = here.4; fits = fill_room }

      pub fill_measured : Filling s ch times₀ values₀ (set times n t) (sets values (n * ch) (all_of (values_from ch 0 s a))) m (n + 1)
      unfolding times_in values_in
      fill_measured =
          let vs : List ℤ = all_of (values_from ch 0 s a) in
          let w : length vs ≡ ch = values_length here.2.valued in
          let k : n * ch + ch ≡ (n + 1) * ch = omega arith in
          let f : n + suc (length turn.0) ≤ length times₀ = rw turn.2 at i.rows_fit in
          let g : (n + suc (length turn.0)) * ch ≤ length values₀ = rw turn.2 at i.values_fit in
          record {
            fuel = i.fuel - 1;
            rest = turn.0;
            filled = i.filled;
            enough = let p = fill_past in omega (arith, i.enough);
            reads = turn.1;
            rows_fit = omega arith;
            values_fit = omega arith;
            t_long = length-set times n t ∙ i.t_long;
            v_long = length-sets values (n * ch) vs ∙ i.v_long;
            t_same = rw add-one (rw turn.2 at i.t_same);
            v_same =
                let b : sets (sets values (n * ch) vs) (n * ch + ch) (values_in turn.0) ≡ in_front (values_of (rows_of ch s)) values₀ =
                rw (sets_append values (n * ch) vs (values_in turn.0), w) at (rw turn.2 at i.v_same) in
                rw k at b;
          }
