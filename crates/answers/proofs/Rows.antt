-- The row reader on the part behind a sheet's requirements: it refuses only channels out of range and more rows than there is room for, since the sheet has checked the lines.
-- Assumes nothing.
use mathlib.Core.Path.{◌≡◌, refl, sym, ap, subst, ◌∙◌}
use mathlib.Core.Bool.{Bool, true, false, ◌&&◌}
use mathlib.Core.Logic.{◌⊎◌, inl, inr, ⊎_elim}
use mathlib.Core.List.{List, []}
use Prim.Native.Nat.{ℕ, suc, ◌*◌, ◌≤◌}
use native.Mathlib.Nat.{zero-mul, mul-le-mul}
use native.Mathlib.Omega.{arith}
use lib.Dec.{leb}
use lib.IntN.{ℤ}
use lib.ListN.{length, take, drop}
use lib.Seq.{take-append_seam}
use borrow.Author.Tests.{leb-true, leb-false, le-leb}
use Rattle.text.proofs.Tests.{false_true, by_test}
use Rattle.recordings.specs.declared.Predicate.{Predicate}
use Rattle.recordings.specs.Card.{Card, rows, card}
use Rattle.tables.specs.declared.Table.{Table}
use Rattle.predicates.specs.Predicates.{channels_obey, predicates_obey}
use Rattle.refusals.specs.First.{first, unless_refused}
use Rattle.rules.specs.Refusals.{checks}
use Rattle.verdicts.specs.Answer.{verdict_refusal}
use Rattle.row_lines.specs.Reading.{limit, channels_in_range, Listing, listed, broken, rows_of}
use Rattle.row_lines.proofs.Exact.{rows_exact}
use Rattle.lists.specs.Front.{in_front}
use Rattle.sheet_rows.specs.Answer.{Answer, measured_of, filled_of, has_room, answer_of, times_of, values_of}
use Rattle.sheet_rows.proofs.Storing.{length_times, length_values}
use Rattle.sheet_rows.proofs.Numbers.{channels_are, room_for, for_room}
use Rattle.heads.specs.declared.Head.{Head}
use Rattle.outcomes.specs.Outcome.{refused_by}
use Rattle.sheets.specs.Form.{SheetAnswer}
use Rattle.answers.specs.Answers.{ROWS, VALUES, CELLS, rows_part, measured, table_run, answered as outcome_by, table_answer, Checked, Stored}
use Rattle.answers.proofs.Figures.{only_number}
use Rattle.answers.proofs.Runs.{run_fits, run_wide, run_many, none_refused}

pub times_long : (l : Listing) → length (times_of l) ≡ measured_of l
times_long (listed xs k) = length_times xs
times_long broken = refl

pub values_long : (ch : ℕ) (s : List ℕ) → length (values_of (rows_of ch s)) ≡ measured_of (rows_of ch s) * ch
values_long ch s = go (rows_of ch s) refl
  where
    go : (l : Listing) → rows_of ch s ≡ l → length (values_of l) ≡ measured_of l * ch
    go (listed xs k) e = length_values ((rows_exact ch s xs k).0 e)
    go broken e = sym (zero-mul ch)

-- what is stored in front of a slice is its beginning
pub front_taken : {A : Type 0} (new old : List A) (n : ℕ) → n ≡ length new → take n (in_front new old) ≡ new
front_taken new old n e = rw e (take-append_seam new (drop (length new) old))

-- ---- channels out of range refuse the predicates too

wide : (ch : ℕ) (ps : List Predicate) → channels_in_range ch ≡ false → channels_obey ps ch ≡ false
unfolding channels_obey
wide ch ps h = go (leb 1 ch) (leb ch 8) h
  where
    go : (a b : Bool) → a && b ≡ false → a && (b && predicates_obey ps ch) ≡ false
    go true true h = absurd (false_true (sym h))
    go true false h = refl
    go false b h = refl

-- ---- too many rows are more than there is room for

pub product : (r ch : ℕ) → r ≤ ROWS → ch ≤ 8 → r * ch ≤ VALUES
product r ch h w = mul-le-mul h w

many : (r ch : ℕ) → ch ≤ 8 → has_room r ch ROWS VALUES ≡ false → suc ROWS ≤ r
many r ch w h = by_test (leb r ROWS)
    (λ e. let l : r ≤ 2_048 = leb-true r ROWS e in
    absurd (false_true (sym h ∙ for_room r ch ROWS VALUES (record { few = omega arith; times_hold = l; values_hold = product r ch l w }))))
    (λ e. leb-false r ROWS e)

few : (r ch : ℕ) → has_room r ch ROWS VALUES ≡ true → r ≤ ROWS
few r ch h = (room_for r ch ROWS VALUES h).times_hold

-- ---- what the reader answers

pub record Read (h : Head) (l : Listing) (a : Answer) : Type 0 where
  pub counted : a.rows ≡ measured_of l
  pub filled : a.filled ≡ filled_of l
  pub fits : measured_of l ≤ ROWS
  pub narrow : h.setup.channels ≤ 8

module _ (s : List ℕ) (h : Head) (p : Checked s h.setup.channels) where
  abbrev answer : Answer
  answer = answer_of s h.setup.channels ROWS VALUES

  short : leb (length s) limit ≡ true
  short = le-leb (length s) limit p.short

  four : channels_in_range h.setup.channels ≡ false → answer.number ≡ 4
  unfolding first
  four w = rw (short, w) refl

  module _ (w : channels_in_range h.setup.channels ≡ true) where
    five : has_room (measured_of (rows_of h.setup.channels s)) h.setup.channels ROWS VALUES ≡ false → answer.number ≡ 5
    unfolding first
    five m = rw (short, w, p.whole w, m) refl

    none : has_room (measured_of (rows_of h.setup.channels s)) h.setup.channels ROWS VALUES ≡ true → answer ≡ record { number = 0; rows = measured_of (rows_of h.setup.channels s); filled = filled_of (rows_of h.setup.channels s) }
    unfolding first
    none m = rw (short, w, p.whole w, m) refl

    narrow : h.setup.channels ≤ 8
    narrow = (channels_are h.setup.channels w).1

  rows_refused : (answer.number ≡ 0 → ⊥) → (channels_obey h.setup.predicates h.setup.channels ≡ false) ⊎ (suc ROWS ≤ measured_of (rows_of h.setup.channels s))
  rows_refused q = by_test (channels_in_range h.setup.channels)
      (λ w. by_test (has_room (measured_of (rows_of h.setup.channels s)) h.setup.channels ROWS VALUES)
      (λ m. absurd (q (ap (λ (a : Answer). a.number) (none w m))))
      (λ m. inr (many (measured_of (rows_of h.setup.channels s)) h.setup.channels (narrow w) m)))
      (λ w. inl (wide h.setup.channels h.setup.predicates w))

  rows_read : answer.number ≡ 0 → Read h (rows_of h.setup.channels s) answer
  rows_read q = by_test (channels_in_range h.setup.channels)
      (λ w. by_test (has_room (measured_of (rows_of h.setup.channels s)) h.setup.channels ROWS VALUES)
      (λ m. record {
        counted = ap (λ (a : Answer). a.rows) (none w m);
        filled = ap (λ (a : Answer). a.filled) (none w m);
        fits = few (measured_of (rows_of h.setup.channels s)) h.setup.channels m;
        narrow = narrow w;
      })
      (λ m. absurd (let e : ◌≡◌ {A = ℕ} 5 0 = sym (five w m) ∙ q in omega arith)))
      (λ w. absurd (let e : ◌≡◌ {A = ℕ} 4 0 = sym (four w) ∙ q in omega arith))

  -- ---- what is judged: no rows where they are refused, else what stands in front of the slices

  pub none_judged : (answer.number ≡ 0 → ⊥) → (t : Table) → refused_by (first (checks (card h.setup [] []) t)) ≡ table_answer h (rows_of h.setup.channels s) t
  none_judged q t =
      let c : Card = measured h (rows_of h.setup.channels s) in
      let e : first (checks (card h.setup [] []) t) ≡ first (table_run c t h.step h.drift) =
      ⊎_elim (λ w. run_wide c t h.step h.drift w) (λ m. run_many c t h.step h.drift (rw (times_long (rows_of h.setup.channels s)) m)) (rows_refused q) in
      only_number _ c t h.step h.drift (filled_of (rows_of h.setup.channels s)) (none_refused c t h.step h.drift)
      ∙ ap (λ (n : ℕ). outcome_by n c t h.step h.drift (filled_of (rows_of h.setup.channels s))) e

  module _ (a : Answer) (e : a ≡ answer) (z : a.number ≡ 0) where
    read : Read h (rows_of h.setup.channels s) a
    read = subst (λ (b : Answer). Read h (rows_of h.setup.channels s) b) (sym e) (rows_read (ap (λ (b : Answer). b.number) (sym e) ∙ z))

    pub rows_few : a.rows ≤ ROWS
    rows_few = omega (arith, read.counted, read.fits)

    pub values_few : a.rows * h.setup.channels ≤ VALUES
    values_few = product a.rows h.setup.channels rows_few read.narrow

    -- what was stored stands in front
    times_taken : (times times₀ : List ℕ) → times ≡ unless_refused a.number (in_front (times_of (rows_of h.setup.channels s)) times₀) times₀ → take a.rows times ≡ times_of (rows_of h.setup.channels s)
    times_taken times times₀ f = rw (f, z) (front_taken (times_of (rows_of h.setup.channels s)) times₀ a.rows (read.counted ∙ sym (times_long (rows_of h.setup.channels s))))

    values_taken : (values values₀ : List ℤ) → values ≡ unless_refused a.number (in_front (values_of (rows_of h.setup.channels s)) values₀) values₀
        → take (a.rows * h.setup.channels) values ≡ values_of (rows_of h.setup.channels s)
    values_taken values values₀ g = rw (g, z) (front_taken (values_of (rows_of h.setup.channels s)) values₀ (a.rows * h.setup.channels) (ap (λ (n : ℕ). n * h.setup.channels) read.counted ∙ sym (values_long h.setup.channels s)))

    pub rows_judged : (times : List ℕ) (values : List ℤ) → take a.rows times ≡ times_of (rows_of h.setup.channels s) → take (a.rows * h.setup.channels) values ≡ values_of (rows_of h.setup.channels s) → (t : Table)
        → outcome_by (verdict_refusal (card h.setup (take a.rows times) (take (a.rows * h.setup.channels) values)) t h.step h.drift CELLS) (card h.setup (take a.rows times) (take (a.rows * h.setup.channels) values)) t h.step h.drift a.filled
        ≡ table_answer h (rows_of h.setup.channels s) t
    rows_judged times values f g t =
        let c : Card = measured h (rows_of h.setup.channels s) in
        let n : rows c ≤ ROWS = rw (times_long (rows_of h.setup.channels s)) read.fits in
        rw (f, g, read.filled, run_fits c t h.step h.drift n) refl

-- what the row reader leaves in slices with room, read from the part behind the requirements
pub stored : (s : List ℕ) (x : SheetAnswer) → Checked (rows_part s x) x.head.setup.channels → (t : List ℕ) → t ≡ rows_part s x → (a : Answer) → a ≡ answer_of t x.head.setup.channels ROWS VALUES
    → (times times₀ : List ℕ) → times ≡ unless_refused a.number (in_front (times_of (rows_of x.head.setup.channels t)) times₀) times₀ → length times ≡ ROWS
    → (values values₀ : List ℤ) → values ≡ unless_refused a.number (in_front (values_of (rows_of x.head.setup.channels t)) values₀) values₀ → length values ≡ VALUES
    → Stored s x a times values
stored s x p t w a e times times₀ f m values values₀ g n =
    let c : a ≡ answer_of (rows_part s x) x.head.setup.channels ROWS VALUES = e ∙ ap (λ (r : List ℕ). answer_of r x.head.setup.channels ROWS VALUES) w in
    record {
      answer = c;
      times_long = m;
      values_long = n;
      times_read = λ z. times_taken (rows_part s x) x.head p a c z times times₀ (rw w at f);
      values_read = λ z. values_taken (rows_part s x) x.head p a c z values values₀ (rw w at g);
    }
