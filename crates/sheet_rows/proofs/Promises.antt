-- What the row reader's contract promises, sentence by sentence: which number is answered, what is handed back with it, and what the slices hold. Each test is its sentence,
-- since a text is read as rows exactly where its lines are rows.
-- Assumes nothing.
use mathlib.Core.Path.{◌≡◌, refl, sym, ap, ◌∙◌}
use mathlib.Core.Bool.{Bool, true, false, not, ◌&&◌}
use mathlib.Core.List.{List}
use Prim.Native.Nat.{ℕ, zero, suc, ◌<◌}
use native.Mathlib.Omega.{arith}
use lib.Dec.{T, leb}
use lib.IntN.{ℤ}
use lib.ListN.{length}
use borrow.Author.Tests.{leb-true, le-leb}
use Rattle.numbers.proofs.Parts.{holds}
use Rattle.text.proofs.Tests.{by_test, both, false_true}
use Rattle.refusals.specs.First.{AllExact, check_at, Refused, unless_refused}
use Rattle.refusals.proofs.First.{refused, first_is, passed, none_fails, unless_some, unless_number}
use Rattle.lines.specs.Lines.{lines}
use Rattle.row_lines.specs.Form.{Sample, Rows}
use Rattle.row_lines.specs.Reading.{limit, channels_in_range, Listing, listed, broken, is_broken, rows_of}
use Rattle.row_lines.proofs.Exact.{rows_exact, unbroken_rows, rows_unbroken}
use Rattle.lists.specs.Front.{in_front}
use Rattle.sheet_rows.specs.Answer.{Answer, measured_of, has_room, RoomFor, Readable, text_check, room_check, row_checks, refusal, no_rows, counted, answer_of, times_in, values_in, times_of, values_of}
use Rattle.sheet_rows.proofs.Numbers.{channels_are, are_channels, room_for, for_room}

-- a test that holds is an equation
told : {b : Bool} → T b → b ≡ true
told {b = true} t = refl
told {b = false} t = absurd t

-- no rows are broken where they are read
unread : (a b : Bool) → not (a && b) ≡ true → a ≡ true → b ≡ false
unread true true h e = absurd (false_true h)
unread true false h e = refl
unread false b h e = absurd (false_true e)

module _ (s : List ℕ) (channels times values : ℕ) where
  text_sound : T (text_check s channels).passes → (text_check s channels).sentence
  text_sound t =
      let b = both (leb (length s) limit) (not (channels_in_range channels && is_broken (rows_of channels s))) (told t) in
      (leb-true (length s) limit b.0, λ w. unbroken_rows channels s (unread (channels_in_range channels) (is_broken (rows_of channels s)) b.1 (are_channels channels w)))

  text_complete : (text_check s channels).sentence → T (text_check s channels).passes
  text_complete h = by_test (channels_in_range channels)
      (λ w. rw (le-leb (length s) limit h.0, w, rows_unbroken channels s (h.1 (channels_are channels w))) tt)
      (λ w. rw (le-leb (length s) limit h.0, w) tt)

  room_sound : T (room_check s channels times values).passes → (room_check s channels times values).sentence
  room_sound t xs k r = room_for (length xs) channels times values (ap (λ (x : Listing). has_room (measured_of x) channels times values) (sym ((rows_exact channels s xs k).1 r)) ∙ told t)

  room_complete : (room_check s channels times values).sentence → T (room_check s channels times values).passes
  room_complete h = go (rows_of channels s) refl
    where
      go : (x : Listing) → rows_of channels s ≡ x → T (has_room (measured_of x) channels times values)
      go (listed xs k) e = holds (for_room (length xs) channels times values (h xs k ((rows_exact channels s xs k).0 e)))
      go broken e = holds (for_room 0 channels times values (record { few = omega arith; times_hold = omega arith; values_hold = omega arith }))

  -- each test of the list holds exactly where its sentence does
  pub exact : AllExact (row_checks s channels times values)
  exact = (
    record { sound = text_sound; complete = text_complete },
    λ _. (
      record { sound = λ t. channels_are channels (told t); complete = λ w. holds (are_channels channels w) },
      λ _. (record { sound = room_sound; complete = room_complete }, λ _. tt),
    ),
  )

  -- the answer's number is the first refusal that applies
  number_is : (answer_of s channels times values).number ≡ refusal s channels times values
  number_is = unless_number (λ (x : Answer). x.number) (refusal s channels times values) (counted (rows_of channels s)) (no_rows (refusal s channels times values)) refl refl

  -- a number m is answered exactly when its condition applies and no earlier one does
  pub number_refused : ((answer_of s channels times values).number ≡ 0 → ⊥) → Refused (row_checks s channels times values) (answer_of s channels times values).number
  number_refused h = rw number_is (refused (row_checks s channels times values) exact (λ z. h (number_is ∙ z)))

  pub refused_number : (m : ℕ) → Refused (row_checks s channels times values) m → (answer_of s channels times values).number ≡ m
  refused_number m h = number_is ∙ first_is (row_checks s channels times values) exact h

  -- 0 is answered exactly when none of refusals 1, 4 and 5 applies
  pub number_none : (answer_of s channels times values).number ≡ 0 → Readable s channels times values
  number_none e =
      let p = passed (row_checks s channels times values) tt exact (sym number_is ∙ e) in
      let c = p.each 1 (omega arith) in
      let r = (p.each 0 (omega arith)).1 c in
      record { short = (p.each 0 (omega arith)).0; in_range = c; samples = r.0; filled = r.1; rows = r.2; room = p.each 2 (omega arith) r.0 r.1 r.2 }

  pub none_number : Readable s channels times values → (answer_of s channels times values).number ≡ 0
  none_number r = number_is ∙ none_fails (row_checks s channels times values) exact (record { each = each })
    where
      same_rows : (xs : List Sample) (k : ℕ) → Rows channels (lines s) xs k → RoomFor (length xs) channels times values
      same_rows xs k h =
          let e : listed r.samples r.filled ≡ listed xs k = sym ((rows_exact channels s r.samples r.filled).1 r.rows) ∙ (rows_exact channels s xs k).1 h in
          let f : r.samples ≡ xs = cc in
          rw (sym f) r.room

      each : (j : ℕ) → j < 3 → (check_at (row_checks s channels times values) j).sentence
      each zero h = (r.short, λ _. (r.samples, r.filled, r.rows))
      each (suc zero) h = r.in_range
      each (suc (suc zero)) h = same_rows
      each (suc (suc (suc j))) h = absurd (omega arith)

  -- under a refusal no row is answered
  pub refused_rows : ((answer_of s channels times values).number ≡ 0 → ⊥) → answer_of s channels times values ≡ no_rows (refusal s channels times values)
  refused_rows h = unless_some (refusal s channels times values) _ _ (λ z. h (number_is ∙ z))

  -- else the counts of measured and of filled rows
  pub rows_answered : (r : Readable s channels times values) → answer_of s channels times values ≡ record { number = 0; rows = length r.samples; filled = r.filled }
  rows_answered r = rw (sym number_is ∙ none_number r, (rows_exact channels s r.samples r.filled).1 r.rows) refl

module _ (s : List ℕ) (channels : ℕ) (ts : List ℕ) (vs : List ℤ) where
  abbrev number : ℕ
  number = (answer_of s channels (length ts) (length vs)).number

  -- nothing lent changes under a refusal
  pub refused_times : (number ≡ 0 → ⊥) → unless_refused number (in_front (times_of (rows_of channels s)) ts) ts ≡ ts
  refused_times h = unless_some number _ _ h

  pub refused_values : (number ≡ 0 → ⊥) → unless_refused number (in_front (values_of (rows_of channels s)) vs) vs ≡ vs
  refused_values h = unless_some number _ _ h

  -- else times and values stand in sheet order, and places beyond the measured rows keep their contents
  pub times_stored : (r : Readable s channels (length ts) (length vs)) → unless_refused number (in_front (times_of (rows_of channels s)) ts) ts ≡ in_front (times_in r.samples) ts
  times_stored r = rw (none_number s channels (length ts) (length vs) r, (rows_exact channels s r.samples r.filled).1 r.rows) refl

  pub values_stored : (r : Readable s channels (length ts) (length vs)) → unless_refused number (in_front (values_of (rows_of channels s)) vs) vs ≡ in_front (values_in r.samples) vs
  values_stored r = rw (none_number s channels (length ts) (length vs) r, (rows_exact channels s r.samples r.filled).1 r.rows) refl
