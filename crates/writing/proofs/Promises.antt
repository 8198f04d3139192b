-- What the writer's contract promises, sentence by sentence: which number is answered, what the slice holds, and what is read from it.
-- Assumes nothing.
use mathlib.Core.Path.{◌≡◌, refl, sym, ap, subst, ◌∙◌}
use mathlib.Core.List.{List, ◌++◌}
use mathlib.Core.Bool.{true}
use Prim.Native.Nat.{ℕ, zero, suc, ◌≤◌, ◌<◌}
use native.Mathlib.Omega.{arith}
use Rattle.text.proofs.Tests.{by_test, by_le}
use lib.ListN.{length, take, drop}
use lib.Seq.{take-append_seam}
use Rattle.lists.specs.Front.{in_front}
use Rattle.refusals.specs.First.{Refused, check_at}
use Rattle.refusals.proofs.First.{refused, first_is, passed, none_fails, unless_none, unless_some, unless_number}
use Rattle.tables.specs.declared.Table.{Table}
use Rattle.tables.specs.Tree.{root}
use Rattle.tables.specs.Rules.{TableRules, table_obeys}
use Rattle.grammar.specs.Tree.{Tree}
use Rattle.grammar.specs.Grammar.{Requires}
use Rattle.building.specs.Unshared.{tree_of}
use Rattle.building.proofs.Unshared.{tree_says}
use Rattle.requirements.specs.Requirement.{Requirement, accepted, requirement_of}
use Rattle.requirements.proofs.Answers.{answer_sound}
use Rattle.requirements.proofs.Rules.{required_rules, derives_proper}
use Rattle.requirements.proofs.Says.{tree_back, root_says}
use Rattle.spelling.specs.Room.{LONGEST_TEXT}
use Rattle.spelling.proofs.Fits.{required_text, text_read, text_room}
use Rattle.writing.specs.declared.Written.{Written}
use Rattle.writing.specs.Written.{table_text, write_checks, write_refusal, no_text, written_of, Writable, text_slice}
use Rattle.writing.proofs.Refusals.{exact, is_three, is_fifteen, is_none, obeys_rules}

module _ (t : Table) (room : ℕ) where
  number_is : (written_of t room).number ≡ write_refusal t room
  number_is = unless_number (λ (w : Written). w.number) (write_refusal t room) (record { number = 0; length = length (table_text t) }) (no_text (write_refusal t room)) refl refl

  -- a number m is answered exactly when its condition applies and no earlier one does
  pub number_refused : ((written_of t room).number ≡ 0 → ⊥) → Refused (write_checks t room) (written_of t room).number
  number_refused h = rw number_is (refused (write_checks t room) (exact t room) (λ z. h (number_is ∙ z)))

  pub refused_number : (m : ℕ) → Refused (write_checks t room) m → (written_of t room).number ≡ m
  refused_number m h = number_is ∙ first_is (write_checks t room) (exact t room) h

  -- 0 is answered exactly when none applies
  pub number_none : (written_of t room).number ≡ 0 → Writable t room
  number_none e =
      let p = passed (write_checks t room) tt (exact t room) (sym number_is ∙ e) in
      record { ruled = p.each 0 (omega arith); required = p.each 1 (omega arith); fits = p.each 2 (omega arith) }

  pub none_number : Writable t room → (written_of t room).number ≡ 0
  none_number w = number_is ∙ none_fails (write_checks t room) (exact t room) (record { each = each })
    where
      each : (j : ℕ) → j < 3 → (check_at (write_checks t room) j).sentence
      each zero h = w.ruled
      each (suc zero) h = w.required
      each (suc (suc zero)) h = w.fits
      each (suc (suc (suc j))) h = absurd (omega arith)

  -- the length is the text's, 0 under a refusal
  pub length_is : (written_of t room).number ≡ 0 → (written_of t room).length ≡ length (table_text t)
  length_is e = ap (λ (w : Written). w.length) (unless_none (record { number = 0; length = length (table_text t) }) (no_text (write_refusal t room)) (sym number_is ∙ e))

  pub refused_length : ((written_of t room).number ≡ 0 → ⊥) → (written_of t room).length ≡ 0
  refused_length h = ap (λ (w : Written). w.length) (unless_some (write_refusal t room) _ _ (λ z. h (number_is ∙ z)))

  -- which is never more than 1,664: a slice of so many places is never too short
  pub length_small : (written_of t room).number ≡ 0 → (written_of t room).length ≤ LONGEST_TEXT
  length_small e = rw (length_is e) (text_room (tree_of t) (number_none e).required)

pub room_enough : (t : Table) (room : ℕ) → LONGEST_TEXT ≤ room → TableRules t → Requires (table_text t) (tree_of t) → (written_of t room).number ≡ 0
room_enough t room h r q = none_number t room (record { ruled = r; required = q; fits = omega (arith, text_room (tree_of t) q) })

-- ---- the slice

module _ (t : Table) (old : List ℕ) where
  abbrev number : ℕ
  number = (written_of t (length old)).number

  pub refused_slice : (number ≡ 0 → ⊥) → text_slice t old ≡ old
  refused_slice h = unless_some (write_refusal t (length old)) _ _ (λ z. h (number_is t (length old) ∙ z))

  pub slice_is : number ≡ 0 → text_slice t old ≡ table_text t ++ drop (length (table_text t)) old
  slice_is e = unless_none (in_front (table_text t) old) old (sym (number_is t (length old)) ∙ e)

  -- so the length is that of the front that holds the text
  pub front_is : number ≡ 0 → take (written_of t (length old)).length (text_slice t old) ≡ table_text t
  front_is e = rw (length_is t (length old) e, slice_is e) (take-append_seam (table_text t) (drop (length (table_text t)) old))

  -- ---- reading it back

  -- the table of the same tree unshared
  pub read_back : number ≡ 0 → requirement_of (take (written_of t (length old)).length (text_slice t old)) ≡ accepted (tree_of t)
  read_back e = rw (front_is e) (text_read (tree_of t) (number_none t (length old) e).required)

  -- which is the same requirement
  pub root_same : number ≡ 0 → root (requirement_of (take (written_of t (length old)).length (text_slice t old))).table ≡ root t
  root_same e = rw (read_back e) (root_says (table_text t) (tree_of t) (number_none t (length old) e).required ∙ sym (tree_says t))

-- under 14 no text at all is a requirement that says the tree
pub none_required : (t : Table) (room : ℕ) → (written_of t room).number ≡ 14 → (s : List ℕ) → Requires s (tree_of t) → ⊥
none_required t room e s q = by_test (table_obeys t) ruled (λ f. let z = fourteen ∙ is_three t room f in omega arith)
  where
    fourteen : 14 ≡ write_refusal t room
    fourteen = sym e ∙ number_is t room

    text : Requires (table_text t) (tree_of t)
    text = required_text s (tree_of t) q

    ruled : table_obeys t ≡ true → ⊥
    ruled f =
        let r = obeys_rules t f in
        by_le (length (table_text t)) room
        (λ h. let z = fourteen ∙ is_none t room r text h in omega arith)
        (λ h. let z = fourteen ∙ is_fifteen t room r text h in omega arith)

-- ---- tables of the reader

-- the table of what was read: it obeys, its text is a requirement, and reading that gives it back
abbrev ReadAgain : Requirement → Type 0
ReadAgain q = TableRules q.table × Requires (table_text q.table) (tree_of q.table) × (requirement_of (table_text q.table) ≡ q)

again : (s : List ℕ) (a : Tree) → Requires s a → ReadAgain (accepted a)
again s a r =
    let b = tree_back a (derives_proper r.derives) in
    let q = required_text s a r in
    (required_rules s a r, rw b q, rw b (text_read a q))

module _ (s : List ℕ) (h : (requirement_of s).refusal ≡ 0) where
  abbrev read : Table
  read = (requirement_of s).table

  read_again : ReadAgain (requirement_of s)
  read_again = let x = answer_sound s h in subst ReadAgain (sym x.2) (again s x.0 x.1)

  -- neither 3 nor 14 ever applies to it: the number is 0 where the slice has room, and otherwise 15
  pub reader_written : (room : ℕ) → length (table_text read) ≤ room → (written_of read room).number ≡ 0
  reader_written room l = none_number read room (record { ruled = read_again.0; required = read_again.1; fits = l })

  pub reader_short : (room : ℕ) → room < length (table_text read) → (written_of read room).number ≡ 15
  reader_short room l = number_is read room ∙ is_fifteen read room read_again.0 read_again.1 l

  -- so none does where there is room for every text
  pub reader_room : (room : ℕ) → LONGEST_TEXT ≤ room → (written_of read room).number ≡ 0
  reader_room room l = room_enough read room l read_again.0 read_again.1

  -- and reading what is written gives that table itself
  pub reader_back : (old : List ℕ) → (written_of read (length old)).number ≡ 0 → requirement_of (take (written_of read (length old)).length (text_slice read old)) ≡ requirement_of s
  reader_back old e = rw (front_is read old e) read_again.2
