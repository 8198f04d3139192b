-- Each test of the lists holds exactly where its sentence does, so a number is answered exactly when its condition applies and no earlier one does (`refused` and
-- `first_is` of refusals).
-- Assumes nothing.
use mathlib.Core.Path.{◌≡◌, sym, ap, ◌∙◌}
use mathlib.Core.Bool.{Bool, true, false, cond, ◌&&◌, ◌||◌}
use mathlib.Core.Logic.{inl, inr}
use mathlib.Core.List.{[], ◌∷◌}
use Prim.Native.Nat.{ℕ, suc}
use native.Mathlib.Omega.{arith}
use lib.Dec.{T, leb, ltb, eqb, leb→le, le→leb, ltb→lt, lt→ltb, eqb→eq}
use lib.ListN.{length}
use borrow.Author.Tests.{eq-eqb, ne_eqb}
use mir.Facts.{and_yes, yes_and, or_yes, yes_eqb}
use Rattle.lists.proofs.Below.{yes_or, same_test}
use Rattle.recordings.specs.Card.{Card, rows, last_time}
use Rattle.recordings.specs.Accepted.{LATEST}
use Rattle.tables.specs.declared.Table.{Table}
use Rattle.refusals.specs.First.{first, AllExact}
use Rattle.refusals.proofs.First.{exact_append}
use Rattle.rules.specs.Recording.{values_obey}
use Rattle.rules.specs.Refusals.{table_checks}
use Rattle.rules.proofs.Recording.{values_are, values_pass}
use Rattle.rules.proofs.Refusals.{table_exact}
use Rattle.nesting.proofs.Nesting.{unnested_are, unnested_pass}
use Rattle.arrivals.specs.Arrivals.{Row, nesting_check, making_checks, Later, follows, row_checks, offer_checks, some_row_check, asked_checks}
use Rattle.arrivals.specs.Fits.{next_time, in_time}

module _ (c : Card) (t : Table) where
  pub making_exact : AllExact (making_checks c t)
  making_exact = exact_append (table_checks c t) (nesting_check t ∷ []) (table_exact c t) (λ _. (record { sound = unnested_are t; complete = unnested_pass t }, λ _. tt))

  -- before the first accepted row the margin is refused by 5
  pub asked_exact : AllExact (asked_checks c t)
  asked_exact = exact_append (making_checks c t) (some_row_check c ∷ []) making_exact (λ _. (record { sound = leb→le 1 (rows c); complete = le→leb 1 (rows c) }, λ _. tt))

  module _ (r : Row) where
    later_is : T (follows (rows c) (last_time c) r.time) → Later c r.time
    later_is h =
        let b = and_yes (leb r.time LATEST) (eqb (rows c) 0 || ltb (last_time c) r.time) h in
        record {
          early = leb→le r.time LATEST b.0;
          rising = elim (or_yes (eqb (rows c) 0) (ltb (last_time c) r.time) b.1) [ inl e ↦ inl (eqb→eq (rows c) 0 e) | inr l ↦ inr (ltb→lt (last_time c) r.time l) ];
        }

    later_passes : Later c r.time → T (follows (rows c) (last_time c) r.time)
    later_passes l =
        yes_and (leb r.time LATEST) (eqb (rows c) 0 || ltb (last_time c) r.time) (le→leb r.time LATEST l.early)
        (yes_or (eqb (rows c) 0) (ltb (last_time c) r.time) (elim l.rising [ inl e ↦ inl (yes_eqb e) | inr k ↦ inr (lt→ltb (last_time c) r.time k) ]))

    row_exact : AllExact (row_checks c r)
    row_exact = (record { sound = eqb→eq _ _; complete = yes_eqb }, λ _. (record { sound = later_is; complete = later_passes }, λ _. (record { sound = values_are r.values; complete = values_pass r.values }, λ _. tt)))

    pub offer_exact : AllExact (offer_checks c t r)
    offer_exact = exact_append (making_checks c t) (row_checks c r) making_exact (λ _. row_exact)

-- ---- a row's list, from what is known of the rows before it: when the next one may come
same_time : (none : Bool) (last t : ℕ) → in_time (cond none 0 (suc last)) t ≡ leb t LATEST && (none || ltb last t)
same_time true last t = same_test (λ h. let b = and_yes (leb 0 t) (leb t LATEST) h in yes_and (leb t LATEST) true b.1 tt) (λ h. let b = and_yes (leb t LATEST) true h in yes_and (leb 0 t) (leb t LATEST) (le→leb 0 t (omega arith)) b.0)
same_time false last t =
    same_test
    (λ h. let b = and_yes (leb (suc last) t) (leb t LATEST) h in yes_and (leb t LATEST) (ltb last t) b.1 (lt→ltb last t (leb→le (suc last) t b.0)))
    (λ h. let b = and_yes (leb t LATEST) (ltb last t) h in yes_and (leb (suc last) t) (leb t LATEST) (le→leb (suc last) t (ltb→lt last t b.1)) b.0)

module _ (c : Card) (r : Row) {channels : ℕ} (hc : channels ≡ c.setup.channels) where
  pub row_five : (length r.values ≡ channels → ⊥) → 5 ≡ first (row_checks c r)
  unfolding first
  row_five h = rw (ne_eqb (length r.values) c.setup.channels (λ e. h (e ∙ sym hc)))

  pub row_later : {next : ℕ} → next ≡ next_time c → length r.values ≡ channels → {a b : Bool} → a ≡ in_time next r.time → b ≡ values_obey r.values → cond a (cond b 0 7) 6 ≡ first (row_checks c r)
  unfolding first
  row_later hn h {a} p q =
      let e : a ≡ follows (rows c) (last_time c) r.time = p ∙ ap (λ (n : ℕ). in_time n r.time) hn ∙ same_time (eqb (rows c) 0) (last_time c) r.time in
      rw (e, q, eq-eqb (length r.values) c.setup.channels (h ∙ hc))
