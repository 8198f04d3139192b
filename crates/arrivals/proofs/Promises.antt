-- What the definitions promise, sentence by sentence: which number is answered at the making, to a row and to the margin, which rows are recorded, and what the recording then is.
-- Assumes nothing.
use mathlib.Core.Path.{◌≡◌, sym, subst}
use mathlib.Core.List.{List, [], ◌∷◌}
use Prim.Native.Nat.{ℕ, ◌*◌, ◌≤◌}
use native.Mathlib.Omega.{arith}
use native.Mathlib.Decide.{ℕ_discrete}
use lib.IntN.{pos}
use Rattle.recordings.specs.declared.Setup.{Setup}
use Rattle.recordings.specs.Card.{Card, rows}
use Rattle.recordings.specs.Accepted.{MOST_ROWS}
use Rattle.recordings.specs.Margin.{margin}
use Rattle.tables.specs.declared.Table.{Table}
use Rattle.tables.specs.Tree.{root}
use Rattle.refusals.specs.First.{first, Refused}
use Rattle.refusals.proofs.First.{passed, refused, first_is, first_stays, unless_none, unless_some}
use Rattle.rules.specs.Refusals.{Sound}
use Rattle.margins.specs.Answers.{margin_judged}
use Rattle.margins.proofs.Promises.{none_number}
use Rattle.arrivals.specs.Arrivals.{Row, no_rows, with_row, making_checks, row_checks, offer_checks, offer_refusal, accepted, recorded, some_row_check, asked_checks, asked_refusal, margin_so_far}
use Rattle.arrivals.specs.Fits.{Fits}
use Rattle.arrivals.proofs.Refusals.{making_exact, offer_exact, asked_exact}
use Rattle.arrivals.proofs.Fitting.{fits_none, fits_next}

-- ---- a number is answered exactly when its condition applies and no earlier one does
module _ (c : Card) (t : Table) where
  pub making_refused : (first (making_checks c t) ≡ 0 → ⊥) → Refused (making_checks c t) (first (making_checks c t))
  making_refused h = refused (making_checks c t) (making_exact c t) h

  pub refused_making : (m : ℕ) → Refused (making_checks c t) m → first (making_checks c t) ≡ m
  refused_making m h = first_is (making_checks c t) (making_exact c t) h

  pub asked_refused : (asked_refusal c t ≡ 0 → ⊥) → Refused (asked_checks c t) (asked_refusal c t)
  asked_refused h = refused (asked_checks c t) (asked_exact c t) h

  pub refused_asked : (m : ℕ) → Refused (asked_checks c t) m → asked_refusal c t ≡ m
  refused_asked m h = first_is (asked_checks c t) (asked_exact c t) h

  module _ (r : Row) where
    pub offer_refused : (offer_refusal c t r ≡ 0 → ⊥) → Refused (offer_checks c t r) (offer_refusal c t r)
    offer_refused h = refused (offer_checks c t r) (offer_exact c t r) h

    pub refused_offer : (m : ℕ) → Refused (offer_checks c t r) m → offer_refusal c t r ≡ m
    refused_offer m h = first_is (offer_checks c t r) (offer_exact c t r) h

    -- ---- a row is recorded exactly when nothing refuses it
    pub accepted_row : offer_refusal c t r ≡ 0 → accepted t c r ≡ with_row c r
    accepted_row e = unless_none _ _ e

    pub refused_row : (offer_refusal c t r ≡ 0 → ⊥) → accepted t c r ≡ c
    refused_row h = unless_some _ _ _ h

    -- a refused making refuses every row by its number
    pub making_refuses : (first (making_checks c t) ≡ 0 → ⊥) → offer_refusal c t r ≡ first (making_checks c t)
    making_refuses h = first_stays (making_checks c t) (row_checks c r) h

  -- ---- the margin is the definition's, or 0 under a refusal; a refused making refuses it too
  pub margin_is : (margin_so_far c t).number ≡ 0 → (margin_so_far c t).margin ≡ margin c (root t) 0
  unfolding margin_so_far
  margin_is e = unless_none _ _ e

  pub refused_margin : ((margin_so_far c t).number ≡ 0 → ⊥) → (margin_so_far c t).margin ≡ pos 0
  unfolding margin_so_far
  refused_margin h = unless_some _ _ _ h

  pub making_silences : (first (making_checks c t) ≡ 0 → ⊥) → (margin_so_far c t).number ≡ first (making_checks c t)
  unfolding margin_so_far
  making_silences h = first_stays (making_checks c t) (some_row_check c ∷ []) h

-- ---- however many rows are offered, those accepted make a recording as document 01 asks for it, but for their count
keeps_fitting : (t : Table) (c : Card) (rs : List Row) → Fits c → Fits (recorded t c rs)
keeps_fitting t c [] f = f
keeps_fitting t c (r ∷ rs) f = keeps_fitting t (accepted t c r) rs (elim (ℕ_discrete (offer_refusal c t r) 0) [ yes e ↦ subst Fits (sym (accepted_row c t r e)) (fits_next c t r f e) | no e ↦ subst Fits (sym (refused_row c t r e)) f ])

pub recorded_fits : (s : Setup) (t : Table) (rs : List Row) → s.scales.count ≡ s.channels → first (making_checks (no_rows s) t) ≡ 0 → Fits (recorded t (no_rows s) rs)
recorded_fits s t rs k e = keeps_fitting t (no_rows s) rs (fits_none s t k e)

-- ---- where the rows are not more than a recording may have, it is the margin that is judged of that recording, the cells being enough
pub judged_alike : (c : Card) (t : Table) (cells : ℕ) → Fits c → asked_refusal c t ≡ 0 → rows c ≤ MOST_ROWS → t.count * rows c ≤ cells → margin_judged c t cells ≡ margin_so_far c t
unfolding margin_judged margin_so_far
judged_alike c t cells f e few room =
    let p = passed (asked_checks c t) tt (asked_exact c t) e in
    let m = f.measured in
    let s : Sound c t = record {
      ruled = (p.each 0 (omega arith)).0;
      named = (p.each 0 (omega arith)).1;
      recorded = record {
        channels = m.channels;
        scaled = m.scaled;
        lengths = record { all_scales = m.all_scales; some_row = p.each 4 (omega arith); few_rows = few; all_values = f.all_values };
        times = f.times;
        values = m.values;
      };
    } in
    rw (none_number c t cells s room, e)
