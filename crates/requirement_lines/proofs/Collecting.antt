-- Reading the requirements one by one: what was read and what is left are together what all of the lines give.
-- Assumes nothing.
use mathlib.Core.Path.{◌≡◌, refl, sym, ap, ◌∙◌}
use mathlib.Core.List.{List, [], ◌∷◌, ◌++◌, append_assoc, append-nil}
use mathlib.Core.Bool.{true, false}
use Prim.Native.Nat.{ℕ, zero, suc, ◌+◌, ◌-◌, ◌≤◌, ◌<◌}
use native.Mathlib.Omega.{arith}
use lib.ListN.{length, set, length-append}
use Rattle.text.specs.Bytes.{bytes}
use Rattle.text.specs.Mark.{key_at}
use Rattle.text.proofs.Marks.{key_inside}
use Rattle.lines.specs.Reading.{also}
use Rattle.requirement_lines.specs.declared.Place.{Place}
use Rattle.std.specs.Prelude.{Some, None}
use Rattle.text.specs.Mark.{after, read}
use Rattle.text.specs.declared.Read.{Read}
use Rattle.requirement_lines.specs.Form.{nowhere, sixteen}
use Rattle.requirement_lines.specs.Reading.{requirement_at, Found, requirements_from, requirements_at, stored}
use Rattle.requirement_lines.proofs.Written.{requirement_past}
use Rattle.requirement_lines.proofs.Sixteen.{sixteen_more}

-- ---- the lines from a place on, one by one

module _ (f : ℕ) (s : List ℕ) (at : ℕ) where
  pub from_over : key_at (bytes "req=") s at ≡ false → requirements_from f s at ≡ read [] at
  unfolding requirements_from
  from_over h = go f
    where
      go : (k : ℕ) → requirements_from k s at ≡ read [] at
      go zero = refl
      go (suc k) = rw h

  from_suc : key_at (bytes "req=") s at ≡ true → requirements_from (suc f) s at ≡ after (requirement_at s at) (λ l. also l.value (requirements_from f s l.next)) None
  unfolding requirements_from
  from_suc h = rw h

-- f lines are enough from a place on
pub from_turn : (f : ℕ) (s : List ℕ) (at : ℕ) → length s ≤ at + f → key_at (bytes "req=") s at ≡ true
    → requirements_from f s at ≡ after (requirement_at s at) (λ l. also l.value (requirements_from (f - 1) s l.next)) None
from_turn f s at l h =
    let g : f ≡ suc (f - 1) = omega (arith, key_inside (bytes "req=") s at h) in
    ap (λ (k : ℕ). requirements_from k s at) g ∙ from_suc (f - 1) s at h

-- ---- what is found after the places that were read

abbrev behind : List Place → Found → Found
behind ds (Some r) = read (ds ++ r.value) r.next
behind ds None = None

behind_none : (x : Found) → behind [] x ≡ x
behind_none (Some r) = refl
behind_none None = refl

behind_also : (ds : List Place) (p : Place) (x : Found) → behind ds (also p x) ≡ behind (ds ++ (p ∷ [])) x
behind_also ds p (Some r) = ap (λ (l : List Place). read l r.next) (sym (append_assoc ds (p ∷ []) r.value))
behind_also ds p None = refl

-- the requirements before a place are read
pub record Collecting (s : List ℕ) (at count : ℕ) (places : List Place) (next : ℕ) : Type 0 where
  pub done : List Place
  pub fuel : ℕ
  pub enough : length s ≤ next + fuel
  pub few : length done ≤ next
  pub same : behind done (requirements_from fuel s next) ≡ requirements_at s at
  pub counted : count ≡ length done
  pub kept : places ≡ sixteen done

pub collect_start : (s : List ℕ) (at : ℕ) → Collecting s at 0 nowhere at
collect_start s at =
    record { done = []; fuel = length s; enough = omega arith; few = omega arith; same = behind_none (requirements_at s at); counted = refl; kept = refl }

module _ (s : List ℕ) (at count : ℕ) (places : List Place) (next : ℕ) (i : Collecting s at count places next) where
  pub collect_over : key_at (bytes "req=") s next ≡ false → read (record { count = count; places = places }) next ≡ stored (requirements_at s at)
  collect_over h =
      let e : read (i.done ++ []) next ≡ requirements_at s at = rw (from_over i.fuel s next h) at i.same in
      let g : read i.done next ≡ requirements_at s at = rw (append-nil i.done) at e in
      rw (i.counted, i.kept) (ap stored g)

  module _ (h : key_at (bytes "req=") s next ≡ true) where
    turn : behind i.done (after (requirement_at s next) (λ l. also l.value (requirements_from (i.fuel - 1) s l.next)) None) ≡ requirements_at s at
    turn = rw (from_turn i.fuel s next i.enough h) at i.same

    pub collect_bad : requirement_at s next ≡ None → None ≡ stored (requirements_at s at)
    collect_bad b =
        let g : None ≡ requirements_at s at = rw b at turn in
        ap stored g

    module _ (l : Read Place) (b : requirement_at s next ≡ Some l) where
      past : next < l.next
      past = requirement_past s next l b

      -- a line has a byte at least, so the bytes that are left get fewer
      pub collect_less : length s - l.next < length s - next
      collect_less = omega (arith, past, key_inside (bytes "req=") s next h)

      pub collect_more : Collecting s at (count + 1) (set places count l.value) l.next
      collect_more = record {
        done = i.done ++ (l.value ∷ []);
        fuel = i.fuel - 1;
        enough = omega (arith, past, i.enough);
        few = omega (arith, past, i.few, length-append i.done (l.value ∷ []));
        same = sym (behind_also i.done l.value (requirements_from (i.fuel - 1) s l.next)) ∙ (rw b at turn);
        counted = omega (arith, i.counted, length-append i.done (l.value ∷ []));
        kept = rw (i.counted, i.kept) (sixteen_more i.done l.value);
      }
