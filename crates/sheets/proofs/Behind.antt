-- What a sheet's places hold: requirement k stands at place k, and the lines of the rows from `rows` on.
-- Assumes nothing.
use mathlib.Core.Path.{◌≡◌, ap, ◌∙◌}
use mathlib.Core.List.{List, [], ◌++◌}
use Prim.Native.Nat.{ℕ, ◌≤◌, ◌<◌}
use native.Mathlib.Omega.{arith}
use lib.ListN.{length, get_or, drop}
use Rattle.lines.specs.Lines.{lines, size}
use Rattle.lines.proofs.Places.{lines_behind}
use Rattle.requirement_lines.specs.declared.Place.{Place}
use Rattle.requirement_lines.specs.Form.{requirement_lines, places_from, StandsAt, MOST_REQUIREMENTS, no_place}
use Rattle.requirement_lines.proofs.Exact.{place_holds, places_length}
use Rattle.requirement_lines.proofs.Sixteen.{sixteen_long, sixteen_at, sixteen_behind}
use Rattle.sheets.specs.Form.{SheetAnswer, Form}
use Rattle.sheets.proofs.Exact.{written_rows, written_size}

module _ (s : List ℕ) (x : SheetAnswer) (f : Form s x) where
  pub rows_behind : lines (drop x.rows s) ≡ f.rows
  rows_behind = rw f.behind (written_rows f.written)

  pub rows_inside : x.rows ≤ length s
  rows_inside = omega (arith, f.behind, written_size f.written)

  pub places_long : length x.requirements ≡ MOST_REQUIREMENTS
  places_long = ap length f.places ∙ sixteen_long (places_from (size f.written.front) f.requirements)

  -- requirement k is the bytes of place k
  pub requirement_stands : (k : ℕ) → k < x.count → StandsAt s (get_or x.requirements k no_place) (get_or f.requirements k [])
  requirement_stands k l =
      let w = f.written in
      let at : ℕ = size w.front in
      let n : length (places_from at f.requirements) ≡ length f.requirements = places_length at f.requirements in
      let m : k < length f.requirements = omega (arith, f.count) in
      let e : get_or x.requirements k no_place ≡ get_or (places_from at f.requirements) k no_place =
      ap (λ (ps : List Place). get_or ps k no_place) f.places ∙ sixteen_at (places_from at f.requirements) k no_place (omega arith) (omega (arith, f.few)) in
      rw e (place_holds s at f.requirements f.rows (lines_behind w.front (requirement_lines f.requirements ++ f.rows) s w.cuts) k no_place m)

  -- and behind the last is no place
  pub no_more_stand : (k : ℕ) → x.count ≤ k → get_or x.requirements k no_place ≡ no_place
  no_more_stand k l =
      let at : ℕ = size f.written.front in
      let n : length (places_from at f.requirements) ≡ length f.requirements = places_length at f.requirements in
      ap (λ (ps : List Place). get_or ps k no_place) f.places ∙ sixteen_behind (places_from at f.requirements) k (omega (arith, f.count))
