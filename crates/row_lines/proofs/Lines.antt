-- A row's line has one line feed, at its end, so the lines of a text are its rows; and its spaces and its letters tell its channels and its source.
-- Both are shown by counting how often a byte stands in what is written.
-- Assumes nothing.
use mathlib.Core.Path.{◌≡◌, refl, sym, ap, ◌∙◌}
use mathlib.Core.List.{List, ◌++◌}
use mathlib.Core.Bool.{Bool, true, false}
use Prim.Native.Nat.{ℕ, ◌+◌, ◌*◌}
use native.Mathlib.Nat.{suc-mul, zero-mul}
use native.Mathlib.Omega.{arith}
use lib.IntN.{ℤ}
use lib.Dec.{eqb}
use Rattle.text.specs.Bytes.{bytes}
use Rattle.text.specs.Number.{is_digit}
use Rattle.lines.proofs.Counts.{count, count_append, numeral_count, signed_count}
use Rattle.lines.proofs.Lines.{Fed}
use Rattle.row_lines.specs.Form.{ValueFields, no_field, next, source, Row}

-- ---- the bytes of a row that are no digit and no `-`
module _ (b : ℕ) (no_digit : is_digit b ≡ false) (no_minus : eqb 45 b ≡ false) where
  values_count : {c k : ℕ} {ws : List ℕ} {vs : List ℤ} → ValueFields c k ws vs → count b ws ≡ k * count b (bytes " v=")
  unfolding count
  values_count no_field = sym (zero-mul (count b (bytes " v=")))
  values_count (next {c} {k} {n} {w} {ws} l num sg rest) =
      let h : count b ws ≡ k * count b (bytes " v=") = values_count rest in
      let e = numeral_count b no_digit num in
      let f = signed_count b no_digit no_minus sg in
      let g : count b (bytes " v" ++ n ++ bytes "=" ++ w ++ ws) ≡ count b (bytes " v") + count b n + count b (bytes "=") + count b w + count b ws = simp count_append in
      g ∙ (rw (suc-mul, ← h) (omega (arith, count_append b (bytes " v") (bytes "="))))

  pub body_count : {ch t : ℕ} {l : List ℕ} {m : Bool} {vs : List ℤ} (f : Row ch l m t vs)
      → count b (bytes "t=" ++ f.digits ++ bytes " src=" ++ source m ++ f.fields) ≡ count b (bytes "t= src=") + count b (source m) + ch * count b (bytes " v=")
  body_count {m} f =
      let e = numeral_count b no_digit f.numeral in
      let h = values_count f.valued in
      let g : count b (bytes "t=" ++ f.digits ++ bytes " src=" ++ source m ++ f.fields)
      ≡ count b (bytes "t=") + count b f.digits + count b (bytes " src=") + count b (source m) + count b f.fields = simp count_append in
      g ∙ omega (arith, count_append b (bytes "t=") (bytes " src="))

  pub row_count : {ch t : ℕ} {l : List ℕ} {m : Bool} {vs : List ℤ} → Row ch l m t vs
      → count b l ≡ count b (bytes "t= src=") + count b (source m) + ch * count b (bytes " v=") + count b (bytes "\n")
  row_count {m} f =
      ap (count b) f.spelled
      ∙ (count_append b (bytes "t=" ++ f.digits ++ bytes " src=" ++ source m ++ f.fields) (bytes "\n") ∙ ap (λ (x : ℕ). x + count b (bytes "\n")) (body_count f))

pub row_fed : {ch t : ℕ} {l : List ℕ} {m : Bool} {vs : List ℤ} → Row ch l m t vs → Fed l
unfolding count
row_fed {ch} {m = m} f = record { body = bytes "t=" ++ f.digits ++ bytes " src=" ++ source m ++ f.fields; ends = f.spelled; clear = body_count 10 refl refl f ∙ go m }
  where
    go : (m : Bool) → count 10 (bytes "t= src=") + count 10 (source m) + ch * count 10 (bytes " v=") ≡ 0
    go true = omega arith
    go false = omega arith

-- ---- a line is a row of one channel count and one source

pub one_width : {ch k t u : ℕ} {l : List ℕ} {m : Bool} {vs us : List ℤ} → Row ch l m t vs → Row k l m u us → ch ≡ k
unfolding count
one_width {ch} {k} {m} f g = go m (sym (row_count 32 refl refl f) ∙ row_count 32 refl refl g)
  where
    go : (m : Bool) → count 32 (bytes "t= src=") + count 32 (source m) + ch * count 32 (bytes " v=") + count 32 (bytes "\n")
        ≡ count 32 (bytes "t= src=") + count 32 (source m) + k * count 32 (bytes " v=") + count 32 (bytes "\n") → ch ≡ k
    go true h = let e : 1 + 0 + ch * 1 + 0 ≡ 1 + 0 + k * 1 + 0 = h in omega arith
    go false h = let e : 1 + 0 + ch * 1 + 0 ≡ 1 + 0 + k * 1 + 0 = h in omega arith

pub one_source : {ch k t u : ℕ} {l : List ℕ} {vs us : List ℤ} → Row ch l true t vs → Row k l false u us → ⊥
unfolding count
one_source {ch} {k} f g =
    let h : 0 + 1 + ch * 0 + 0 ≡ 0 + 0 + k * 0 + 0 = sym (row_count 109 refl refl f) ∙ row_count 109 refl refl g in
    omega arith
