-- The form of a sheet's rows, in the order of document 01: the fields of a row, a row, rows.
-- Assumes nothing.
use Rattle.std.specs.Prelude.{ℕ, suc, ◌+◌, ◌≤◌, ◌≡◌, Bool, true, false, List, [], ◌∷◌, ◌++◌, ℤ}
use Rattle.text.specs.Bytes.{bytes}
use Rattle.text.specs.Number.{largest}
use Rattle.text.specs.Numeral.{Numeral, Signed}
use Rattle.recordings.specs.Accepted.{MOST_CHANNELS}

-- the fields ` v0=`, ` v1=` and so on: of k channels, from channel c on, whose number is written as any other
pub data ValueFields : ℕ → ℕ → List ℕ → List ℤ → Type 0 where
  no_field : {c : ℕ} → ValueFields c 0 [] []
  next : {c k : ℕ} {n w ws : List ℕ} {v : ℤ} {vs : List ℤ} → c ≤ largest → Numeral n c → Signed w v → ValueFields (c + 1) k ws vs
      → ValueFields c (suc k) (bytes " v" ++ n ++ bytes "=" ++ w ++ ws) (v ∷ vs)

-- `src` is `m` (measured) or `f` (filled)
abbrev pub source : Bool → List ℕ
source true = bytes "m"
source false = bytes "f"

-- a row's line: `t= src= v0= v1=` and so on, with exactly the v fields of the channels
pub record Row (channels : ℕ) (line : List ℕ) (measured : Bool) (time : ℕ) (values : List ℤ) : Type 0 where
  pub digits : List ℕ
  pub fields : List ℕ
  pub numeral : Numeral digits time
  pub bound : time ≤ largest
  pub valued : ValueFields 0 channels fields values
  pub spelled : line ≡ bytes "t=" ++ digits ++ bytes " src=" ++ source measured ++ fields ++ bytes "\n"

-- a measured row
pub record Sample : Type 0 where
  pub time : ℕ
  pub values : List ℤ

-- lines that are rows: the measured ones in sheet order, and the count of the filled ones, of which nothing else is kept
pub data Rows (channels : ℕ) : List (List ℕ) → List Sample → ℕ → Type 0 where
  no_row : Rows channels [] [] 0
  measured : {l : List ℕ} {ls : List (List ℕ)} {t : ℕ} {vs : List ℤ} {samples : List Sample} {filled : ℕ}
      → Row channels l true t vs → Rows channels ls samples filled → Rows channels (l ∷ ls) (record { time = t; values = vs } ∷ samples) filled
  filled : {l : List ℕ} {ls : List (List ℕ)} {t : ℕ} {vs : List ℤ} {samples : List Sample} {filled : ℕ}
      → Row channels l false t vs → Rows channels ls samples filled → Rows channels (l ∷ ls) samples (suc filled)

-- lines all of which are rows
abbrev pub AreRows : ℕ → List (List ℕ) → Type 0
AreRows channels ls = (samples : List Sample) × (filled : ℕ) × Rows channels ls samples filled

-- 1 to 8 channels: rows are read only then
abbrev pub ChannelsInRange : ℕ → Type 0
ChannelsInRange channels = (1 ≤ channels) × (channels ≤ MOST_CHANNELS)
