-- Rows and the answers to them: document 01's example, and each number with the ones that it gives way to.
-- Assumes nothing.
use Rattle.std.specs.Prelude.{ℕ, List, [], ◌∷◌}
use Prim.Native.String.{String}
use Rattle.text.specs.Bytes.{bytes}
use Rattle.sheet_rows.specs.Answer.{Answer, answer_of}

pub record Question : Type 0 where
  pub text : String
  pub channels : ℕ
  pub times : ℕ
  pub values : ℕ

abbrev pub asked : Question → Answer
asked q = answer_of (bytes q.text) q.channels q.times q.values

abbrev pub figures : ℕ → ℕ → ℕ → Answer
figures number rows filled = record { number = number; rows = rows; filled = filled }

-- the example's rows, the third filled; no row; filled rows alone, with no room; 4 leaves the rows unread; 1 comes before 5; 5 for each slice, where filled rows ask for no room
abbrev pub questions : List Question
questions =
    record { text = "t=0 src=m v0=10\nt=1 src=m v0=11\nt=2 src=f v0=10\nt=3 src=m v0=9\nt=4 src=m v0=10\n"; channels = 1; times = 4; values = 4 }
    ∷ record { text = ""; channels = 8; times = 0; values = 0 }
    ∷ record { text = "t=7 src=f v0=1 v1=2\nt=3 src=f v0=-1 v1=-2\n"; channels = 2; times = 0; values = 0 }
    ∷ record { text = "t=0 src=m v0=1\nbroken"; channels = 0; times = 0; values = 0 }
    ∷ record { text = "t=0 src=m v0=1\nbroken"; channels = 9; times = 9; values = 9 }
    ∷ record { text = "t=0 src=m v0=1\nbroken"; channels = 1; times = 0; values = 0 }
    ∷ record { text = "t=0 src=m v0=1\nt=1 src=f v0=2 v1=3\n"; channels = 1; times = 9; values = 9 }
    ∷ record { text = "t=0 src=m v0=1 v1=2\nt=1 src=f v0=3 v1=4\n"; channels = 2; times = 0; values = 2 }
    ∷ record { text = "t=0 src=m v0=1 v1=2\nt=1 src=f v0=3 v1=4\n"; channels = 2; times = 1; values = 1 }
    ∷ record { text = "t=0 src=m v0=1 v1=2\nt=1 src=f v0=3 v1=4\n"; channels = 2; times = 1; values = 2 }
    ∷ []

abbrev pub answers : List Answer
answers =
    figures 0 4 1
    ∷ figures 0 0 0
    ∷ figures 0 0 2
    ∷ figures 4 0 0
    ∷ figures 4 0 0
    ∷ figures 1 0 0
    ∷ figures 1 0 0
    ∷ figures 5 0 0
    ∷ figures 5 0 0
    ∷ figures 0 1 1
    ∷ []
