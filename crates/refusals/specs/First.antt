-- A refusal is the first of an ordered list of conditions that does not hold. A later number is a line more in such a list, in the place where it counts; nothing else moves.
-- Assumes nothing.
use Rattle.std.specs.Prelude.{◌≡◌, Bool, true, cond, ◌&&◌, List, [], ◌∷◌, ℕ, zero, suc, ◌<◌, T, leb, length, get_or}

-- a refusal's number; what must hold where it does not apply, in words; and the test of it
pub record Check : Type 1 where
  pub number : ℕ
  pub sentence : Type 0
  pub passes : Bool

-- the number of the first test that fails, 0 where none does
unfoldable pub first : List Check → ℕ
first [] = 0
first (c ∷ cs) = cond c.passes (first cs) c.number

-- a test holds exactly where its sentence does
pub record Exact (c : Check) : Type 0 where
  pub sound : T c.passes → c.sentence
  pub complete : c.sentence → T c.passes

-- of a list, each where the sentences before it hold: a test is asked only then
abbrev pub AllExact : List Check → Type 0
AllExact [] = Unit
AllExact (c ∷ cs) = Exact c × (c.sentence → AllExact cs)

-- 0 is the number of no refusal
abbrev pub numbered : List Check → Bool
numbered [] = true
numbered (c ∷ cs) = leb 1 c.number && numbered cs

abbrev pub check_at : List Check → ℕ → Check
check_at cs j = get_or cs j (record { number = 0; sentence = Unit; passes = true })

-- m is the number of a condition that does not hold, and every one earlier in the list does
pub record Refused (cs : List Check) (m : ℕ) : Type 0 where
  pub place : ℕ
  pub listed : place < length cs
  pub number : (check_at cs place).number ≡ m
  pub fails : (check_at cs place).sentence → ⊥
  pub earlier : (j : ℕ) → j < place → (check_at cs j).sentence

-- every condition holds
pub record Passed (cs : List Check) : Type 0 where
  pub each : (j : ℕ) → j < length cs → (check_at cs j).sentence

-- what is handed back: a where no refusal applies, else b
abbrev pub unless_refused : {X : Type 0} → ℕ → X → X → X
unless_refused zero a b = a
unless_refused (suc n) a b = b
