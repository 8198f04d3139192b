-- A refusal's number in the papers, and that of an answer.
-- Assumes nothing.
use Rattle.std.specs.Prelude.{ℕ, Result, Ok, Err}
use Rattle.refusals.specs.declared.Refusal.{Refusal}
use Rattle.refusals.specs.declared.Refusal.TheVariants.{Sheet, Requirement, Table, Channels, Samples, Times, Values, Work, Step, Gap, Jump, Requirements, Scales, Limits, Room, Nesting}

abbrev pub number : Refusal → ℕ
number Sheet = 1
number Requirement = 2
number Table = 3
number Channels = 4
number Samples = 5
number Times = 6
number Values = 7
number Work = 8
number Step = 9
number Gap = 10
number Jump = 11
number Requirements = 12
number Scales = 13
number Limits = 14
number Room = 15
number Nesting = 16

-- 0 where nothing was refused
abbrev pub number_of : {A : Type 0} → Result A Refusal → ℕ
number_of (Ok a) = 0
number_of (Err r) = number r
