-- No refusal has the number 0; and `?` hands on the refusal that it was given.
-- Assumes nothing.
use Rattle.std.proofs.Common.{◌≡◌, ◌∙◌, ap, ◌≤◌, Result, Err, lit≤, arith}
use Rattle.std.specs.Result.{IsErrAnd}
use Rattle.std.proofs.lemmas.Result.{err_from_is_err_and}
use Rattle.refusals.specs.declared.Refusal.{Refusal}
use Rattle.refusals.specs.declared.Refusal.TheVariants.{Sheet, Requirement, Table, Channels, Samples, Times, Values, Work, Step, Gap, Jump, Requirements, Scales, Limits, Room, Nesting}
use Rattle.refusals.specs.Number.{number}

pub some_number : (r : Refusal) → 1 ≤ number r
some_number Sheet = lit≤ tt
some_number Requirement = lit≤ tt
some_number Table = lit≤ tt
some_number Channels = lit≤ tt
some_number Samples = lit≤ tt
some_number Times = lit≤ tt
some_number Values = lit≤ tt
some_number Work = lit≤ tt
some_number Step = lit≤ tt
some_number Gap = lit≤ tt
some_number Jump = lit≤ tt
some_number Requirements = lit≤ tt
some_number Scales = lit≤ tt
some_number Limits = lit≤ tt
some_number Room = lit≤ tt
some_number Nesting = lit≤ tt

pub not_none : (r : Refusal) → number r ≡ 0 → ⊥
not_none r e = omega (arith, some_number r)

pub handed_on : {A : Type 0} {r : Refusal} (o : Result A Refusal) → IsErrAnd o (λ e. e ≡ r) → o ≡ Err r
handed_on o h = let p = err_from_is_err_and o h in p.1 ∙ ap Err p.2
