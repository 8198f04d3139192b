-- A refused making gives its number; otherwise the row is judged by what the watch holds of the rows before it.
-- Assumes nothing.
use mathlib.Core.Path.{◌∙◌}
use Rattle.std.proofs.lemmas.Result.{err_from_is_err_and}
use Rattle.refusals.proofs.Number.{some_number}
use native.Mathlib.Omega.{arith}
use Rattle.arrivals.specs.Arrivals.{row_checks}
use Rattle.watches.proofs.Answers.{making_first, kept_now, row_first}
use Rattle.watches.proofs.offer_refusal.Goals as goal
use Rattle.watches.proofs.offer_refusal.Goals.{Start}

pub returns-then-refusal-ne0 : goal.returns-then-refusal-ne0
returns-then-refusal-ne0 c = record { number = λ cells t k W. making_first W (row_checks k (record { time = c.args.time; values = c.args.values.now })) c.if-refusal-ne0.true; early = tt; values = tt; some = let h = c.if-refusal-ne0.true in omega (arith, h) }

pub returns-in_err-row_refusal : goal.returns-in_err-row_refusal
returns-in_err-row_refusal c =
    let p = err_from_is_err_and c.from_residual.result c.from_residual.ensures.1 in
    let e = c.if-refusal-ne0.false in
    rw p.1 (record {
      number = λ cells t k W.
          let K = kept_now W e in
          p.2 ∙ c.in_err-row_refusal.ensures.number k K.planned.channels K.clock.next ∙ row_first W (record { time = c.args.time; values = c.args.values.now }) e;
      early = tt;
      values = tt;
      some = rw p.2 (some_number _);
    })

pub returns : goal.returns
returns c = record {
  number = λ cells t k W.
      let e = c.if-refusal-ne0.false in
      let K = kept_now W e in
      c.in_ok-row_refusal.ensures.number k K.planned.channels K.clock.next ∙ row_first W (record { time = c.args.time; values = c.args.values.now }) e;
  early = c.in_ok-row_refusal.ensures.early;
  values = c.in_ok-row_refusal.ensures.values;
  some = tt;
}
