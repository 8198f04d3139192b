-- The loop goes down. Its invariant: each place from j up to `high` holds the extremum from it up to `high`, and `suffix` is the one from j on.
-- Assumes nothing.
use mathlib.Core.Path.{◌≡◌, ◌∙◌}
use Prim.Native.Nat.{ℕ, ◌+◌, ◌*◌, ◌-◌}
use native.Mathlib.Omega.{arith}
use lib.IntN.{ℤ, pos}
use Rattle.std.proofs.Common.{rules}
use Rattle.numbers.proofs.Bits.{back_ok}
use Rattle.lists.proofs.Filled.{fill_none, fill_down, fill_before, earlier_row}
use Rattle.rows.specs.Cells.{cell}
use Rattle.sliding.specs.Run.{over}
use Rattle.sliding.proofs.Suffixes.{suffix_next, suffixes_done}
use Rattle.sliding.proofs.fill_suffixes.Goals as goal
use Rattle.sliding.proofs.fill_suffixes.Goals.{Start}

-- the other row's values
abbrev values : Start → ℕ → ℤ
values c = cell c.args.work.now c.args.rows c.args.source

pub loop-j-init : goal.loop-j-init
loop-j-init c = let z : c.args.high - c.args.high ≡ 0 = omega arith in (omega arith, rw z (fill_none _ _ _), rw z (search rules))

pub loop-j-preserved : goal.loop-j-preserved
loop-j-preserved c =
    let h = c.loop-j.invariant in
    let x = c.cell_at in
    let a = c.requires.0 in
    let f = values (goal.at.loop-j-preserved c).Start in
    let k = fill_before _ _ (λ m. over c.args.e f (c.loop-j.j + m) c.args.high) c.args.work.now (c.args.source * c.args.rows + (c.loop-j.j - 1)) (pos 0) h.1 (omega (arith, earlier_row c.args.source c.args.row c.args.rows a.earlier)) in
    let v = suffix_next c.args.e f c.loop-j.j c.args.high (omega arith) c.loop-j.auto.j h.2 (back_ok x.result x.type_inv ∙ x.ensures ∙ k) c.extreme-suffix.ensures (back_ok c.extreme-suffix.result c.extreme-suffix.type_inv) in
    (omega arith, fill_down _ _ _ (λ m. over c.args.e f m c.args.high) c.args.work.now (omega arith) c.loop-j.auto.j h.1 v, v)

pub returns-clause-work_after : goal.returns-clause-work_after
returns-clause-work_after c =
    let h = c.loop-j.invariant in
    suffixes_done c.args.e (values (goal.at.returns-clause-work_after c).Start) c.args.low c.args.high c.loop-j.j h.0 c.loop-j.auto.j c.loop-j-test.false _ c.args.work.now h.1
