-- The tail goes on, or the places are filled anew.
-- Assumes nothing.
use Prim.Native.Nat.{ℕ, ◌*◌}
use lib.IntN.{ℤ}
use Rattle.std.proofs.Common.{rules}
use Rattle.rows.specs.Cells.{cell}
use Rattle.sliding.proofs.Moves.{cut_kept, sliding_on}
use Rattle.sliding.proofs.Suffixes.{suffixed_same}
use Rattle.sliding.proofs.advanced.Goals as goal
use Rattle.sliding.proofs.advanced.Goals.{Start}

-- the other row's values, and those of the row that is being filled
abbrev values : Start → ℕ → ℤ
values c = cell c.args.work.now c.args.rows c.args.source

abbrev stored : Start → ℕ → ℤ
stored c = cell c.args.work.now c.args.rows c.args.row

pub returns-then-low-s-clause-value : goal.returns-then-low-s-clause-value
returns-then-low-s-clause-value c =
    let at = (goal.at.returns-then-low-s-clause-value c).Start in
    sliding_on c.args.e (values at) (stored at) c.args.s c.args.low c.args.high c.requires.sliding c.if-low-s.true c.requires.onward (search rules) (search rules)

pub returns-then-low-s-clause-work_after : goal.returns-then-low-s-clause-work_after
returns-then-low-s-clause-work_after c =
    let at = (goal.at.returns-then-low-s-clause-work_after c).Start in
    rw (cut_kept c.args.s.cut c.args.low c.args.high c.if-low-s.true) (suffixed_same c.args.e (values at) (c.args.row * c.args.rows) c.args.low c.args.s.cut c.args.work.now c.requires.sliding.stored_are)
