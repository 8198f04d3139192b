-- `requirement_lines::read_line` meets its contract: the place after a mark is inside the text.
-- Assumes nothing.
use Rattle.std.proofs.Common.{◌≤◌, length, sym, ◌∙◌, rules}
use Rattle.text.proofs.Answers.{mark_is}
use Rattle.requirement_lines.proofs.read_line.Goals as goal
use Rattle.requirement_lines.proofs.read_line.Goals.{In_ok-from}

inside : (c : In_ok-from) → c.in_ok-from.from ≤ length c.args.s.now
inside c = (mark_is _ _ _ _ (sym c.read_mark.ensures ∙ c.in_ok-from.was)).inside

pub slice_bounds-before_feed-count : goal.slice_bounds-before_feed-count
slice_bounds-before_feed-count c = inside (goal.at.slice_bounds-before_feed-count c).In_ok-from

pub slice_bounds-before_feed-start : goal.slice_bounds-before_feed-start
slice_bounds-before_feed-start c = let i = inside (goal.at.slice_bounds-before_feed-start c).In_ok-from in search rules
