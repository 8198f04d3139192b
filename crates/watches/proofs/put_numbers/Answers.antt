-- What was copied into a part is a run of the whole.
-- Assumes nothing.
use Rattle.lists.proofs.Filled.{fill_list}
use Rattle.watches.proofs.put_numbers.Goals as goal

pub returns : goal.returns
returns c = rw c.copy_from_slice.ensures.after (fill_list c.args.at c.args.new.now c.args.out.now 0 c.requires)
