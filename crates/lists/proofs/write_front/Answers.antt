-- What is copied is as long as the shorter of the two.
-- Assumes nothing.
use Rattle.lists.proofs.Front.{written_both}
use Rattle.lists.proofs.write_front.Goals as goal

pub returns : goal.returns
returns g c = rw c.copy_from_slice.ensures.after (written_both c.args.new.now c.args.out.now _ c.min-both.ensures)
