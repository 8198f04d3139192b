-- What each run is written with.
-- Assumes nothing.
use Rattle.watches.proofs.write_setup.Goals as goal

pub returns : goal.returns
returns c =
    let w = c.write_predicates in
    let p = c.put_numbers in
    let k = c.write_scales in
    record { numbers = rw (k.ensures, p.ensures, w.ensures.ranges) at c.put_numbers-2.ensures; cells = w.ensures.ends }
