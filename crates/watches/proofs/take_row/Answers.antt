-- The nodes take the row, then the times move.
-- Assumes nothing.
use mathlib.Core.Path.{◌≡◌, refl, ap, ◌∙◌}
use mathlib.Core.List.{List}
use Prim.Native.Nat.{ℕ, ◌+◌, min}
use native.Mathlib.Omega.{arith}
use lib.ListN.{get_or}
use lib.Seq.{get_or-set_other}
use Rattle.tables.specs.Tree.{NODES}
use Rattle.arrivals.specs.Arrivals.{Row}
use Rattle.watches.specs.Watches.{begun}
use Rattle.watches.proofs.Longer.{begun_other, counted, arriving, untaken, longer_watches}
use Rattle.watches.proofs.take_row.Goals as goal
use Rattle.watches.proofs.take_row.Goals.{Start}

pub returns : goal.returns
returns c =
    let bg = c.begin-opening.ensures in
    let se = c.saturating_sub-since.ensures in
    let nc = c.node_count-count.ensures in
    let tn = c.take_nodes.ensures in record {
      watch = λ t k W e.
          let r : Row = record { time = c.args.time; values = c.args.values.now } in
          let count = nc ∙ ap (λ (l : List ℕ). min (get_or l 1 0) NODES) bg.numbers ∙ counted r W e in
          let D = tn.taken t k r (rw (bg.first, se, bg.numbers) (arriving r W e)) count (rw bg.numbers (untaken r W e)) in
          rw bg.numbers (longer_watches r W e (c.args.time + 1) refl (rw (bg.numbers, count) at D) tn.beyond);
      behind = (rw bg.numbers (record { same = λ i h. get_or-set_other (begun c.args.time c.args.numbers.now) 3 i (c.args.time + 1) 0 (λ (z : i ≡ 3). omega arith) ∙ begun_other c.args.numbers.now c.args.time i (λ (z : i ≡ 2). omega arith) }), record { same = λ i h. tn.beyond.same i (λ x y. omega arith) });
    }
