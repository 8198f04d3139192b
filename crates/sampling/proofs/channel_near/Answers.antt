-- Each sample but the last is tested.
-- Assumes nothing.
use Rattle.std.proofs.Common.{rules, tests, suc, ◌-◌}
use Rattle.lists.proofs.Chains.{all_of_range}
use Rattle.recordings.specs.Card.{card_of, rows, scale, value}
use Rattle.sampling.specs.Sampling.{near, channel_near}
use Rattle.sampling.proofs.channel_near.Goals as goal

pub returns : goal.returns
unfolding channel_near
returns c =
    let r = card_of c.args.recording.now in
    all_of_range (λ i. near (scale r c.args.channel) (value r c.args.channel i) (value r c.args.channel (suc i)) c.args.drift) (rows r - 1) c.all.ensures.ran (cc) (λ x b q k. search (rules, tests))
