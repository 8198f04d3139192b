-- Each channel is tested.
-- Assumes nothing.
use Rattle.std.proofs.Common.{rules, tests}
use Rattle.lists.proofs.Chains.{all_of_range}
use Rattle.recordings.specs.Card.{card_of}
use Rattle.sampling.specs.Sampling.{channel_near, values_near}
use Rattle.sampling.proofs.values_near.Goals as goal

pub returns : goal.returns
unfolding values_near
returns c = let r = c.args.recording.now in all_of_range (λ ch. channel_near (card_of r) ch c.args.drift) r.setup.channels c.all.ensures.ran (cc) (λ x b q k. search (rules, tests))
