use Rattle.tracks.proofs.Tellings.{faithful_near}
use Rattle.tracks.proofs.compare.compare.Goals as goal

pub returns-clause-near : goal.returns-clause-near
returns-clause-near g c = faithful_near c.replay-one.ensures.faithful c.replay-other.ensures.faithful
