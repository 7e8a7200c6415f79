use Rattle.std.proofs.Common.{rules}
use Rattle.worlds.proofs.Histories.{held_more}
use Rattle.worlds.proofs.laws.holding.Goals as goal

pub returns : goal.returns
returns c = search (rules, held_more)
