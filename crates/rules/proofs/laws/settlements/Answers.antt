use Rattle.rules.proofs.laws.settlements.Goals as goal
use Rattle.rules.proofs.Settling.{settlements}

pub returns : goal.returns
returns c = settlements
