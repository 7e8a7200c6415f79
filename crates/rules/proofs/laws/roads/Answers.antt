use Rattle.rules.proofs.laws.roads.Goals as goal
use Rattle.rules.proofs.Roading.{roads_stand}

pub returns : goal.returns
returns c = roads_stand
