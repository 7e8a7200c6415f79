use Rattle.std.proofs.Common.{rules}
use Rattle.worlds.proofs.Fitting.{fits_asked}
use Rattle.worlds.proofs.world.World.look.Goals as goal

pub returns-clause-history : goal.returns-clause-history
returns-clause-history g c m j = search (rules, fits_asked)
