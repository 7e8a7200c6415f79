use Rattle.grid.proofs.Chunks.{one_slot}
use Rattle.worlds.proofs.laws.different_slots.Goals as goal

pub returns : goal.returns
returns c = one_slot
