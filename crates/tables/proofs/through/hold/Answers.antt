use Rattle.std.proofs.Common.{sym}
use Rattle.grid.specs.Places.{chunk_of}
use Rattle.tables.proofs.Filling.{held_already, right_filled}
use Rattle.tables.proofs.through.hold.Goals as goal

pub returns-then-has-clause-held : goal.returns-then-has-clause-held
returns-then-has-clause-held g c j = held_already c.args.table.now (chunk_of c.args.at) j (rw c.chunk.ensures.value at (sym c.if-has.ensures))

pub returns-clause-right : goal.returns-clause-right
returns-clause-right g c = right_filled (g.F.Field.meaning c.args.below.now) (chunk_of c.args.at) c.args.table.now c.fill.new.table c.fill.ensures.held c.fill.ensures.fresh c.fill.ensures.others
