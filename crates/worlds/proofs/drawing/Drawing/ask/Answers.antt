use Rattle.std.proofs.Common.{rules}
use Rattle.worlds.specs.Drawings.{world_of}
use Rattle.worlds.proofs.Fitting.{through_held, touch_again}
use Rattle.worlds.proofs.Goings.{goes_asked}
use Rattle.worlds.proofs.drawing.Drawing.ask.Goals as goal

pub returns-clause-table : goal.returns-clause-table
returns-clause-table g c =
    let said = c.hold-filled.ensures in
    through_held c.args.at (world_of c.args.self.now) c.hold-filled.new.self c.look.new.self said.held said.others said.beyond said.stays c.look.ensures.table

pub returns-clause-goes : goal.returns-clause-goes
returns-clause-goes g c here m = search (rules, goes_asked, touch_again)
