use Rattle.std.proofs.Common.{sym, ◌∙◌}
use Rattle.tables.proofs.Filling.{answered}
use Rattle.tables.proofs.through.ask_through.Goals as goal

pub returns-in-Some-clause-answer : goal.returns-in-Some-clause-answer
returns-in-Some-clause-answer g c right =
    answered (g.F.Field.meaning c.args.below.now) c.args.at c.in-Some.height c.args.table.now c.hold.new.table c.hold.ensures.held (c.hold.ensures.right right) (sym c.in-Some.is ∙ c.get.ensures)
