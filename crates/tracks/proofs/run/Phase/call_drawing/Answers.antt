use Rattle.tracks.proofs.Standing.{turns_finish, turns_passed, turns_row}
use Rattle.tracks.proofs.run.Phase.call_drawing.Goals as goal

pub returns-in-Row-clause-law : goal.returns-in-Row-clause-law
returns-in-Row-clause-law g c = λ m. rw c.in-Row.is (turns_row m _ _ _ c.args.drawing c.draw.result (c.draw.ensures.law m))

pub returns-in-Finish-clause-law : goal.returns-in-Finish-clause-law
returns-in-Finish-clause-law g c = λ m. rw c.in-Finish.is (turns_finish m _ _ c.finish-world.ensures.world (c.finish-world.ensures.exact m) (c.finish-world.ensures.holds m) (c.finish-world.ensures.history m) c.push_reserved.ensures.items)

pub returns-in-Look-clause-law : goal.returns-in-Look-clause-law
returns-in-Look-clause-law g c = λ m. turns_passed m c.args.call _ _ c.args.drawing c.in-Look.is c.push_reserved-in-Look.ensures.items
