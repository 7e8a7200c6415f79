use Rattle.tracks.proofs.run.Phase.turn.Goals as goal

pub returns-in-Alone-clause-law : goal.returns-in-Alone-clause-law
returns-in-Alone-clause-law g c = λ m. rw (c.in-Alone.is, c.push_reserved.ensures.items) (c.call_world-phase.ensures m _)

pub returns-in-Open-clause-law : goal.returns-in-Open-clause-law
returns-in-Open-clause-law g c = λ m. rw c.in-Open.is (c.call_drawing.ensures.law m)
