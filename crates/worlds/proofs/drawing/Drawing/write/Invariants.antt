use Rattle.worlds.proofs.Rowing.{Way}
use Rattle.worlds.proofs.drawing.Drawing.write.Given as goal

abbrev pub invariant-loop-column : goal.invariant-loop-column
invariant-loop-column g l = Way l.initial.self l.initial.out l.column l.self l.out
