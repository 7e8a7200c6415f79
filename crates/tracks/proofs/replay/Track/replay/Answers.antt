use Rattle.std.proofs.Common.{take, arith}
use Rattle.std.proofs.lemmas.List.{take_more}
use Rattle.tracks.proofs.Standing.{faithful_more}
use Rattle.tracks.proofs.replay.Track.replay.Goals as goal

pub loop-done-preserved : goal.loop-done-preserved
loop-done-preserved g c =
    let m = g.F.Field.meaning c.args.self.field in
    let so = c.loop-done.invariant in
    let call = c.index-calls-done in
    let made = take c.loop-done.done c.args.self.calls.now in
    let turned = rw c.reserve.ensures.items at (c.turn-phase.ensures.law m) in
    record {
      few = omega arith;
      room = omega arith;
      faithful = rw (take_more c.args.self.calls.now c.loop-done.done call.result c.loop-done-test.true, ← call.is) (faithful_more m made call.result so.faithful turned);
    }
