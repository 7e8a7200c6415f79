use Rattle.std.proofs.Common.{◌*◌, ◌≤◌, take, vec_items, vec_len, vec_capacity}
use Rattle.tracks.specs.declared.replay.TheConstants.{MOST_EVENTS}
use Rattle.tracks.specs.Promises.{Faithful}
use Rattle.tracks.proofs.replay.Track.replay.Given as goal

abbrev pub invariant-loop-done : goal.invariant-loop-done
invariant-loop-done g l =
    record {
      few : vec_len l.journal ≤ MOST_EVENTS * l.done;
      room : vec_capacity l.fn.self.room ≤ vec_capacity l.journal;
      faithful : Faithful (g.F.Field.meaning l.fn.self.field) (take l.done l.calls) l.phase (vec_items l.journal);
    }
