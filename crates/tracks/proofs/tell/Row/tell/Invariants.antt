use Rattle.std.proofs.Common.{◌≡◌, ◌+◌, ◌≤◌, ◌++◌, map, vec_items, vec_len, vec_capacity}
use Rattle.grid.specs.Windows.{width_of}
use Rattle.tracks.proofs.Tells.{asked_of, column_height}
use Rattle.tracks.proofs.tell.Row.tell.Given as goal

abbrev pub invariant-loop-column : goal.invariant-loop-column
invariant-loop-column l =
    record {
      goes_on : goal.iterator-loop-column.can_next l.column-iterator;
      ends : goal.iterator-loop-column.is_finite l.column-iterator;
      next : l.column-iterator.a.start ≤ width_of l.self.window;
      end : l.column-iterator.a.end ≡ width_of l.self.window;
      len : vec_len l.journal ≡ vec_len l.initial.journal + l.column-iterator.a.start;
      capacity : vec_capacity l.journal ≡ vec_capacity l.initial.journal;
      told : vec_items l.journal ≡ vec_items l.initial.journal ++ map (asked_of l.self.window l.self.number) (map column_height l.yielded);
    }
