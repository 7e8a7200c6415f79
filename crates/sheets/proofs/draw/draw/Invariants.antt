use Rattle.std.proofs.Common.{◌≡◌, length, string_bytes}
use Rattle.grid.specs.Windows.{height_of, width_of}
use Rattle.coasts.proofs.Rows.{Written}
use Rattle.sheets.proofs.draw.draw.Given as goal

abbrev pub invariant-loop-row : goal.invariant-loop-row
invariant-loop-row g l = record {
  same : g.F.Field.meaning l.field ≡ g.F.Field.meaning l.initial.field;
  long : length l.heights ≡ width_of l.window;
  written : Written (g.F.Field.meaning l.initial.field) l.window (height_of l.window) l.row (string_bytes l.text);
}
