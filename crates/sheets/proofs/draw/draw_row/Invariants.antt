use Rattle.std.proofs.Common.{◌≡◌, length, take}
use Rattle.grid.specs.Windows.{cell_of, width_of}
use Rattle.sheets.proofs.Rows.{Found}
use Rattle.sheets.proofs.draw.draw_row.Given as goal

abbrev pub invariant-loop-column : goal.invariant-loop-column
invariant-loop-column g l = record {
  same : g.F.Field.meaning l.field ≡ g.F.Field.meaning l.initial.field;
  long : length l.heights ≡ width_of l.window;
  found : Found (g.F.Field.meaning l.initial.field) (λ i. cell_of l.window i l.row) (width_of l.window) l.column (take l.column l.heights);
}
