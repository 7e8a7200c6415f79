use Rattle.std.proofs.Common.{◌≡◌, ◌+◌, ◌*◌, ◌<◌, Ok, Err, string_bytes, sym, ◌∙◌, subst, arith}
use Rattle.grid.specs.Meanings.{Meaning}
use Rattle.grid.specs.Piles.{survey}
use Rattle.grid.specs.Windows.{height_of}
use Rattle.grid.proofs.Chunks.{columns, counts_chunks, rows}
use Rattle.coasts.specs.Answers.{row_cells}
use Rattle.coasts.proofs.Rows.{Written, written_blank, written_more}
use Rattle.sheets.proofs.draw.draw.Goals as goal

pub returns-in-Err : goal.returns-in-Err
returns-in-Err g c =
    let v = c.args.window in
    let j = c.loop-row.row in
    let m = g.F.Field.meaning c.args.field.now in
    let within : j < height_of v = omega arith in
    let blank = subst (λ (n : Meaning). survey n (row_cells v j) ≡ Err c.in-Err.fault.blank) c.loop-row.invariant.same c.in-Err.ensures.row in
    record {
      fills = rows v * columns v;
      counted = counts_chunks v;
      is = rw (c.in_ok-write_refusal.ensures, c.number.ensures) (written_blank m v (height_of v) j (rows v * columns v) _ c.in-Err.fault.blank within blank c.loop-row.invariant.written);
    }

pub loop-row-preserved : goal.loop-row-preserved
loop-row-preserved g c =
    let v = c.args.window in
    let j = c.loop-row.row in
    let m = g.F.Field.meaning c.args.field.now in
    let within : j < height_of v = omega arith in
    let row = subst (λ (n : Meaning). survey n (row_cells v j) ≡ Ok c.draw_row.new.heights) c.loop-row.invariant.same c.in_default.ensures.row in
    record {
      same = c.draw_row.ensures.same ∙ c.loop-row.invariant.same;
      long = c.draw_row.ensures.long ∙ c.loop-row.invariant.long;
      written = subst (Written m v (height_of v) (j + 1)) (sym c.in_ok-write_row.ensures)
          (written_more m v (height_of v) j (string_bytes c.loop-row.text) c.draw_row.new.heights within row c.loop-row.invariant.written);
    }
