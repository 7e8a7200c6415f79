use Rattle.std.proofs.Common.{◌≡◌, ◌+◌, ◌<◌, ◌≤◌, length, take, Ok, sym, refl, ap, ◌∙◌, subst, arith}
use lib.Seq.{take-length}
use Rattle.std.proofs.lemmas.Grind.{take-set_at}
use Rattle.std.proofs.lemmas.List.{length-set}
use Rattle.grid.specs.Meanings.{Meaning}
use Rattle.grid.specs.Windows.{cell_of, width_of}
use Rattle.grid.proofs.Rectangles.{the_cell}
use Rattle.sheets.proofs.Rows.{Found, found_all, found_blank, found_more}
use Rattle.sheets.proofs.draw.draw_row.Given as given
use Rattle.sheets.proofs.draw.draw_row.Goals as goal
use Rattle.sheets.proofs.draw.draw_row.Goals.{After-ask}

-- the cell that was asked, and what the field means there
asked : (g : given.Over) (c : After-ask g) → g.F.Field.meaning c.args.field.now (cell_of c.args.window c.loop-column.column c.args.row) ≡ c.ask.result
asked g c =
    let within : c.loop-column.column < width_of c.args.window = omega (arith, c.loop-column.invariant.long) in
    sym (c.ask.ensures.answer
    ∙ ap (λ (m : Meaning). m c.in-Some.at) c.loop-column.invariant.same
    ∙ ap (g.F.Field.meaning c.args.field.now) (the_cell c.args.window c.loop-column.column c.args.row _ within c.requires.0 c.in-Some.ensures))

pub returns-in-Err-clause-row : goal.returns-in-Err-clause-row
returns-in-Err-clause-row g c =
    let v = c.args.window in
    let within : c.loop-column.column < width_of v = omega (arith, c.loop-column.invariant.long) in
    found_blank (g.F.Field.meaning c.args.field.now) (λ i. cell_of v i c.args.row) (width_of v) c.loop-column.column _ c.in-Err.blank within
    (asked g (goal.at.returns-in-Err-clause-row g c).After-ask ∙ c.in-Err.is) c.loop-column.invariant.found

pub loop-column-preserved : goal.loop-column-preserved
loop-column-preserved g c =
    let v = c.args.window in
    let hs = c.loop-column.heights in
    let i = c.loop-column.column in
    let m = g.F.Field.meaning c.args.field.now in
    let room : i < length hs = omega arith in
    let within : i < width_of v = omega (arith, c.loop-column.invariant.long) in
    record {
      same = c.ask.ensures.same ∙ c.loop-column.invariant.same;
      long = length-set hs i c.in-Ok.height ∙ c.loop-column.invariant.long;
      found = subst (Found m (λ k. cell_of v k c.args.row) (width_of v) (i + 1)) (sym (take-set_at hs i (i + 1) c.in-Ok.height refl room))
          (found_more m (λ k. cell_of v k c.args.row) (width_of v) i _ c.in-Ok.height within (asked g (goal.at.loop-column-preserved g c).After-ask ∙ c.in-Ok.is) c.loop-column.invariant.found);
    }

pub returns-after-loop-column-clause-row : goal.returns-after-loop-column-clause-row
returns-after-loop-column-clause-row g c =
    let v = c.args.window in
    let hs = c.loop-column.heights in
    let ended : c.loop-column.column ≡ length hs = omega arith in
    let all : width_of v ≤ c.loop-column.column = omega (arith, c.loop-column.invariant.long) in
    found_all (g.F.Field.meaning c.args.field.now) (λ i. cell_of v i c.args.row) (width_of v) c.loop-column.column _ all c.loop-column.invariant.found
    ∙ ap Ok (ap (λ n. take n hs) ended ∙ take-length hs)
