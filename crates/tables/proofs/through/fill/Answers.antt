use Rattle.std.proofs.Common.{◌≡◌, ◌%◌, ◌∙◌, arith, rules}
use Rattle.grid.specs.Meanings.{Meaning}
use Rattle.grid.specs.Places.{cell_in, chunk_of}
use Rattle.tables.specs.Tables.{mark, number_for}
use Rattle.tables.proofs.Filling.{filled_all, filled_more, kept_more, puts}
use Rattle.tables.proofs.through.fill.Goals as goal

pub loop-place-preserved : goal.loop-place-preserved
loop-place-preserved g c =
    let k = chunk_of c.args.at in
    let p = c.loop-place.place in
    let h = number_for c.ok-height.result in
    let m : Meaning = g.F.Field.meaning c.args.below.now in
    let t = c.loop-place.table in
    let i = c.loop-place.invariant in
    let whole : p % 64 ≡ p = omega arith in
    let put = puts k p h c.chunk_cell-cell.result t c.put.new.self (omega arith) c.chunk_cell-cell.ensures (c.put.ensures.here, c.put.ensures.others) in
    let said : h ≡ mark (m (cell_in k p)) = cc in
    record {
      same = search rules;
      filled = filled_more m k p h t c.put.new.self (omega arith) put said i.filled;
      held = search rules;
      others = kept_more k p h c.args.table.now t c.put.new.self (omega arith) put i.others;
    }

pub returns-clause-fresh : goal.returns-clause-fresh
returns-clause-fresh g c d at =
    let k = chunk_of c.args.at in
    let ended : c.loop-place.place ≡ 64 = omega arith in
    let filled = rw ended at c.loop-place.invariant.filled in
    c.label.ensures.numbers d ∙ filled_all (g.F.Field.meaning c.args.below.now) k c.loop-place.table filled d at
