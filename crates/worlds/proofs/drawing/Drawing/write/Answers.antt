use Rattle.std.proofs.Common.{arith, rules}
use Rattle.std.proofs.lemmas.List.{set-get_or}
use Rattle.std.proofs.lemmas.Bool.Decides.{nat_tests}
use Rattle.worlds.proofs.Rowing.{way_blank, way_more, way_whole}
use Rattle.worlds.proofs.drawing.Drawing.write.Goals as goal

pub returns-in_err-place : goal.returns-in_err-place
returns-in_err-place g c =
    let said = c.in_err-place.ensures in
    let x = c.in_err-place.field-0.0 in
    let row = way_blank c.loop-column.invariant c.ask.new.self c.in-Some.ensures said.next said.goes x c.from_residual.result c.from_residual.ensures.1 said.answer c.requires.1 in
    rw set-get_or (record { placed = row.0; answer = row.1; past = row.2; next = search rules; goes = row.3 })

pub loop-column-preserved : goal.loop-column-preserved
loop-column-preserved g c =
    let said = c.in_ok-place.ensures in
    way_more c.loop-column.invariant c.ask.new.self c.in-Some.ensures said.next said.goes c.in_ok-place.field-0 (omega arith) said.answer

pub returns-clause-goes : goal.returns-clause-goes
returns-clause-goes g c = way_whole c.loop-column.invariant _ (grind (arith, nat_tests))
