use Rattle.std.proofs.Common.{[], ◌∷◌, vec_items, append_assoc, arith}
use Rattle.std.proofs.lemmas.Iterator.{YieldsList-from_range, YieldsList-from_slice, YieldsList-from_zip}
use Rattle.std.proofs.lemmas.Iterator.Consumers.{YieldsList-at, YieldsList-end}
use Rattle.tracks.specs.Runs.{heights_told}
use Rattle.tracks.proofs.tell.Row.tell.Goals as goal

pub returns-clause-told : goal.returns-clause-told
returns-clause-told c =
    let w = c.width.result in
    let zipped = c.zip-column-items.ensures in
    let chain = YieldsList-at c.into_iter-column-iterator.ensures.into_iter_gives
    (YieldsList-from_zip (YieldsList-from_range 0 w w zipped.first (omega arith)) (YieldsList-from_slice c.args.heights.now zipped.second.0)) in
    let whole = YieldsList-end chain c.loop-column.yielded _ c.loop-column.yielded_by _ c.next.new.self c.in-None.is c.next.ensures.steps in
    let grouped = append_assoc (vec_items c.args.journal.now) (heights_told c.args.self.window c.args.self.number c.args.heights.now) (c.args.last ∷ []) in
    cc
