use Rattle.std.proofs.Common.{◌≡◌, List, ◌++◌, ◌⊎◌, Err, replicate, min, vec_items, length-take, ap, ◌∙◌, arith, rules}
use Rattle.grid.specs.declared.window.TheConstants.{LONGEST_SIDE}
use Rattle.worlds.specs.declared.event.Event.{Event}
use Rattle.worlds.specs.declared.refusal.RowRefusal.TheVariants.{Blank, Full, Short}
use Rattle.worlds.specs.Drawings.{next_of, window_of}
use Rattle.tracks.proofs.Standing.{draws_row}
use Rattle.tracks.proofs.Tells.{shown, shown_blank, shown_refused, shown_whole}
use Rattle.tracks.proofs.run.Phase.draw.Goals as goal
use Rattle.tracks.proofs.run.Phase.draw.Goals.{in-Ok, in-Err-Blank, in-Err-Full}

pub returns-clause-law : goal.returns-clause-law
returns-clause-law g c = λ m.
    let window = window_of c.args.drawing in
    let number = next_of c.args.drawing in
    let out = c.row.new.out in
    let past = vec_items c.args.journal.now in
    let after = λ (es : List Event). past ++ es in
    let v = c.window-window.ensures in
    let j = c.next_row-number.ensures in
    let told : vec_items c.match-row.journal ≡ past ++ shown window number out c.row.result = elim c.match-row.branch [
      | in-Ok w ↦ ap vec_items w.journal-is ∙ w.tell.ensures.told ∙ ap after (shown_whole v j out w.in-Ok.is (w.from-width.ensures ∙ w.width.ensures))
      | in-Err-Blank w ↦
          let is : c.row.result ≡ Err (Blank w.in-Err-Blank.fault) = search rules in
          ap vec_items w.journal-is ∙ w.tell-in-Err-Blank.ensures.told ∙ ap after (shown_blank v j out is w.column-before.ensures)
      | in-Err-Full w ↦
          let which : (w.in-Err-Full.refusal ≡ Full) ⊎ (w.in-Err-Full.refusal ≡ Short) = search rules in
          ap vec_items w.journal-is ∙ w.push_reserved.ensures.items ∙ ap after (shown_refused window number out w.in-Err-Full.is which)
    ] in
    let few : min c.min-count.result LONGEST_SIDE ≡ min c.args.places LONGEST_SIDE = omega (arith, c.min-count.ensures) in
    let row = c.row.ensures in
    draws_row m c.args.places past (vec_items c.match-row.journal) _ out c.row.result row.placed row.answer row.past row.next (row.goes m).window (row.history m) (length-take c.min-count.result (replicate LONGEST_SIDE 0) ∙ few) told
