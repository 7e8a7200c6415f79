use Rattle.std.proofs.Common.{◌≡◌, ◌<◌, ◌≤◌, [], length, string_bytes, sym, ap, ◌∙◌, arith}
use Rattle.grid.specs.Windows.{height_of, width_of}
use Rattle.coasts.proofs.Drawings.{Reached, drawn_all, drawn_blank, reached_more, reached_none}
use Rattle.coasts.proofs.draw.draw.Given as given
use Rattle.coasts.proofs.draw.draw.Goals as goal
use Rattle.coasts.proofs.draw.draw.Goals.{After-height-end}

pub loop-preserved : goal.loop-preserved
loop-preserved g c =
    let said = c.in_default.ensures in
    let p = c.row.new.out in
    let long : length p ≡ width_of c.args.window = said.past.0 ∙ c.loop.invariant.room in
    record {
      room = long;
      reached = λ m v begun.
          let window : v ≡ c.args.window = sym begun.window ∙ c.begin-drawing.ensures.start.0 in
          let high : c.loop.counter < height_of v = omega (arith, ap height_of window) in
          reached_more m v c.loop.counter _ _ (c.loop.invariant.reached m v begun) c.row.new.self p (string_bytes c.write_row.new.text) high (long ∙ ap width_of (sym window))
          said.answer (said.goes m).window said.next (said.history m)
          c.in_ok-write_row.ensures;
    }

-- the drawing begins on a world of its own
begun : (g : given.Over) (c : After-height-end g) → Reached (g.F.Field.meaning c.args.field) c.args.window 0 c.begin-drawing.result (string_bytes c.new-text.result)
begun g c =
    let said = c.begin-drawing.ensures in
    reached_none _ c.args.window _ _ said.start.0 said.start.1.0 (said.history _ [] c.open.ensures.history) c.new-text.ensures.bytes

pub returns-in-Err : goal.returns-in-Err
returns-in-Err g c =
    let said = c.in-Err.ensures in
    let v = c.args.window in
    let high : c.loop.counter < height_of v = omega arith in
    let room : width_of v ≤ length c.loop.heights = omega (arith, c.loop.invariant.room) in
    drawn_blank _ v c.loop.counter _ _ (c.loop.invariant.reached _ v (begun g (goal.at.returns-in-Err g c).After-height-end))
    c.in-Err.refusal _ c.number.result c.row.new.out (string_bytes c.write_refusal.new.text) high room said.placed said.answer c.number.ensures
    c.in_ok-write_refusal.ensures

pub returns : goal.returns
returns g c =
    let v = c.args.window in
    let ended : height_of v ≤ c.loop.counter = omega arith in
    drawn_all _ v c.loop.counter _ _ (c.loop.invariant.reached _ v (begun g (goal.at.returns g c).After-height-end))
    c.finish-fills.result.1 (string_bytes c.write_fills.new.text) ended (λ during u. c.finish-fills.ensures.exact _ [] during u)
    c.in_ok-write_fills.ensures
