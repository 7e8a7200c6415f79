-- A layer's answer is the rule's step over what the field below means. Assumes nothing.
use Rattle.std.proofs.Common.{◌≡◌, sym, arith, rules}
use Rattle.grid.specs.Piles.{side}
use Rattle.grid.proofs.Steps.{step_beyond}
use Rattle.layers.proofs.Walks.{area_most, nth_at, nth_below, walked_more, walked_through, walked_to_blank}
use Rattle.layers.proofs.layer.LayerField.ask.Goals as goal
use Rattle.layers.proofs.layer.LayerField.ask.Goals.{else-search-test, then-search-test+then-loop-column-test+in-Err}

pub returns-then-not-is_inside-clause-answer : goal.returns-then-not-is_inside-clause-answer
returns-then-not-is_inside-clause-answer g c = grind (arith, step_beyond)

pub loop-column-preserved : goal.loop-column-preserved
loop-column-preserved g c =
    let m = g.F.Field.meaning c.args.self.now.below in
    let r = c.radius-radius.result in
    let turn = c.loop-column in
    let here = nth_at r c.args.at turn.column c.search.row turn.count (omega arith) (omega arith) in
    let below = nth_below r turn.column c.search.row turn.count (omega arith) (omega arith) (omega arith) in
    let most = area_most r (omega (arith, (g.met.R.Rule.fit c.args.self.now.rule).near)) in
    let walked = walked_more m r c.args.at turn.count turn.square c.in-Ok.height (omega arith) turn.invariant.walked (cc c.in-Ok.ensures.answer) in
    search rules

pub returns-in-Some-clause-answer : goal.returns-in-Some-clause-answer
returns-in-Some-clause-answer g c = elim c.search-test.branch [
  | else-search-test w ↦ cc
  | then-search-test+then-loop-column-test+in-Err w ↦
      let s = g.R.Rule.stencil c.args.self.now.rule in
      let m = g.F.Field.meaning c.args.self.now.below in
      let r = c.radius-radius.result in
      let turn = w.loop-column in
      let here = nth_at r c.args.at turn.column c.search.row turn.count (omega arith) (omega arith) in
      let below = nth_below r turn.column c.search.row turn.count (omega arith) (omega arith) (omega arith) in
      let blank = walked_to_blank s m c.args.at (sym c.if-not-is_inside.ensures) turn.count turn.square w.in-Err.found (rw c.radius-radius.ensures at below) (rw c.radius-radius.ensures at turn.invariant.walked) (cc w.in-Err.ensures.answer) in
      cc
]

pub returns-in-None-clause-answer : goal.returns-in-None-clause-answer
returns-in-None-clause-answer g c = elim c.search-test.branch [
  | else-search-test w ↦
      let s = g.R.Rule.stencil c.args.self.now.rule in
      let m = g.F.Field.meaning c.args.self.now.below in
      let end = c.search.invariant in
      let last : c.search.row ≡ side c.radius-radius.result = omega arith in
      let full = rw (last, c.radius-radius.ensures) at end.number in
      let most = area_most s.radius (g.met.R.Rule.fit c.args.self.now.rule).near in
      let told = rw (w.self-is, end.same_rule, w.count-is, w.square-is) at c.answer.ensures in
      sym (walked_through s m c.args.at (sym c.if-not-is_inside.ensures) c.search.count c.search.square c.answer.result full (omega arith) (g.met.F.Field.lawful c.args.self.now.below) (rw c.radius-radius.ensures at end.walked) told)
  | then-search-test+then-loop-column-test+in-Err w ↦ cc
]
