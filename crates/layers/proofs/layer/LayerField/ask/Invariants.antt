-- What holds at each turn of a layer's walk over the square. Assumes nothing.
use Rattle.std.proofs.Common.{◌≡◌, ◌+◌, ◌*◌, length, None}
use Rattle.layers.proofs.Walks.{Walked}
use Rattle.layers.proofs.layer.LayerField.ask.Given as goal

-- `count` cells of the square are walked: each has its height, and the field below means what it meant
abbrev pub invariant-loop-column : goal.invariant-loop-column
invariant-loop-column g l = record {
  same_rule : l.self.rule ≡ l.fn.self.rule;
  no_blank : l.blank ≡ None;
  size : length l.square ≡ 529;
  number : l.count ≡ l.row * l.side + l.column;
  same_meaning : g.F.Field.meaning l.self.below ≡ g.F.Field.meaning l.fn.self.below;
  walked : Walked (g.F.Field.meaning l.fn.self.below) l.radius l.at l.count l.square;
}

abbrev pub invariant-search : goal.invariant-search
invariant-search g l = record {
  same_rule : l.self.rule ≡ l.fn.self.rule;
  no_blank : l.blank ≡ None;
  size : length l.square ≡ 529;
  number : l.count ≡ l.row * l.side;
  same_meaning : g.F.Field.meaning l.self.below ≡ g.F.Field.meaning l.fn.self.below;
  walked : Walked (g.F.Field.meaning l.fn.self.below) l.radius l.at l.count l.square;
}
