use Rattle.std.proofs.Common.{◌∙◌, refl, rules, tests, arith}
use Rattle.std.proofs.lemmas.Iterator.{YieldsList-from_map_by, YieldsList-from_range}
use Rattle.std.proofs.lemmas.Iterator.Search.{any_from_yields_List}
use Rattle.rules.proofs.Roading.{road_from, road_from_in}
use Rattle.rules.proofs.road.Square.has_road.Goals as goal

pub returns : goal.returns
returns c =
    any_from_yields_List
    (road_from c.args.self.heights.now)
    _
    _
    _
    c.any.ensures.ran
    (YieldsList-from_map_by _ (λ p. p.index) (λ i. i) (YieldsList-from_range _ _ _ refl refl) c.map.ensures.closure (λ x r q k. search (rules, tests)))
    (λ x r q k. search (rules, tests))
    ∙ road_from_in c.args.self.heights.now _ _ _ c.map.ensures.source (omega arith) (omega arith) (omega arith)
