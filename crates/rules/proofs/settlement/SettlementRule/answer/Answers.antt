use Rattle.std.proofs.Common.{◌≡◌, ◌∙◌, rules, tests}
use Rattle.std.proofs.lemmas.Iterator.{YieldsList-from_slice}
use Rattle.std.proofs.lemmas.Iterator.Consumers.{YieldsList-from_enumerate}
use Rattle.std.proofs.lemmas.Iterator.Search.{all_from_yields_List}
use Rattle.rules.specs.Settlements.{settles}
use Rattle.rules.proofs.Settling.{cell_passes, settles_by_cells}
use Rattle.rules.proofs.settlement.SettlementRule.answer.Goals as goal

pub returns : goal.returns
returns c _ =
    let hs = c.args.square.now in
    let e : c.all-settles.result ≡ settles hs =
    all_from_yields_List
    (cell_passes hs)
    _
    _
    _
    c.all-settles.ensures.ran
    (YieldsList-from_enumerate (YieldsList-from_slice hs (cc)) (cc))
    (λ x b q k. search (rules, tests))
    ∙ settles_by_cells hs c.requires in
    search rules
