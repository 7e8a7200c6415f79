-- Nine numbers of 16 bits, weighed and divided by 16, fit 16 bits. Assumes nothing.
use Rattle.std.proofs.Common.{◌≤◌, arith}
use Rattle.std.proofs.lemmas.List.Elements.{All-from_get_or}
use Rattle.layers.specs.declared.smoothing.TheConstants.{WEIGHTS}
use Rattle.layers.specs.Rules.{weighed_most}
use Rattle.layers.proofs.smoothing.SmoothingRule.answer.Goals as goal

pub overflow_cast-result : goal.overflow_cast-result
overflow_cast-result c =
    let square = c.args.square.now in
    let numbers = All-from_get_or (λ h. h ≤ 65535) square 0 (λ k l. omega (arith, c.type_inv.square k)) in
    omega (arith, weighed_most 65535 WEIGHTS square numbers)
