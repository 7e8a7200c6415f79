use Rattle.std.proofs.Common.{rules}
use Rattle.request.proofs.Cuts.{cut_first}
use Rattle.request.proofs.field.cut.Goals as goal

pub returns : goal.returns
returns c = cut_first c.args.end c.args.bytes.now c.in_ok-i.i (search rules) (search rules) (λ k l. search rules)
