use Rattle.request.proofs.Decimals.{signed}
use Rattle.request.proofs.values.I32Field.read.Goals as goal

pub returns : goal.returns
returns c = signed c.args.bytes.now c.number.result c.number.ensures (λ s g. g.0)
