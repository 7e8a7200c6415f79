use Rattle.std.proofs.Common.{arith}
use Rattle.request.proofs.Decimals.{unsigned}
use Rattle.request.proofs.values.U16Field.read.Goals as goal

pub returns : goal.returns
returns c = unsigned 16 c.args.bytes.now c.number.result (omega arith) c.number.ensures (λ s g. g.0)
