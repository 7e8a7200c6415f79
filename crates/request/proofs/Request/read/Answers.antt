use Rattle.std.proofs.Common.{rules}
use Rattle.request.proofs.Lines.{reading}
use Rattle.request.proofs.Request.read.Goals as goal

pub returns : goal.returns
returns c = reading c.args.bytes.now _ (search rules) c.fields.result c.ok_or.result c.fields.ensures c.ok_or.ensures.value
