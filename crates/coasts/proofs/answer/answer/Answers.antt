use Rattle.std.proofs.Common.{string_bytes}
use Rattle.std.proofs.lemmas.Result.{IfOk-weaker}
use Rattle.coasts.proofs.Plans.{prints_plan, prints_refusal}
use Rattle.coasts.proofs.answer.answer.Goals as goal

pub returns-in-Ok : goal.returns-in-Ok
returns-in-Ok c = IfOk-weaker c.draw.result _ _ (λ t. prints_plan c.args.input.now (string_bytes t) c.in-Ok.plan c.in-Ok.ensures) c.draw.ensures

pub returns-in-Err : goal.returns-in-Err
returns-in-Err c =
    IfOk-weaker c.refusal_line.result _ _
    (λ t is. prints_refusal _ c.args.input.now (string_bytes t) c.in-Err.refusal c.in-Err.ensures is)
    c.refusal_line.ensures
