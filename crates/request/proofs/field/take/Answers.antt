use Rattle.std.proofs.Common.{sym, ◌∙◌}
use Rattle.request.proofs.Cuts.{not_cut, one_cut, printable_lacks}
use Rattle.request.proofs.field.take.Goals as goal

pub returns-in_err-text : goal.returns-in_err-text
returns-in_err-text g c =
    rw c.from_residual.ensures (λ v back b. not_cut c.args.end _ (g.T.Field.text v) back c.in_err-text.ensures b.is)

pub returns-in_err-value : goal.returns-in_err-value
returns-in_err-value g c =
    rw c.from_residual-in_err-value.ensures (λ v back b.
    let was = c.in_ok-text.ensures in
    let lacks = printable_lacks c.args.end (g.T.Field.text v) c.requires (g.met.T.Field.printable v b.fits) in
    c.in_err-value.ensures v b.fits (one_cut c.args.end _ _ _ back was.1 lacks (sym was.0 ∙ b.is)).0)
