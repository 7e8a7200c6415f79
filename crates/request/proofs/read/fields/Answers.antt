use Rattle.std.proofs.Common.{w32, SFits}
use Rattle.std.proofs.lemmas.Int.{to_z-of_z}
use Rattle.request.proofs.Lines.{height_left, whole, width_left, x_left, y_left}
use Rattle.request.proofs.Decimals.{fits_32}
use Rattle.request.proofs.read.fields.Goals as goal

pub returns-in_err-x : goal.returns-in_err-x
returns-in_err-x c =
    let bs = c.args.bytes.now in
    rw c.from_residual-in_err-x.ensures (λ q o. c.in_err-x.ensures q.x _ (record { fits = o.in_range.x; is = x_left bs q o c.in_ok-kind.ensures c.in_ok-seed.ensures }))

pub returns-in_err-y : goal.returns-in_err-y
returns-in_err-y c =
    let bs = c.args.bytes.now in
    rw c.from_residual-in_err-y.ensures (λ q o. c.in_err-y.ensures q.y _ (record { fits = o.in_range.y; is = y_left bs q o c.in_ok-kind.ensures c.in_ok-seed.ensures c.in_ok-x.ensures }))

pub returns-in_err-width : goal.returns-in_err-width
returns-in_err-width c =
    let bs = c.args.bytes.now in
    rw c.from_residual-in_err-width.ensures (λ q o. c.in_err-width.ensures q.width _ (record { fits = o.in_range.width; is = width_left bs q o c.in_ok-kind.ensures c.in_ok-seed.ensures c.in_ok-x.ensures c.in_ok-y.ensures }))

pub returns-in_err-height : goal.returns-in_err-height
returns-in_err-height c =
    let bs = c.args.bytes.now in
    rw c.from_residual-in_err-height.ensures (λ q o. c.in_err-height.ensures q.height _ (record { fits = o.in_range.height; is = height_left bs q o c.in_ok-kind.ensures c.in_ok-seed.ensures c.in_ok-x.ensures c.in_ok-y.ensures c.in_ok-width.ensures }))

pub returns : goal.returns
returns c =
    let first = c.in_ok-x.ensures in
    let second = c.in_ok-y.ensures in
    let x_fits : SFits w32 c.in_ok-x.x = fits_32 _ first.fits in
    let y_fits : SFits w32 c.in_ok-y.y = fits_32 _ second.fits in
    simp to_z-of_z (whole c.in_ok-kind.ensures c.in_ok-seed.ensures first second c.in_ok-width.ensures c.in_ok-height.ensures)
