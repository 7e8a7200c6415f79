use Rattle.worlds.proofs.Goings.{fits_finished}
use Rattle.worlds.proofs.Stretches.{stretch_few, stretch_holds}
use Rattle.worlds.proofs.drawing.Drawing.finish.Goals as goal

pub returns-clause-holds : goal.returns-clause-holds
returns-clause-holds g c m before during u = stretch_holds _ _ _ _ _ u.table

pub returns-clause-few : goal.returns-clause-few
returns-clause-few g c m before during u = stretch_few _ _ _ _ _ u.table

pub returns-clause-history : goal.returns-clause-history
returns-clause-history g c m before during = fits_finished m c.args.self before during _ _
