use Rattle.worlds.specs.declared.refusal.RowRefusal.TheVariants.{Full, Short}
use Rattle.worlds.proofs.Goings.{underway_more}
use Rattle.worlds.proofs.Rowing.{refused_on}
use Rattle.worlds.proofs.drawing.Drawing.row.Goals as goal

pub returns-then-self-height-clause-history : goal.returns-then-self-height-clause-history
returns-then-self-height-clause-history g c m before during = underway_more m _ _ before during _ (refused_on c.args.self.now Full)

pub returns-then-out-from-clause-history : goal.returns-then-out-from-clause-history
returns-then-out-from-clause-history g c m before during = underway_more m _ _ before during _ (refused_on c.args.self.now Short)

pub returns-clause-history : goal.returns-clause-history
returns-clause-history g c m before during = underway_more m _ _ before during _ (c.write.ensures.goes m)
