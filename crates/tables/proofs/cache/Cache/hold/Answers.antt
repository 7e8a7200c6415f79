use Rattle.tables.proofs.Same.{same_cache}
use Rattle.tables.proofs.cache.Cache.hold.Goals as goal

pub returns-then-is_inside-clause-stays : goal.returns-then-is_inside-clause-stays
returns-then-is_inside-clause-stays g c h = same_cache _ c.args.self.now (c.hold.ensures.stays h).0 (c.hold.ensures.stays h).1
