-- Caches. Assumes nothing.
--     below_of s, table_of s     the field below a cache, and its table
--     cache_meaning s     what the field below means
--     cache_lawful        so a cache owes what every field owes, where o says of which fields below that is known
--     Through c s t       what asking the cell c of the cache s leaves, beside its meaning: the cache t
use Rattle.grid.specs.declared.cell.Cell.{Cell}
use Rattle.grid.specs.declared.field.Field.{Ghosts}
use Rattle.grid.specs.Meanings.{Lawful, Meaning}
use Rattle.tables.specs.declared.cache.Cache.{Cache}
use Rattle.tables.specs.declared.table.Table.{Table}
use Rattle.tables.specs.Tables.{Passes}

module _ {F : Type 0} {g : Ghosts F} where
  abbrev pub below_of : Cache F g → F
  below_of s = s.below

  abbrev pub table_of : Cache F g → Table
  table_of s = s.table

  abbrev pub cache_meaning : Cache F g → Meaning
  cache_meaning s = g.meaning (below_of s)

  pub cache_lawful : (m : F → Meaning) (o : F → Type 0) → ((f : F) → o f → Lawful (m f)) → (s : Cache F g) → o (below_of s) → Lawful (m (below_of s))
  cache_lawful m o lawful s ordered = lawful (below_of s) ordered

  abbrev pub Through : Cell → Cache F g → Cache F g → Type 0
  Through c s t = Passes c (below_of s) (table_of s) (below_of t) (table_of t)
