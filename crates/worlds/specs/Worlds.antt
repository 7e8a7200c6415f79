-- Worlds. Assumes nothing.
--     cache_of w          the cache that a world is
--     below_of w, table_of w     the field on which it is opened, and its table
--     held_by w k         the world's table has the address of k
--     world_meaning w     what the field below means
--     Fits m w j          the world means m and is as the journal j of its calls says
use Rattle.std.specs.Prelude.{◌≡◌, Bool, true, ◌↔◌}
use Rattle.grid.specs.declared.chunk.Chunk.{Chunk}
use Rattle.grid.specs.declared.field.Field.{Ghosts}
use Rattle.grid.specs.Meanings.{Meaning}
use Rattle.tables.specs.declared.cache.Cache.{Cache}
use Rattle.tables.specs.declared.table.Table.{Table}
use Rattle.tables.specs.Tables.{holds}
use Rattle.worlds.specs.declared.world.World.{World}
use Rattle.worlds.specs.Journals.{Held, Journal}

module _ {F : Type 0} {g : Ghosts F} where
  abbrev pub cache_of : World F g → Cache F g
  cache_of w = w.cache

  abbrev pub below_of : World F g → F
  below_of w = (cache_of w).below

  abbrev pub table_of : World F g → Table
  table_of w = (cache_of w).table

  abbrev pub held_by : World F g → Chunk → Bool
  held_by w = holds (table_of w)

  abbrev pub world_meaning : World F g → Meaning
  world_meaning w = g.meaning (below_of w)

  pub record Fits (m : Meaning) (w : World F g) (j : Journal) : Type 0 where
    pub means : world_meaning w ≡ m
    pub held : (k : Chunk) → (held_by w k ≡ true) ↔ Held j k
