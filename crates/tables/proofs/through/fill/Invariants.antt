use Rattle.std.proofs.Common.{◌≡◌}
use Rattle.grid.specs.declared.chunk.Chunk.{Chunk}
use Rattle.grid.specs.Places.{chunk_of}
use Rattle.tables.specs.Tables.{holds}
use Rattle.tables.proofs.Filling.{Filled, Kept}
use Rattle.tables.proofs.through.fill.Given as goal

abbrev pub invariant-loop-place : goal.invariant-loop-place
invariant-loop-place g l = record {
  same : g.F.Field.meaning l.below ≡ g.F.Field.meaning l.initial.below;
  filled : Filled (g.F.Field.meaning l.initial.below) (chunk_of l.at) l.place l.table;
  held : (k : Chunk) → holds l.table k ≡ holds l.initial.table k;
  others : Kept (chunk_of l.at) l.initial.table l.table;
}
