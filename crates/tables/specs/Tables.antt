-- Chunk tables. Assumes nothing.
--     holds t k           the slot of k has k's address
--     index_of c          where the number of a cell stands
--     stored t c          the number that stands there
--     number_for h        the number for a height or a blank: the height, or 65,535 for none
--     height_for n         the height that a number stands for, if it is one
--     mark a              the number for an answer
--     Right t m           every number of a held chunk is the one for what m gives at its cell
--     holding k H         the chunks held once k is, where H were held before: k, and those of other slots
--     touch c H           the chunks held after c was asked, where H were held before
--     Passes c f t g u    what asking c of a field f through a table t leaves, beside the field's meaning: the field g and the table u
use Rattle.std.specs.Prelude.{◌≡◌, ℕ, ◌+◌, ◌*◌, Bool, true, false, cond, Some, None, Option, ◌==◌, ◌≢◌, slice_index, slice_index_or}
use Rattle.std.specs.Result.{result_ok}
use Rattle.grid.specs.declared.cell.Cell.{Cell}
use Rattle.grid.specs.declared.chunk.Chunk.{Chunk}
use Rattle.grid.specs.Meanings.{Answer, Meaning}
use Rattle.grid.specs.Places.{chunk_of, inside, place_of, same_chunk, slot_of}
use Rattle.tables.specs.declared.table.Table.{Table}

abbrev pub is_chunk : Option Chunk → Chunk → Bool
is_chunk (Some j) k = same_chunk j k
is_chunk None k = false

abbrev pub holds : Table → Chunk → Bool
holds t k = is_chunk (slice_index_or t.chunks (slot_of k) None) k

abbrev pub index_of : Cell → ℕ
index_of c = 64 * slot_of (chunk_of c) + place_of c

abbrev pub stored : Table → Cell → ℕ
stored t c = slice_index t.heights (index_of c)

abbrev pub number_for : Option ℕ → ℕ
number_for (Some h) = h
number_for None = 65535

abbrev pub height_for : ℕ → Option ℕ
height_for n = cond (n == 65535) None (Some n)

abbrev pub mark : Answer → ℕ
mark a = number_for (result_ok a)

abbrev pub Right : Table → Meaning → Type 0
Right t m = (c : Cell) → holds t (chunk_of c) ≡ true → stored t c ≡ mark (m c)

abbrev pub holding : Chunk → (Chunk → Bool) → Chunk → Bool
holding k H j = cond (slot_of j == slot_of k) (same_chunk k j) (H j)

abbrev pub touch : Cell → (Chunk → Bool) → Chunk → Bool
touch c H = cond (inside c) (holding (chunk_of c) H) H

module _ {F : Type 0} where
  pub record Passes (c : Cell) (f : F) (t : Table) (g : F) (u : Table) : Type 0 where
    pub held : (k : Chunk) → holds u k ≡ touch c (holds t) k
    pub others : (d : Cell) → (slot_of (chunk_of d) ≢ slot_of (chunk_of c)) → stored u d ≡ stored t d
    pub beyond : inside c ≡ false → (g ≡ f) × (u ≡ t)
    pub kept : holds t (chunk_of c) ≡ true → u ≡ t
    -- a height is answered from the table: the field below is not asked
    pub hit : holds t (chunk_of c) ≡ true → (stored t c ≢ 65535) → g ≡ f
