-- Cells and chunks of the endless grid. Assumes nothing.
--     Before a b       a comes before b in reading order
--     distance a b     the greater of the differences in x and in y
--     rim, inside c    1,000,000,000, and whether both coordinates of c lie from minus that to that
--     eighth z         the floor of z / 8, and rest z what that leaves, from 0 to 7
--     chunk_of c       the chunk in which c lies
--     LiesIn c k       c is one of the 8 by 8 cells of k
--     slot_of k        the table slot to which k belongs
--     place_of c       the place of c in its chunk, in reading order from 0 to 63
--     cell_in k p      the cell at place p of k
--     same_chunk j k   whether two addresses are one
--     cell_at c i j    the cell i columns east and j rows south of c
--     Side n           a width or a height that a window may have
use Rattle.std.specs.Prelude.{◌≡◌, ℕ, ◌+◌, ◌-◌, ◌*◌, ◌/◌, ◌%◌, ◌≤◌, max, Bool, ◌&&◌, ◌⊎◌, ℤ, pos, negsuc, ◌+ℤ◌, ◌-ℤ◌, ◌*ℤ◌, ◌≤ℤ◌, ◌<ℤ◌, nat_le, unsigned_abs}
use Rattle.std.specs.Ordering.{int_eq}
use Rattle.grid.specs.declared.cell.Cell.{Cell}
use Rattle.grid.specs.declared.chunk.Chunk.{Chunk}

abbrev pub Before : Cell → Cell → Type 0
Before a b = (a.y <ℤ b.y) ⊎ ((a.y ≡ b.y) × (a.x <ℤ b.x))

abbrev pub distance : Cell → Cell → ℕ
distance a b = max (unsigned_abs (a.x -ℤ b.x)) (unsigned_abs (a.y -ℤ b.y))

abbrev pub rim : ℕ
rim = 1000000000

abbrev pub inside : Cell → Bool
inside c = nat_le (unsigned_abs c.x) rim && nat_le (unsigned_abs c.y) rim

abbrev pub eighth : ℤ → ℤ
eighth (pos n) = pos (n / 8)
eighth (negsuc n) = negsuc (n / 8)

abbrev pub rest : ℤ → ℕ
rest (pos n) = n % 8
rest (negsuc n) = 7 - n % 8

abbrev pub chunk_of : Cell → Chunk
chunk_of c = record { x = eighth c.x; y = eighth c.y }

-- z is one of the eight numbers from 8 q on
abbrev pub EightFrom : ℤ → ℤ → Type 0
EightFrom q z = ((pos 8 *ℤ q) ≤ℤ z) × (z <ℤ ((pos 8 *ℤ q) +ℤ pos 8))

abbrev pub LiesIn : Cell → Chunk → Type 0
LiesIn c k = EightFrom k.x c.x × EightFrom k.y c.y

abbrev pub slot_of : Chunk → ℕ
slot_of k = 8 * rest k.y + rest k.x

abbrev pub place_of : Cell → ℕ
place_of c = 8 * rest c.y + rest c.x

abbrev pub cell_in : Chunk → ℕ → Cell
cell_in k p = record { x = (pos 8 *ℤ k.x) +ℤ pos (p % 8); y = (pos 8 *ℤ k.y) +ℤ pos (p / 8) }

abbrev pub same_chunk : Chunk → Chunk → Bool
same_chunk j k = int_eq j.x k.x && int_eq j.y k.y

abbrev pub cell_at : Cell → ℕ → ℕ → Cell
cell_at c i j = record { x = c.x +ℤ pos i; y = c.y +ℤ pos j }

abbrev pub Side : ℕ → Type 0
Side n = (1 ≤ n) × (n ≤ 57)
