-- Windows. Assumes nothing.
--     corner_of v, width_of v, height_of v     the numbers of a window
--     cell_of v i j       its cell in column i and row j, counted from 0
--     cell_if_any v i j   that cell, where the window has such a column and row
--     InsideRim c w h     every cell of the rectangle is inside the rim
--     Makes c w h r       what making a window answers
--     Touches v k         some cell of the window lies in the chunk
use Rattle.std.specs.Prelude.{◌≡◌, ℕ, ◌<◌, true, cond, ◌&&◌, Some, None, Ok, Err, Option, Result, nat_lt}
use Rattle.grid.specs.declared.cell.Cell.{Cell}
use Rattle.grid.specs.declared.chunk.Chunk.{Chunk}
use Rattle.grid.specs.declared.window.Window.{Window}
use Rattle.grid.specs.declared.window.refusal.WindowRefusal.{WindowRefusal}
use Rattle.grid.specs.declared.window.refusal.WindowRefusal.TheVariants.{Size, Rim}
use Rattle.grid.specs.Places.{Side, cell_at, chunk_of, inside}

abbrev pub corner_of : Window → Cell
corner_of v = v.corner

abbrev pub width_of : Window → ℕ
width_of v = v.width

abbrev pub height_of : Window → ℕ
height_of v = v.height

abbrev pub cell_of : Window → ℕ → ℕ → Cell
cell_of v = cell_at (corner_of v)

abbrev pub cell_if_any : Window → ℕ → ℕ → Option Cell
cell_if_any v i j = cond (nat_lt i (width_of v) && nat_lt j (height_of v)) (Some (cell_of v i j)) None

abbrev pub InsideRim : Cell → ℕ → ℕ → Type 0
InsideRim c w h = (i j : ℕ) → i < w → j < h → inside (cell_at c i j) ≡ true

-- the size is tested first
abbrev pub Makes : Cell → ℕ → ℕ → Result Window WindowRefusal → Type 0
Makes c w h (Ok v) = Side w × Side h × InsideRim c w h × (corner_of v ≡ c) × (width_of v ≡ w) × (height_of v ≡ h)
Makes c w h (Err Size) = Side w × Side h → ⊥
Makes c w h (Err Rim) = Side w × Side h × (InsideRim c w h → ⊥)

abbrev pub Touches : Window → Chunk → Type 0
Touches v k = (i : ℕ) × (j : ℕ) × (i < width_of v) × (j < height_of v) × (chunk_of (cell_of v i j) ≡ k)
