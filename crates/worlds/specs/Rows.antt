-- Rows of a drawing. Assumes nothing.
--     RowAnswer           what `row` answers
--     written v r         how many cells were written: the whole row, those before the blank one, or none
--     asked v r           how many cells were asked: those, and the blank one too
--     Placed v j n r      which answers there are where row j is next and the caller's row has n places
--     Answers m v j r p   the heights written into p, and the blank, are those of the meaning m
--     Past v r o p        past what was written, the caller's row p is as it was before, o
--     told_by m v j r     the events of the row: each asked cell, and then how it ended
--     next_after r j      the row that is next after the answer r
use Rattle.std.specs.Prelude.{◌≡◌, ℕ, ◌+◌, ◌<◌, ◌≤◌, List, [], ◌∷◌, ◌++◌, map, length, ◌-ℤ◌, Ok, Err, Result, slice_index, unsigned_abs}
use Rattle.std.specs.List.{range_with_len}
use Rattle.grid.specs.declared.cell.Cell.{Cell}
use Rattle.grid.specs.declared.window.Window.{Window}
use Rattle.grid.specs.Meanings.{Meaning}
use Rattle.grid.specs.Windows.{cell_of, corner_of, height_of, width_of}
use Rattle.worlds.specs.declared.event.Event.TheVariants.{Asked, Wrote, Refused}
use Rattle.worlds.specs.declared.refusal.RowRefusal.{RowRefusal}
use Rattle.worlds.specs.declared.refusal.RowRefusal.TheVariants.{Full, Short, Blank}
use Rattle.worlds.specs.Journals.{Journal}

abbrev pub RowAnswer : Type 0
RowAnswer = Result (Unit {0}) RowRefusal

abbrev pub column_of : Window → Cell → ℕ
column_of v c = unsigned_abs (c.x -ℤ (corner_of v).x)

abbrev pub written : Window → RowAnswer → ℕ
written v (Ok u) = width_of v
written v (Err (Blank f)) = column_of v f.cell
written v (Err Full) = 0
written v (Err Short) = 0

abbrev pub asked : Window → RowAnswer → ℕ
asked v (Ok u) = width_of v
asked v (Err (Blank f)) = column_of v f.cell + 1
asked v (Err Full) = 0
asked v (Err Short) = 0

-- in the order in which they are tested
abbrev pub Placed : Window → ℕ → ℕ → RowAnswer → Type 0
Placed v j n (Err Full) = height_of v ≤ j
Placed v j n (Err Short) = (j < height_of v) × (n < width_of v)
Placed v j n (Err (Blank f)) = (j < height_of v) × (width_of v ≤ n) × ((i : ℕ) × (i < width_of v) × (f.cell ≡ cell_of v i j))
Placed v j n (Ok u) = (j < height_of v) × (width_of v ≤ n)

abbrev pub BlankOf : Meaning → RowAnswer → Type 0
BlankOf m (Ok u) = Unit {0}
BlankOf m (Err (Blank f)) = m f.cell ≡ Err f.blank
BlankOf m (Err Full) = Unit {0}
BlankOf m (Err Short) = Unit {0}

abbrev pub Answers : Meaning → Window → ℕ → RowAnswer → List ℕ → Type 0
Answers m v j r p = ((i : ℕ) → i < written v r → m (cell_of v i j) ≡ Ok (slice_index p i)) × BlankOf m r

abbrev pub Past : Window → RowAnswer → List ℕ → List ℕ → Type 0
Past v r o p = (length p ≡ length o) × ((i : ℕ) → written v r ≤ i → slice_index p i ≡ slice_index o i)

-- what the first n cells of row j tell
abbrev pub row_told : Meaning → Window → ℕ → ℕ → Journal
row_told m v j n = map (λ i. Asked (cell_of v i j) (m (cell_of v i j))) (range_with_len 0 n)

abbrev pub ending : RowAnswer → Journal
ending (Ok u) = Wrote ∷ []
ending (Err (Blank f)) = []
ending (Err Full) = Refused Full ∷ []
ending (Err Short) = Refused Short ∷ []

abbrev pub told_by : Meaning → Window → ℕ → RowAnswer → Journal
told_by m v j r = row_told m v j (asked v r) ++ ending r

abbrev pub next_after : RowAnswer → ℕ → ℕ
next_after (Ok u) j = j + 1
next_after (Err e) j = j
