-- The formula of a pile of rule layers. Assumes nothing.
--     side r, area r      of the square of radius r
--     nth_cell w c k      cell number k, from 0, of the rectangle with corner c whose rows have w cells, in reading order
--     square r c          the cells of the square of radius r around c, in reading order
--     Whole r hs          a whole square of heights
--     Stencil, Fit s      a radius and a function from squares of heights, and what every rule owes of them
--     survey m cs         the heights of all these cells, or the first blank among them
--     step s m            a meaning carried up through one rule layer
--     carry ss m          a meaning carried up through rule layers, the topmost first in the list
--     margin ss           the sum of their radii
--     Agree n g h c       two meanings are the same at every cell within a distance of n from c
--     Locality            grounds that agree within the margin of a cell are carried to the same answer there
--     Squares             a square is exactly the cells within its radius, each once, in reading order
use Rattle.std.specs.Prelude.{◌≡◌, ℕ, ◌+◌, ◌*◌, ◌/◌, ◌%◌, ◌≤◌, cond, List, [], ◌∷◌, map, length, pos, ◌-ℤ◌, Ok, Err, Result}
use Rattle.std.specs.List.{range_with_len, All, AllPairs}
use Rattle.grid.specs.declared.blank.Blank.{Blank}
use Rattle.grid.specs.declared.cell.Cell.{Cell}
use Rattle.grid.specs.Counts.{Among, Once}
use Rattle.grid.specs.Meanings.{Answer, Height, Meaning, own_blank, risen}
use Rattle.grid.specs.Places.{Before, cell_at, distance, inside}

abbrev pub side : ℕ → ℕ
side r = 2 * r + 1

abbrev pub area : ℕ → ℕ
area r = side r * side r

abbrev pub north_west : ℕ → Cell → Cell
north_west r c = record { x = c.x -ℤ pos r; y = c.y -ℤ pos r }

unfoldable pub nth_cell : ℕ → Cell → ℕ → Cell
nth_cell w c k = cell_at c (k % w) (k / w)

unfoldable pub square : ℕ → Cell → List Cell
square r c = map (nth_cell (side r) (north_west r c)) (range_with_len 0 (area r))

pub record Whole (r : ℕ) (hs : List ℕ) : Type 0 where
  pub size : length hs ≡ area r
  pub heights : All Height hs

pub record Stencil : Type 0 where
  pub radius : ℕ
  pub value : List ℕ → ℕ

pub record Fit (s : Stencil) : Type 0 where
  pub near : s.radius ≤ 11
  pub height : (hs : List ℕ) → Whole s.radius hs → Height (s.value hs)

-- one answer before what the cells after it gave
abbrev pub before : Answer → Result (List ℕ) Blank → Result (List ℕ) Blank
before (Ok h) (Ok hs) = Ok (h ∷ hs)
before (Ok h) (Err b) = Err b
before (Err b) rest = Err b

unfoldable pub survey : Meaning → List Cell → Result (List ℕ) Blank
survey m [] = Ok []
survey m (c ∷ cs) = before (m c) (survey m cs)

-- what a rule makes of a surveyed square
abbrev pub ruled : (List ℕ → ℕ) → Result (List ℕ) Blank → Answer
ruled value (Ok hs) = Ok (value hs)
ruled value (Err b) = Err (risen b)

unfoldable pub step : Stencil → Meaning → Meaning
step s m c = cond (inside c) (ruled s.value (survey m (square s.radius c))) (Err (own_blank c))

unfoldable pub carry : List Stencil → Meaning → Meaning
carry [] m = m
carry (s ∷ ss) m = step s (carry ss m)

unfoldable pub margin : List Stencil → ℕ
margin [] = 0
margin (s ∷ ss) = s.radius + margin ss

abbrev pub Agree : ℕ → Meaning → Meaning → Cell → Type 0
Agree n g h c = (d : Cell) → distance c d ≤ n → g d ≡ h d

abbrev pub Locality : Type 0
Locality = (ss : List Stencil) (g h : Meaning) (c : Cell) → Agree (margin ss) g h c → carry ss g c ≡ carry ss h c

pub record Neighbourhood (r : ℕ) (c : Cell) (cs : List Cell) : Type 0 where
  pub within : (d : Cell) → Among cs d → distance c d ≤ r
  pub all : (d : Cell) → distance c d ≤ r → Among cs d
  pub once : Once cs
  pub ordered : AllPairs Before cs

abbrev pub Squares : Type 0
Squares = (r : ℕ) (c : Cell) → Neighbourhood r c (square r c)
