-- The rule of roads. Assumes nothing. Places count the 23 by 23 cells of the square in reading order from 0.
--     row i, column i     of a place
--     apart i j           the distance of two places: the greater of their differences in row and column
--     Site hs i           the cell at place i is a settlement: it is not 0
--     Linked hs a b       settlements a and b, a earlier, at most 6 apart, with no settlement nearer to both
--     OnPath a b c        c lies on the path from a along its row to the column of b, and along that column to b
--     Road hs             the centre lies on the path of a linked pair
--     road                the rule that answers 1 where that is so, else 0
--     RoadsStand          so it does
use Rattle.std.specs.Prelude.{◌≡◌, ℕ, ◌+◌, ◌-◌, ◌/◌, ◌%◌, ◌<◌, ◌≤◌, max, Bool, cond, not, ◌&&◌, ◌||◌, ◌⊎◌, ◌↔◌, List, ◌==◌, nat_le, nat_lt, slice_index, slice_index_or}
use Rattle.std.specs.List.{list_any}
use Rattle.std.proofs.Common.{arith}
use Rattle.grid.specs.Piles.{Fit, Stencil}
use Rattle.rules.specs.Places.{places}
use Rattle.rules.specs.Settlements.{test_low}

abbrev pub centre : ℕ
centre = 264

abbrev pub row : ℕ → ℕ
row i = i / 23

abbrev pub column : ℕ → ℕ
column i = i % 23

abbrev pub gap : ℕ → ℕ → ℕ
gap a b = (a - b) + (b - a)

abbrev pub apart : ℕ → ℕ → ℕ
apart i j = max (gap (row i) (row j)) (gap (column i) (column j))

pub record Site (hs : List ℕ) (i : ℕ) : Type 0 where
  pub within : i < 529
  pub not_0 : slice_index_or hs i 0 ≡ 0 → ⊥

pub record Linked (hs : List ℕ) (a b : ℕ) : Type 0 where
  pub first : Site hs a
  pub second : Site hs b
  pub earlier : a < b
  pub near : apart a b ≤ 6
  pub alone : (c : ℕ) → Site hs c → apart c a < apart a b → apart c b < apart a b → ⊥

-- c lies from a to b, whichever is the greater
abbrev pub FromTo : ℕ → ℕ → ℕ → Type 0
FromTo a b c = ((a ≤ c) × (c ≤ b)) ⊎ ((b ≤ c) × (c ≤ a))

abbrev pub OnPath : ℕ → ℕ → ℕ → Type 0
OnPath a b c = ((row c ≡ row a) × FromTo (column a) (column b) (column c)) ⊎ ((column c ≡ column b) × FromTo (row a) (row b) (row c))

abbrev pub Road : List ℕ → Type 0
Road hs = (a : ℕ) × (b : ℕ) × Linked hs a b × OnPath a b centre

-- the same, tested
abbrev pub site : List ℕ → ℕ → Bool
site hs i = not (slice_index hs i == 0)

abbrev pub nearer : List ℕ → ℕ → ℕ → ℕ → Bool
nearer hs a b c = site hs c && (nat_lt (apart c a) (apart a b) && nat_lt (apart c b) (apart a b))

abbrev pub linked : List ℕ → ℕ → ℕ → Bool
linked hs a b = nat_lt a b && (nat_le (apart a b) 6 && not (list_any (nearer hs a b) (places 529)))

abbrev pub from_to : ℕ → ℕ → ℕ → Bool
from_to a b c = (nat_le a c && nat_le c b) || (nat_le b c && nat_le c a)

abbrev pub on_path : ℕ → ℕ → ℕ → Bool
on_path a b c = (row c == row a && from_to (column a) (column b) (column c)) || (column c == column b && from_to (row a) (row b) (row c))

-- a pair is tested only where both are settlements and the path has the centre
abbrev pub road_to : List ℕ → ℕ → ℕ → Bool
road_to hs a b = site hs b && (on_path a b centre && linked hs a b)

abbrev pub has_road : List ℕ → Bool
has_road hs = list_any (λ a. site hs a && list_any (road_to hs a) (places 529)) (places 529)

abbrev pub roaded : List ℕ → ℕ
roaded hs = cond (has_road hs) 1 0

abbrev pub road : Stencil
road = record { radius = 11; value = roaded }

abbrev pub RoadsStand : Type 0
RoadsStand = (hs : List ℕ) → ((roaded hs ≡ 1) ↔ Road hs) × ((roaded hs ≡ 0) ↔ (Road hs → ⊥))

pub road_fit : Fit road
road_fit = record { near = omega arith; height = λ hs w. test_low (has_road hs) }
