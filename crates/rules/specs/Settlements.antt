-- The rule of settlement. Assumes nothing. Places count the 25 cells of the square in reading order from 0.
--     Outranks hs i j     the height at place i is greater than that at place j, or equal and i comes earlier
--     Settles hs          the centre outranks the 24 other cells
--     settlement          the rule that answers 1 where that is so, else 0
--     SettlementsStand    so it does
use Rattle.std.specs.Prelude.{◌≡◌, ℕ, ◌<◌, ◌≤◌, Bool, true, false, cond, ◌&&◌, ◌||◌, ◌⊎◌, ◌↔◌, List, ◌==◌, ◌≢◌, nat_lt, slice_index}
use Rattle.std.specs.List.{list_all}
use Rattle.std.proofs.Common.{arith}
use Rattle.grid.specs.Piles.{Fit, Stencil}
use Rattle.rules.specs.Places.{places}

abbrev pub centre : ℕ
centre = 12

abbrev pub Outranks : List ℕ → ℕ → ℕ → Type 0
Outranks hs i j = (slice_index hs j < slice_index hs i) ⊎ ((slice_index hs j ≡ slice_index hs i) × (i < j))

abbrev pub Settles : List ℕ → Type 0
Settles hs = (j : ℕ) → j < 25 → (j ≢ centre) → Outranks hs centre j

-- the same, tested
abbrev pub outranks : List ℕ → ℕ → ℕ → Bool
outranks hs i j = nat_lt (slice_index hs j) (slice_index hs i) || (slice_index hs j == slice_index hs i && nat_lt i j)

abbrev pub settles : List ℕ → Bool
settles hs = list_all (λ j. (j == centre) || outranks hs centre j) (places 25)

abbrev pub settled : List ℕ → ℕ
settled hs = cond (settles hs) 1 0

abbrev pub settlement : Stencil
settlement = record { radius = 2; value = settled }

abbrev pub SettlementsStand : Type 0
SettlementsStand = (hs : List ℕ) → ((settled hs ≡ 1) ↔ Settles hs) × ((settled hs ≡ 0) ↔ (Settles hs → ⊥))

-- a test answers a height
pub test_low : (b : Bool) → cond b 1 0 ≤ 65534
test_low true = omega arith
test_low false = omega arith

pub settlement_fit : Fit settlement
settlement_fit = record { near = omega arith; height = λ hs w. test_low (settles hs) }
