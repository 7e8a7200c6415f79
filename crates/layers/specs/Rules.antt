-- The rules: a radius, and a function from the square of heights in reading order to one height. Assumes nothing.
--     smoothing           corners weigh 1, sides 2 and the centre 4; the floor of the sum divided by 16
--     smoothing_fit       it is what every rule has to be
use Rattle.std.specs.Prelude.{ℕ, ◌*◌, ◌/◌, ◌≤◌, List, [], ◌∷◌, map, sum_by}
use Rattle.std.proofs.Common.{arith}
use Rattle.std.specs.List.{All, zip}
use Rattle.std.proofs.lemmas.List.Elements.{All-head, All-tail}
use Rattle.std.proofs.lemmas.List.Sums.{sum_by-cons}
use Rattle.std.proofs.lemmas.Nat.{mul-le}
use Rattle.grid.specs.Piles.{Fit, Stencil}

-- each height times its weight, together
abbrev pub weighed : List ℕ → List ℕ → ℕ
weighed ws hs = sum_by (λ p. p.0 * p.1) (zip ws hs)

abbrev pub weights : List ℕ
weights =
    1 ∷ 2 ∷ 1 ∷
    2 ∷ 4 ∷ 2 ∷
    1 ∷ 2 ∷ 1 ∷ []

abbrev pub smoothing : Stencil
smoothing = record { radius = 1; value = λ hs. weighed weights hs / 16 }

-- a sum of numbers by their weights is at most the sum of the weights times a number that none exceeds
pub weighed_most : (m : ℕ) (ws hs : List ℕ) → All (λ h. h ≤ m) hs → weighed ws hs ≤ weighed ws (map (λ _. m) ws)
weighed_most m [] hs a = omega arith
weighed_most m (w ∷ ws) [] a = omega arith
weighed_most m (w ∷ ws) (h ∷ hs) a = simp sum_by-cons (omega (arith, mul-le w h w m (omega arith) (All-head (λ h. h ≤ m) h hs a), weighed_most m ws hs (All-tail (λ h. h ≤ m) h hs a)))

pub smoothing_fit : Fit smoothing
smoothing_fit = record { near = omega arith; height = λ hs w. let m : weighed weights hs ≤ 16 * 65534 = weighed_most 65534 weights hs w.heights in omega arith }
