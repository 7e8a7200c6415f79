-- Only ground within the margin of a cell reaches it through rule layers. Assumes nothing.
use Rattle.std.proofs.Common.{◌≡◌, ◌+◌, ◌≤◌, cond, List, [], ◌∷◌, ℤ, ◌-ℤ◌, nat_abs, Err, refl, ap, ap₂, inl, inr, arith}
use Rattle.std.proofs.lemmas.Int.{ints}
use Rattle.grid.specs.declared.cell.Cell.{Cell}
use Rattle.grid.specs.Counts.{Among}
use Rattle.grid.specs.Meanings.{Meaning, own_blank}
use Rattle.grid.specs.Piles.{Agree, Locality, Stencil, before, carry, margin, ruled, square, step, survey}
use Rattle.grid.specs.Places.{distance, inside}
use Rattle.grid.proofs.Squares.{squares}

gap_triangle : (a b c : ℤ) → nat_abs (a -ℤ c) ≤ nat_abs (a -ℤ b) + nat_abs (b -ℤ c)
gap_triangle a b c = omega (arith, ints)

triangle : (a b c : Cell) → distance a c ≤ distance a b + distance b c
triangle a b c = omega (arith, gap_triangle a.x b.x c.x, gap_triangle a.y b.y c.y)

survey_same : (m n : Meaning) (cs : List Cell) → ((d : Cell) → Among cs d → m d ≡ n d) → survey m cs ≡ survey n cs
unfolding survey
survey_same m n [] same = refl
survey_same m n (c ∷ cs) same = ap₂ before (same c (inl refl)) (survey_same m n cs (λ d a. same d (inr a)))

step_same : (s : Stencil) (m n : Meaning) (c : Cell) → Agree s.radius m n c → step s m c ≡ step s n c
unfolding step
step_same s m n c agree =
    ap (λ hs. cond (inside c) (ruled s.value hs) (Err (own_blank c)))
    (survey_same m n (square s.radius c) (λ d a. agree d ((squares s.radius c).within d a)))

pub locality : Locality
unfolding carry margin
locality [] g h c agree = agree c (omega (arith, ints))
locality (s ∷ ss) g h c agree =
    step_same s (carry ss g) (carry ss h) c (λ d near. locality ss g h d (λ e close. agree e (omega (arith, triangle c d e))))
