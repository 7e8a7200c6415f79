-- Worked examples of the generator and the rules. Assumes nothing.
--     at x y              a cell
--     spot x y h          the cell (x, y) with the height h
--     around r ss c       the heights of the square of radius r around c, where the spots ss have theirs and all else is 0
--     Examples            what the definitions give, number by number
use Rattle.std.specs.Prelude.{ℕ, ◌≡◌, cond, ◌&&◌, List, [], ◌∷◌, map, ℤ, pos, negsuc, replicate}
use Rattle.grid.specs.declared.cell.Cell.{Cell}
use Rattle.grid.specs.Piles.{square}
use Rattle.std.specs.Ordering.{int_eq}
use Rattle.grounds.specs.Splitmix.{output}
use Rattle.rules.specs.Roads.{roaded}
use Rattle.rules.specs.Settlements.{settled}
use Rattle.layers.specs.Rules.{smoothing}

pub record Spot : Type 0 where
  pub cell : Cell
  pub height : ℕ

abbrev pub at : ℤ → ℤ → Cell
at x y = record { x = x; y = y }

abbrev pub spot : ℤ → ℤ → ℕ → Spot
spot x y h = record { cell = at x y; height = h }

abbrev pub only : List Spot → Cell → ℕ
only [] c = 0
only (s ∷ ss) c = cond (int_eq s.cell.x c.x && int_eq s.cell.y c.y) s.height (only ss c)

abbrev pub around : ℕ → List Spot → Cell → List ℕ
around r ss c = map (only ss) (square r c)

abbrev pub smoothed : List ℕ → ℕ
smoothed = smoothing.value

-- two settlements, and a third
abbrev six_apart : List Spot
six_apart = spot (pos 0) (pos 0) 1 ∷ spot (pos 6) (pos 0) 1 ∷ []

pub record Examples : Type 0 where
  -- the first outputs of the generator with seed 0
  pub output_0 : output 0 0 ≡ 0xE220A8397B1DCDAF
  pub output_1 : output 0 1 ≡ 0x6E789E6AA1B965F4
  pub output_2 : output 0 2 ≡ 0x06C45D188009454F
  pub output_3 : output 0 3 ≡ 0xF88BB8A8724C81EC
  -- smoothing: nine 7s; a 16 among zeros at the centre, at a side and at a corner; a 3 at the centre
  pub sevens : smoothed (replicate 9 7) ≡ 7
  pub centre : smoothed (around 1 (spot (pos 0) (pos 0) 16 ∷ []) (at (pos 0) (pos 0))) ≡ 4
  pub side : smoothed (around 1 (spot (pos 0) (pos 0) 16 ∷ []) (at (pos 1) (pos 0))) ≡ 2
  pub corner : smoothed (around 1 (spot (pos 0) (pos 0) 16 ∷ []) (at (pos 1) (pos 1))) ≡ 1
  pub three : smoothed (around 1 (spot (pos 0) (pos 0) 3 ∷ []) (at (pos 0) (pos 0))) ≡ 0
  -- settlement: a 5 with a 5 just west of it, just east of it, and equal heights everywhere
  pub west : settled (around 2 (spot (pos 0) (pos 0) 5 ∷ spot (negsuc 0) (pos 0) 5 ∷ []) (at (pos 0) (pos 0))) ≡ 0
  pub east : settled (around 2 (spot (pos 0) (pos 0) 5 ∷ spot (pos 1) (pos 0) 5 ∷ []) (at (pos 0) (pos 0))) ≡ 1
  pub level : (h : ℕ) → settled (replicate 25 h) ≡ 0
  -- roads: along the row first and then along the column; 6 apart but not 7; a third settlement nearer to both, and not
  pub bend : roaded (around 11 (spot (pos 0) (pos 0) 1 ∷ spot (pos 4) (pos 2) 1 ∷ []) (at (pos 4) (pos 1))) ≡ 1
  pub off : roaded (around 11 (spot (pos 0) (pos 0) 1 ∷ spot (pos 4) (pos 2) 1 ∷ []) (at (pos 0) (pos 1))) ≡ 0
  pub six : roaded (around 11 six_apart (at (pos 3) (pos 0))) ≡ 1
  pub seven : roaded (around 11 (spot (pos 0) (pos 0) 1 ∷ spot (pos 7) (pos 0) 1 ∷ []) (at (pos 3) (pos 0))) ≡ 0
  pub third : roaded (around 11 (spot (pos 3) (negsuc 4) 1 ∷ six_apart) (at (pos 3) (pos 0))) ≡ 0
  pub far : roaded (around 11 (spot (pos 3) (negsuc 5) 1 ∷ six_apart) (at (pos 3) (pos 0))) ≡ 1
