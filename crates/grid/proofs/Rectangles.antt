-- A rectangle lies inside the rim where its first and its last cell do; the cells of a window. Assumes nothing.
use Rattle.std.proofs.Common.{◌≡◌, ℕ, ◌-◌, ◌<◌, ◌≤◌, true, ℤ, pos, ◌+ℤ◌, nat_abs, Some, arith}
use Rattle.std.proofs.lemmas.Int.{ints}
use Rattle.std.proofs.lemmas.Bool.Decides.{nat_tests}
use Rattle.grid.specs.declared.cell.Cell.{Cell}
use Rattle.grid.specs.declared.window.Window.{Window}
use Rattle.grid.specs.Places.{cell_at, inside, rim}
use Rattle.grid.specs.Windows.{InsideRim, cell_if_any, cell_of, height_of, width_of}

pub inside_parts : (c : Cell) → inside c ≡ true → (nat_abs c.x ≤ rim) × (nat_abs c.y ≤ rim)
inside_parts c h = (grind (arith, nat_tests), grind (arith, nat_tests))

pub inside_from : (c : Cell) → nat_abs c.x ≤ rim → nat_abs c.y ≤ rim → inside c ≡ true
inside_from c p q = grind (arith, nat_tests)

-- what lies between two numbers within the rim does too
between : (z : ℤ) (i n : ℕ) → i < n → nat_abs z ≤ rim → nat_abs (z +ℤ pos (n - 1)) ≤ rim → nat_abs (z +ℤ pos i) ≤ rim
between z i n h a b = omega (arith, ints)

pub all_inside : (c : Cell) (w h : ℕ) → 1 ≤ w → 1 ≤ h → inside c ≡ true → inside (cell_at c (w - 1) (h - 1)) ≡ true → InsideRim c w h
all_inside c w h wide high first last i j p q = grind (arith, nat_tests, between c.x i w p, between c.y j h q)

module _ (c : Cell) (w h : ℕ) (wide : 1 ≤ w) (high : 1 ≤ h) where
  pub last_inside : InsideRim c w h → inside (cell_at c (w - 1) (h - 1)) ≡ true
  last_inside all = all (w - 1) (h - 1) (omega arith) (omega arith)

  pub first_inside : InsideRim c w h → inside c ≡ true
  first_inside all =
      let (x, y) = inside_parts (cell_at c 0 0) (all 0 0 (omega arith) (omega arith)) in
      inside_from c (omega (arith, ints)) (omega (arith, ints))

-- ---- the cell in a column and a row

pub has_cell : (v : Window) (i j : ℕ) → i < width_of v → j < height_of v → cell_if_any v i j ≡ Some (cell_of v i j)
has_cell v i j h k = grind (arith, nat_tests)

pub the_cell : (v : Window) (i j : ℕ) (at : Cell) → i < width_of v → j < height_of v → Some at ≡ cell_if_any v i j → at ≡ cell_of v i j
the_cell v i j at h k e = cc (has_cell v i j h k)
