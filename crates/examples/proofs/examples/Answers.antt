use mathlib.Core.Path.{refl}
use mathlib.Core.Logic.{⊎_elim}
use native.Mathlib.Omega.{arith}
use lib.ListN.{replicate}
use Rattle.grid.specs.Piles.{nth_cell, square}
use Rattle.rules.specs.Places.{places}
use Rattle.rules.proofs.Settling.{settlements}
use Rattle.examples.proofs.examples.Goals as goal

pub returns : goal.returns
unfolding square nth_cell places
returns c = record {
  output_0 = refl;
  output_1 = refl;
  output_2 = refl;
  output_3 = refl;
  sevens = refl;
  centre = refl;
  side = refl;
  corner = refl;
  three = refl;
  west = refl;
  east = refl;
  level = λ h. (settlements (replicate 25 h)).1.1 (λ s. ⊎_elim (λ l. omega (arith, l)) (λ p. omega (arith, p.1)) (s 0 (omega arith) (omega arith)));
  bend = refl;
  off = refl;
  six = refl;
  seven = refl;
  third = refl;
  far = refl;
}
