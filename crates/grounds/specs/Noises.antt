-- The noise of a seed. Assumes nothing.
--     seed_of n             the seed of a noise
--     residue z             z modulo 2^32
--     cell_number c         the number of a cell: y modulo 2^32 times 2^32, and x modulo 2^32
--     noise_height s c      the output with the cell's number, divided by 2^52 and rounded down
--     noise s               what a noise with seed s means: these heights inside the rim, and blanks beyond
use Rattle.std.specs.Prelude.{ℕ, ◌+◌, ◌-◌, ◌*◌, ◌/◌, ◌%◌, ◌^◌, cond, ℤ, pos, negsuc, Ok, Err}
use Rattle.grid.specs.declared.cell.Cell.{Cell}
use Rattle.grid.specs.Meanings.{Meaning, own_blank}
use Rattle.grid.specs.Places.{inside}
use Rattle.grounds.specs.declared.noise.Noise.{Noise}
use Rattle.grounds.specs.Splitmix.{output}

abbrev pub seed_of : Noise → ℕ
seed_of n = n.seed

abbrev pub residue : ℤ → ℕ
residue (pos n) = n % 2 ^ 32
residue (negsuc n) = 2 ^ 32 - 1 - n % 2 ^ 32

abbrev pub cell_number : Cell → ℕ
cell_number c = residue c.y * 2 ^ 32 + residue c.x

abbrev pub noise_height : ℕ → Cell → ℕ
noise_height seed c = output seed (cell_number c) / 2 ^ 52

abbrev pub noise : ℕ → Meaning
noise seed c = cond (inside c) (Ok (noise_height seed c)) (Err (own_blank c))
