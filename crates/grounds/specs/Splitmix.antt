-- splitmix64 over the natural numbers. Assumes nothing.
--     folded z n            z xor z shifted right by n bits
--     multiplied z n m      that times m, modulo 2^64
--     output seed k         output number k, counted from 0
use Rattle.std.specs.Prelude.{ℕ, ◌+◌, ◌*◌, ◌/◌, ◌%◌, ◌^◌, bit_xor}

abbrev pub folded : ℕ → ℕ → ℕ
folded z n = bit_xor z (z / 2 ^ n)

abbrev pub multiplied : ℕ → ℕ → ℕ → ℕ
multiplied z n m = (folded z n * m) % 2 ^ 64

abbrev pub output : ℕ → ℕ → ℕ
output seed k =
    let z = (seed + (k + 1) * 0x9E3779B97F4A7C15) % 2 ^ 64 in
    folded (multiplied (multiplied z 30 0xBF58476D1CE4E5B9) 27 0x94D049BB133111EB) 31
