-- The places of a square. Assumes nothing.
--     places n            the places of a square of n cells, in reading order from 0
use Rattle.std.specs.Prelude.{ℕ, List}
use Rattle.std.specs.List.{range_with_len}

unfoldable pub places : ℕ → List ℕ
places n = range_with_len 0 n
