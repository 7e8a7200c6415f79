-- What is read of standard input. Assumes nothing.
--     StopsAtLineFeed bs n        the first n bytes, at most 80, have no line feed but the last
--     Complete bs n left          a line feed ends them, or they are 80, or nothing is left of the input
use Rattle.std.specs.Prelude.{◌≡◌, ℕ, ◌+◌, ◌<◌, ◌≤◌, ◌⊎◌, List, Option, ◌≢◌, slice_index}
use Rattle.std.specs.Io.KnownBytes.{IsAtEnd}

pub record StopsAtLineFeed (bs : List ℕ) (n : ℕ) : Type 0 where
  pub few : n ≤ 80
  pub stops : (k : ℕ) → k + 1 < n → slice_index bs k ≢ 10

abbrev pub Complete : List ℕ → ℕ → Option (List ℕ) → Type 0
Complete bs n left = ((k : ℕ) × (k + 1 ≡ n) × (slice_index bs k ≡ 10)) ⊎ ((n ≡ 80) ⊎ IsAtEnd left)
