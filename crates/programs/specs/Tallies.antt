-- What numbers add up to. Assumes nothing.
--     and_one t n     the tally t with the number n more; both of its numbers wrap at 2^64
--     shown t         the text of a tally
use Rattle.std.specs.Prelude.{ℕ, ◌+◌, ◌*◌, ◌%◌, ◌^◌, List, ◌++◌, codes}
use Rattle.std.specs.Fmt.{decimal}
use Rattle.programs.specs.declared.tally.Tally.{Tally}

abbrev pub and_one : Tally → ℕ → Tally
and_one t n = record { cells = (t.cells + 1) % 2 ^ 64; checksum = (31 * t.checksum + n) % 2 ^ 64 }

abbrev pub shown : Tally → List ℕ
shown t = codes "cells " ++ decimal t.cells ++ codes "\nchecksum " ++ decimal t.checksum
