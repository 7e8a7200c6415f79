-- Constant grounds. Assumes nothing.
--     level_of s            the constant of a ground
--     constant h            what it means: the height h inside the rim, where h is a height, and blanks elsewhere
use Rattle.std.specs.Prelude.{ℕ, cond, ◌&&◌, Ok, Err, nat_lt}
use Rattle.grid.specs.Meanings.{Meaning, own_blank}
use Rattle.grid.specs.Places.{inside}
use Rattle.grounds.specs.declared.constant.Constant.{Constant}

abbrev pub level_of : Constant → ℕ
level_of s = s.height

abbrev pub constant : ℕ → Meaning
constant h c = cond (inside c && nat_lt h 65535) (Ok h) (Err (own_blank c))
