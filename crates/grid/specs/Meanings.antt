-- What fields mean. Assumes nothing.
--     Answer, Meaning     a height or a blank, and a function from cells to these
--     Height h            h is a height: at most 65,534
--     own_blank c         the blank of a cell that has no height by itself
--     risen b             the same blank one rule layer further up, where the rise stops at 255
--     Lawful m            what every field owes
use Rattle.std.specs.Prelude.{◌≡◌, ℕ, ◌+◌, ◌≤◌, min, false, Ok, Err, Result}
use Rattle.grid.specs.declared.blank.Blank.{Blank}
use Rattle.grid.specs.declared.cell.Cell.{Cell}
use Rattle.grid.specs.Places.{inside}

abbrev pub Answer : Type 0
Answer = Result ℕ Blank

abbrev pub Meaning : Type 0
Meaning = Cell → Answer

abbrev pub Height : ℕ → Type 0
Height h = h ≤ 65534

abbrev pub own_blank : Cell → Blank
own_blank c = record { place = c; rise = 0 }

abbrev pub risen : Blank → Blank
risen b = record { place = b.place; rise = min (b.rise + 1) 255 }

pub record Lawful (m : Meaning) : Type 0 where
  pub beyond : (c : Cell) → inside c ≡ false → m c ≡ Err (own_blank c)
  pub heights : (c : Cell) (h : ℕ) → m c ≡ Ok h → Height h
