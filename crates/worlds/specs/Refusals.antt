-- The numbers of this crate's refusals, and what they carry. Assumes nothing.
--     fault_refusal       the number of every refusal of a blank cell
--     row_refusal e       why a row is not written
--     looked c a          what a look at c gives where the field answers a
use Rattle.std.specs.Prelude.{ℕ, Ok, Err, Result}
use Rattle.grid.specs.declared.cell.Cell.{Cell}
use Rattle.grid.specs.Meanings.{Answer}
use Rattle.worlds.specs.declared.refusal.BlankFault.{BlankFault}
use Rattle.worlds.specs.declared.refusal.RowRefusal.{RowRefusal}
use Rattle.worlds.specs.declared.refusal.RowRefusal.TheVariants.{Full, Short, Blank}

abbrev pub fault_refusal : ℕ
fault_refusal = 6

abbrev pub row_refusal : RowRefusal → ℕ
row_refusal Full = 4
row_refusal Short = 5
row_refusal (Blank f) = fault_refusal

abbrev pub looked : Cell → Answer → Result ℕ BlankFault
looked c (Ok h) = Ok h
looked c (Err b) = Err (record { cell = c; blank = b })
