-- The texts of numbers are printable: what the laws of the fields cite. No contract rests on this file. Assumes nothing.
use Rattle.std.specs.Prelude.{ℕ, ◌^◌, ◌<◌, ◌≤◌, suc, ℤ, pos, negsuc, decimal, slice_index}
use Rattle.std.proofs.Common.{arith}
use Rattle.std.specs.Int.{IsInRange}
use Rattle.std.specs.Fmt.{signed_decimal}
use Rattle.std.proofs.lemmas.Fmt.{decimal_is_IsNumeral}
use Rattle.std.proofs.lemmas.Int.{ints}
use Rattle.std.proofs.lemmas.Str.Parse.{digit_at}
use Rattle.std.proofs.ByRecursion.{All-from_get_or}
use Rattle.request.specs.Fields.{Printable}
use Rattle.request.specs.Requests.{Int32}

pub printable_decimal : (n : ℕ) → n < 2 ^ 64 → Printable (decimal n)
printable_decimal n h =
    All-from_get_or (λ b. 33 ≤ b) (decimal n) 0 (λ i l. let d : IsInRange 48 57 (slice_index (decimal n) i) = digit_at (decimal n) i (decimal_is_IsNumeral n h).0.1 l in omega (arith, d))

pub printable_signed : (z : ℤ) → Int32 z → Printable (signed_decimal z)
printable_signed (pos n) h = printable_decimal n (omega (arith, ints, h.1))
printable_signed (negsuc n) h = (omega arith, printable_decimal (suc n) (omega (arith, ints, h.0)))
