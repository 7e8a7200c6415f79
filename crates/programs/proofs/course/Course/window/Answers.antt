-- A window of any size that a window may have is made where both coordinates of its corner are this near to 0.
use Rattle.std.proofs.Common.{rules, ℕ, ◌^◌, ◌<◌, ◌≤◌, ℤ, pos, ◌+ℤ◌, nat_abs, Result, Ok, Err, arith}
use Rattle.std.proofs.lemmas.Bool.Decides.{nat_tests}
use Rattle.std.proofs.lemmas.Int.{ints}
use Rattle.std.specs.Result.{IsOk}
use Rattle.grid.specs.declared.cell.Cell.{Cell}
use Rattle.grid.specs.declared.window.Window.{Window}
use Rattle.grid.specs.declared.window.refusal.WindowRefusal.{WindowRefusal}
use Rattle.grid.specs.declared.window.refusal.WindowRefusal.TheVariants.{Rim, Size}
use Rattle.grid.specs.Places.{Side, rim}
use Rattle.grid.specs.Windows.{Makes}
use Rattle.programs.proofs.course.Course.window.Goals as goal

beside : (z : ℤ) (i n : ℕ) → i < n → Side n → nat_abs z ≤ 2 ^ 24 → nat_abs (z +ℤ pos i) ≤ rim
beside z i n below side near = omega (arith, ints)

made : (c : Cell) (w h : ℕ) (r : Result Window WindowRefusal) → Side w → Side h → nat_abs c.x ≤ 2 ^ 24 → nat_abs c.y ≤ 2 ^ 24 → Makes c w h r → IsOk r
made c w h (Ok v) wide high x y makes = search
made c w h (Err Size) wide high x y makes = absurd (makes (wide, high))
made c w h (Err Rim) wide high x y makes =
    absurd (makes.2 (λ i j p q. grind (arith, nat_tests, beside c.x i w p wide x, beside c.y j h q high y)))

pub unwrap-requires : goal.unwrap-requires
unwrap-requires c = search (rules, made)
