-- The numbers of this crate's refusals. Assumes nothing.
--     window_refusal e     why a window is not made
use Rattle.std.specs.Prelude.{ℕ}
use Rattle.grid.specs.declared.window.refusal.WindowRefusal.{WindowRefusal}
use Rattle.grid.specs.declared.window.refusal.WindowRefusal.TheVariants.{Size, Rim}

abbrev pub window_refusal : WindowRefusal → ℕ
window_refusal Size = 2
window_refusal Rim = 3
