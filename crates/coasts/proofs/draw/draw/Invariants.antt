use Rattle.std.proofs.Common.{◌≡◌, length, string_bytes}
use Rattle.grid.specs.Meanings.{Meaning}
use Rattle.grid.specs.Windows.{width_of}
use Rattle.grid.specs.declared.window.Window.{Window}
use Rattle.coasts.proofs.Drawings.{Reached}
use Rattle.coasts.proofs.draw.draw.Given as goal

-- the drawing that was begun has reached as many rows as the loop made turns
abbrev pub invariant-loop : goal.invariant-loop
invariant-loop g l = record {
  room : length l.heights ≡ width_of l.fn.window;
  reached : (m : Meaning) (v : Window) → Reached m v 0 l.initial.drawing (string_bytes l.initial.text) → Reached m v l.counter l.drawing (string_bytes l.text);
}
