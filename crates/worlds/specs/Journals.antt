-- Journals: what follows from the events of a world, in the order in which they happened. Assumes nothing.
--     Touches k e         e asks a cell inside the rim that lies in the chunk k
--     Spares k e          e does not empty the table, and asks no cell inside the rim of another chunk with the slot of k
--     Touched j k         some event of the journal touches k
--     Held j k            some event touches k, and every later one spares it
--     HeldSince H j k     the same, where the chunks of H were held before the journal
--     Missing H j k       k is touched, and not one of H
--     OfWindow v c        c is a cell of the window
--     InDrawing v e       e can stand in a drawing of the window: it asks one of its cells, or nothing
--     Stretch v H j I n   a stretch j of a drawing of the window: where the chunks of H were held, it took n fills and leaves those of I
use Rattle.std.specs.Prelude.{◌≡◌, ℕ, ◌<◌, Bool, true, ◌⊎◌, ◌↔◌, List, [], ◌∷◌}
use Rattle.std.specs.List.{AllByRecursion}
use Rattle.grid.specs.declared.cell.Cell.{Cell}
use Rattle.grid.specs.declared.chunk.Chunk.{Chunk}
use Rattle.grid.specs.declared.window.Window.{Window}
use Rattle.grid.specs.Counts.{Counts}
use Rattle.grid.specs.Places.{chunk_of, inside, slot_of}
use Rattle.grid.specs.Windows.{cell_of, height_of, width_of}
use Rattle.worlds.specs.declared.event.Event.{Event}
use Rattle.worlds.specs.declared.event.Event.TheVariants.{Asked, Cleared, Begun, Wrote, Refused, Finished, Passed}

abbrev pub Journal : Type 0
Journal = List Event

abbrev pub Touches : Chunk → Event → Type 0
Touches k (Asked c a) = (inside c ≡ true) × (chunk_of c ≡ k)
Touches k Cleared = ⊥
Touches k (Begun v) = ⊥
Touches k Wrote = ⊥
Touches k (Refused r) = ⊥
Touches k (Finished n) = ⊥
Touches k Passed = ⊥

abbrev pub Spares : Chunk → Event → Type 0
Spares k (Asked c a) = inside c ≡ true → slot_of (chunk_of c) ≡ slot_of k → chunk_of c ≡ k
Spares k Cleared = ⊥
Spares k (Begun v) = Unit {0}
Spares k Wrote = Unit {0}
Spares k (Refused r) = Unit {0}
Spares k (Finished n) = Unit {0}
Spares k Passed = Unit {0}

abbrev pub Touched : Journal → Chunk → Type 0
Touched [] k = ⊥
Touched (e ∷ later) k = Touches k e ⊎ Touched later k

abbrev pub Held : Journal → Chunk → Type 0
Held [] k = ⊥
Held (e ∷ later) k = (Touches k e × AllByRecursion (Spares k) later) ⊎ Held later k

abbrev pub HeldSince : (Chunk → Type 0) → Journal → Chunk → Type 0
HeldSince H j k = Held j k ⊎ (H k × AllByRecursion (Spares k) j)

abbrev pub Missing : (Chunk → Type 0) → Journal → Chunk → Type 0
Missing H j k = Touched j k × (H k → ⊥)

abbrev pub OfWindow : Window → Cell → Type 0
OfWindow v c = (i : ℕ) × (j : ℕ) × (i < width_of v) × (j < height_of v) × (cell_of v i j ≡ c)

abbrev pub InDrawing : Window → Event → Type 0
InDrawing v (Asked c a) = OfWindow v c
InDrawing v Cleared = ⊥
InDrawing v (Begun w) = ⊥
InDrawing v Wrote = Unit {0}
InDrawing v (Refused r) = Unit {0}
InDrawing v (Finished n) = ⊥
InDrawing v Passed = Unit {0}

-- each chunk that it touched and that was not held before took one fill
pub record Stretch (v : Window) (H : Chunk → Type 0) (j : Journal) (I : Chunk → Bool) (n : ℕ) : Type 0 where
  pub within : AllByRecursion (InDrawing v) j
  pub held : (k : Chunk) → (I k ≡ true) ↔ HeldSince H j k
  pub fills : Counts n (Missing H j)
