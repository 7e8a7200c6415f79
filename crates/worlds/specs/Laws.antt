-- What is held when, said of one more event at a time. Assumes nothing.
--     Holding             the chunks that a world holds, as its journal grows
--     DifferentSlots      no two chunks of one window have the same slot, so no fill of a drawing drives out a chunk of it
use Rattle.std.specs.Prelude.{◌≡◌, ℕ, true, false, ◌↔◌, [], ◌∷◌, ◌++◌, ◌≢◌}
use Rattle.grid.specs.declared.cell.Cell.{Cell}
use Rattle.grid.specs.declared.chunk.Chunk.{Chunk}
use Rattle.grid.specs.declared.window.Window.{Window}
use Rattle.grid.specs.Meanings.{Answer}
use Rattle.grid.specs.Places.{chunk_of, inside, slot_of}
use Rattle.grid.specs.Windows.{Touches as WindowTouches}
use Rattle.worlds.specs.declared.event.Event.{Event}
use Rattle.worlds.specs.declared.event.Event.TheVariants.{Asked, Cleared, Begun, Wrote, Refused, Finished, Passed}
use Rattle.worlds.specs.declared.refusal.RowRefusal.{RowRefusal}
use Rattle.worlds.specs.Journals.{Held, Journal}

-- the event changes nothing of what is held
abbrev pub ChangesNothing : Event → Type 0
ChangesNothing e = (j : Journal) (k : Chunk) → Held (j ++ e ∷ []) k ↔ Held j k

pub record Holding : Type 0 where
  pub opened : (k : Chunk) → Held [] k → ⊥
  pub cleared : (j : Journal) (k : Chunk) → Held (j ++ Cleared ∷ []) k → ⊥
  -- a cell inside the rim: its chunk is held, every other one of that slot is not, and the other slots are as they were
  pub asked : (j : Journal) (c : Cell) (a : Answer) → inside c ≡ true → Held (j ++ Asked c a ∷ []) (chunk_of c)
  pub driven_out : (j : Journal) (c : Cell) (a : Answer) (k : Chunk) → inside c ≡ true → slot_of (chunk_of c) ≡ slot_of k → (chunk_of c ≢ k) → Held (j ++ Asked c a ∷ []) k → ⊥
  pub others : (j : Journal) (c : Cell) (a : Answer) (k : Chunk) → (slot_of (chunk_of c) ≢ slot_of k) → Held (j ++ Asked c a ∷ []) k ↔ Held j k
  pub beyond : (c : Cell) (a : Answer) → inside c ≡ false → ChangesNothing (Asked c a)
  pub begun : (v : Window) → ChangesNothing (Begun v)
  pub wrote : ChangesNothing Wrote
  pub refused : (r : RowRefusal) → ChangesNothing (Refused r)
  pub finished : (n : ℕ) → ChangesNothing (Finished n)
  pub passed : ChangesNothing Passed

abbrev pub DifferentSlots : Type 0
DifferentSlots = (v : Window) (j k : Chunk) → WindowTouches v j → WindowTouches v k → slot_of j ≡ slot_of k → j ≡ k
