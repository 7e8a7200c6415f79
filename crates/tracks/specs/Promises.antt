-- The promise of locality, and what a run keeps. Assumes nothing.
--     Told j c a          the journal tells that the cell c answered a
--     NearOnly m n j l    of two worlds that mean m and n and told j and l: only ground within the margin of a cell matters to what was told of it
--     Between e           e can stand between a begin and its finish
--     Fair j              every finished drawing counted each chunk that it touched and that its world lacked at its begin, and holds all it touched
--     Holds m t k         the slot of k has its address and the 64 numbers for what m gives
--     stage_of p, table_in p      the stage of a world, by itself or in a drawing, and its table
--     Stands m p j        the world means m and fits the journal j
--     Sound m p j         and the fills in the journal are fair
--     Turns m p c i q j   of a sound world: the call c leads from the phase p with the journal i to q with j
--     Draws m n before during d i q j     the same of a row with n places, where the drawing d began after the journal `before`: it stays open
--     Faithful m cs p j   on a world just opened that means m, the calls cs told j and led to p
--     Replayed t run      what a run of the track t gives
use Rattle.std.specs.Prelude.{◌≡◌, ℕ, ◌*◌, ◌≤◌, true, ◌⊎◌, ◌↔◌, List, ◌∷◌, ◌++◌, length, take, vec_items, vec_capacity}
use Rattle.std.specs.List.{AllByRecursion}
use Rattle.grid.specs.declared.cell.Cell.{Cell}
use Rattle.grid.specs.declared.chunk.Chunk.{Chunk}
use Rattle.grid.specs.declared.field.Field.{Ghosts}
use Rattle.grid.specs.declared.window.Window.{Window}
use Rattle.grid.specs.Counts.{Among, Counts}
use Rattle.grid.specs.Meanings.{Answer, Meaning}
use Rattle.grid.specs.Piles.{Agree, Stencil, carry, margin}
use Rattle.grid.specs.Places.{chunk_of}
use Rattle.tables.specs.declared.table.Table.{Table}
use Rattle.tables.specs.Tables.{holds, mark, stored}
use Rattle.worlds.specs.declared.drawing.Drawing.{Drawing}
use Rattle.worlds.specs.declared.event.Event.{Event}
use Rattle.worlds.specs.declared.event.Event.TheVariants.{Asked, Begun, Cleared, Finished, Passed, Refused, Wrote}
use Rattle.worlds.specs.Drawings.{Underway, next_of, window_of, world_of}
use Rattle.worlds.specs.Journals.{Held, Journal, Missing, Touched}
use Rattle.worlds.specs.Worlds.{Fits, table_of}
use Rattle.tracks.specs.declared.call.Call.{Call}
use Rattle.tracks.specs.declared.call.Call.TheVariants.{Row}
use Rattle.tracks.specs.declared.replay.Track.{Track}
use Rattle.tracks.specs.declared.run.Phase.{Phase}
use Rattle.tracks.specs.declared.run.Phase.TheVariants.{Alone, Open}
use Rattle.tracks.specs.declared.run.Run.{Run}
use Rattle.tracks.specs.Runs.{Does, Runs, Stage, alone, drawing}

abbrev pub Told : Journal → Cell → Answer → Type 0
Told j c a = Among j (Asked c a)

-- each answer that either world gave at a cell is the formula's, over the one ground and over the other, where these agree within the margin
abbrev pub NearOnly : Meaning → Meaning → Journal → Journal → Type 0
NearOnly m n j l =
    (rs : List Stencil) (g h : Meaning) → m ≡ carry rs g → n ≡ carry rs h →
    (c : Cell) → Agree (margin rs) g h c →
    (a : Answer) → Told j c a ⊎ Told l c a → (a ≡ carry rs g c) × (a ≡ carry rs h c)

abbrev pub Between : Event → Type 0
Between (Asked c a) = Unit {0}
Between Cleared = ⊥
Between (Begun v) = ⊥
Between Wrote = Unit {0}
Between (Refused r) = Unit {0}
Between (Finished n) = ⊥
Between Passed = Unit {0}

abbrev pub Fair : Journal → Type 0
Fair j =
    (before during after : Journal) (v : Window) (n : ℕ) →
    j ≡ before ++ Begun v ∷ (during ++ Finished n ∷ after) → AllByRecursion Between during →
    Counts n (Missing (Held before) during) × ((k : Chunk) → Touched during k → Held (before ++ Begun v ∷ during) k)

abbrev pub Holds : Meaning → Table → Chunk → Type 0
Holds m t k = (holds t k ≡ true) × ((c : Cell) → chunk_of c ≡ k → stored t c ≡ mark (m c))

module _ {F : Type 0} {g : Ghosts F} where
  abbrev pub stage_of : Phase F g → Stage
  stage_of (Alone w) = alone
  stage_of (Open d) = drawing (window_of d) (next_of d)

  abbrev pub table_in : Phase F g → Table
  table_in (Alone w) = table_of w
  table_in (Open d) = table_of (world_of d)

module _ {F : Type 0} {g : Ghosts F} where
  abbrev pub Stands : Meaning → Phase F g → Journal → Type 0
  Stands m (Alone w) j = Fits m w j
  Stands m (Open d) j = (before : Journal) × (during : Journal) × (j ≡ before ++ Begun (window_of d) ∷ during) × Underway m d before during

  abbrev pub Sound : Meaning → Phase F g → Journal → Type 0
  Sound m p j = Stands m p j × Fair j

  abbrev pub Turns : Meaning → Phase F g → Call → Journal → Phase F g → Journal → Type 0
  Turns m p c i q j = Sound m p i → (es : Journal) × (j ≡ i ++ es) × Does m (stage_of p) c es (stage_of q) × Sound m q j

  abbrev pub Draws : Meaning → ℕ → Journal → Journal → Drawing F g → Journal → Phase F g → Journal → Type 0
  Draws m n before during d i (Alone w) j = ⊥
  Draws m n before during d i (Open e) j =
      Underway m d before during →
      (es : Journal) × (j ≡ i ++ es) × Does m (stage_of (Open d)) (Row n) es (stage_of (Open e)) × Underway m e before (during ++ es) × (window_of e ≡ window_of d)

  pub record Faithful (m : Meaning) (cs : List Call) (p : Phase F g) (j : Journal) : Type 0 where
    pub answers : Runs m alone cs j (stage_of p)
    pub fills : Fair j
    pub held : (k : Chunk) → Holds m (table_in p) k ↔ Held j k
    pub stands : Stands m p j

  pub record Replayed (t : Track F) (run : Run F g) : Type 0 where
    pub faithful : Faithful (g.meaning t.field) (take run.done t.calls.now) run.phase (vec_items run.journal)
    pub done : run.done ≤ length t.calls.now
    -- no call tells more events than that
    pub whole : 58 * length t.calls.now ≤ vec_capacity t.room → run.done ≡ length t.calls.now
