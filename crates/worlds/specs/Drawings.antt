-- Drawings. Assumes nothing.
--     world_of d, window_of d, next_of d, fills_of d     the parts of a drawing: its next row, counted from 0, and its fills so far
--     Underway m d before during     the drawing's world means m and fits the journal before it; since then came the events of `during`
--     GoesOn d j e        how a drawing goes on from d to e by the events j
use Rattle.std.specs.Prelude.{◌≡◌, ℕ, ◌+◌, ◌≤◌, true}
use Rattle.grid.specs.declared.field.Field.{Ghosts}
use Rattle.grid.specs.declared.window.Window.{Window}
use Rattle.grid.specs.Meanings.{Meaning}
use Rattle.worlds.specs.declared.drawing.Drawing.{Drawing}
use Rattle.worlds.specs.declared.world.World.{World}
use Rattle.worlds.specs.Journals.{Held, Journal, Stretch}
use Rattle.worlds.specs.Worlds.{held_by, world_meaning}

module _ {F : Type 0} {g : Ghosts F} where
  abbrev pub world_of : Drawing F g → World F g
  world_of d = d.world

  abbrev pub window_of : Drawing F g → Window
  window_of d = d.window

  abbrev pub next_of : Drawing F g → ℕ
  next_of d = d.next

  abbrev pub fills_of : Drawing F g → ℕ
  fills_of d = d.fills

-- the greatest count of fills that has room in a drawing; none comes near it
abbrev pub most : ℕ
most = 4294967295

module _ {F : Type 0} {g : Ghosts F} where
  pub record Underway (m : Meaning) (d : Drawing F g) (before during : Journal) : Type 0 where
    pub means : world_meaning (world_of d) ≡ m
    pub table : Stretch (window_of d) (Held before) during (held_by (world_of d)) (fills_of d)

  pub record GoesOn (d : Drawing F g) (j : Journal) (e : Drawing F g) : Type 0 where
    pub window : window_of e ≡ window_of d
    pub same : world_meaning (world_of e) ≡ world_meaning (world_of d)
    pub new : ℕ
    pub table : Stretch (window_of d) (λ k. held_by (world_of d) k ≡ true) j (held_by (world_of e)) new
    pub fills : fills_of d + new ≤ most → fills_of e ≡ fills_of d + new
