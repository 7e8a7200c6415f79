-- Room in the vector of a journal. Assumes nothing.
--     HasRoom v       all that one call can tell has room
--     UsesRoom v w    from v to w one call told its events, into the room that there was
use Rattle.std.specs.Prelude.{◌≡◌, ◌+◌, ◌≤◌, Vec, vec_len, vec_capacity}
use Rattle.worlds.specs.declared.event.Event.{Event}
use Rattle.tracks.specs.declared.replay.TheConstants.{MOST_EVENTS}

module _ {Z : Type 0} where
  abbrev pub HasRoom : Vec Event Z → Type 0
  HasRoom v = vec_len v + MOST_EVENTS ≤ vec_capacity v

  pub record UsesRoom (v w : Vec Event Z) : Type 0 where
    pub few : vec_len w ≤ vec_len v + MOST_EVENTS
    pub capacity : vec_capacity w ≡ vec_capacity v
