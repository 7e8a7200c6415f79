-- A drawing as it goes on. Assumes nothing.
use Rattle.std.proofs.Common.{◌≡◌, ℕ, ◌+◌, min, Bool, true, not, ◌&&◌, [], ◌∷◌, ◌++◌, ◌∙◌, rules, arith}
use mir.Val.{bool_byte}
use Rattle.grid.specs.declared.cell.Cell.{Cell}
use Rattle.grid.specs.declared.chunk.Chunk.{Chunk}
use Rattle.grid.specs.declared.field.Field.{Ghosts}
use Rattle.grid.specs.declared.window.Window.{Window}
use Rattle.grid.specs.Meanings.{Answer, Meaning}
use Rattle.grid.specs.Places.{chunk_of, inside}
use Rattle.tables.specs.Tables.{touch}
use Rattle.worlds.specs.declared.drawing.Drawing.{Drawing}
use Rattle.worlds.specs.declared.event.Event.TheVariants.{Asked, Begun, Finished}
use Rattle.worlds.specs.Drawings.{GoesOn, Underway, fills_of, most, window_of, world_of}
use Rattle.worlds.specs.Journals.{Held, Journal, OfWindow, Spares}
use Rattle.worlds.specs.Worlds.{Fits, held_by, world_meaning}
use Rattle.worlds.proofs.Histories.{all_both, held_both, held_idle, held_more}
use Rattle.worlds.proofs.Stretches.{stretch_asked, stretch_few, stretch_more}

module _ {F : Type 0} {g : Ghosts F} where
  pub goes_more : (c d e : Drawing F g) (i j : Journal) → GoesOn c i d → GoesOn d j e → GoesOn c (i ++ j) e
  goes_more c d e i j f h = record {
    window = h.window ∙ f.window;
    same = h.same ∙ f.same;
    new = f.new + h.new;
    table = stretch_more (window_of c) (λ k. held_by (world_of c) k ≡ true) i j _ _ f.new h.new f.table (rw f.window at h.table);
    fills = λ room.
        let d-is : fills_of d ≡ fills_of c + f.new = f.fills (omega arith) in
        let e-is : fills_of e ≡ fills_of d + h.new = h.fills (omega arith) in
        omega arith;
  }

  -- the law of the history
  pub underway_more : (m : Meaning) (d e : Drawing F g) (before during j : Journal) →
      GoesOn d j e → Underway m d before during → Underway m e before (during ++ j)
  underway_more m d e before during j f u =
      let whole = stretch_more (window_of d) (Held before) during j _ _ (fills_of d) f.new u.table f.table in
      let few = stretch_few (window_of d) (Held before) (during ++ j) _ (fills_of d + f.new) whole in
      let exact : fills_of e ≡ fills_of d + f.new = f.fills (omega arith) in
      record { means = f.same ∙ u.means; table = rw (f.window, exact) whole }

  -- one asked cell, of which `filled` says whether it took a fill
  pub goes_asked : (c : Cell) (a : Answer) (d e : Drawing F g) (filled : Bool) (n : ℕ) → window_of e ≡ window_of d → OfWindow (window_of d) c →
      world_meaning (world_of e) ≡ world_meaning (world_of d) → ((k : Chunk) → held_by (world_of e) k ≡ touch c (held_by (world_of d)) k) →
      filled ≡ (inside c && not (held_by (world_of d) (chunk_of c))) → n ≡ bool_byte filled → fills_of e ≡ min (fills_of d + n) most →
      GoesOn d (Asked c a ∷ []) e
  goes_asked c a d e filled n window here same held is counts fills = record {
    window = window;
    same = same;
    new = bool_byte filled;
    table = stretch_asked (window_of d) c a (held_by (world_of d)) (held_by (world_of e)) filled here held is;
    fills = λ room. omega arith;
  }

  -- the world of a drawing fits the journal with that drawing in it
  pub fits_finished : (m : Meaning) (d : Drawing F g) (before during : Journal) (v : Window) (n : ℕ) → Underway m d before during →
      Fits m (world_of d) (before ++ Begun v ∷ (during ++ Finished n ∷ []))
  fits_finished m d before during v n u =
      let told = during ++ Finished n ∷ [] in
      record {
        means = u.means;
        held = λ k. search (rules, u.table.held k, held_idle k before told (Begun v), held_both k before told, held_more k during (Finished n), all_both (Spares k) during (Finished n ∷ []));
      }
