-- Worlds that fit their journals. Assumes nothing.
use Rattle.std.proofs.Common.{◌≡◌, Bool, true, false, ◌↔◌, ◌≢◌, [], ◌∷◌, ◌++◌, refl, ap, ◌∙◌, rules, arith}
use Rattle.std.proofs.lemmas.Bool.Decides.{nat_tests}
use Rattle.grid.specs.declared.cell.Cell.{Cell}
use Rattle.grid.specs.declared.chunk.Chunk.{Chunk}
use Rattle.grid.specs.declared.field.Field.{Ghosts}
use Rattle.grid.specs.Meanings.{Answer, Meaning}
use Rattle.grid.specs.Places.{chunk_of, inside, slot_of}
use Rattle.grid.proofs.Chunks.{same_chunk_refl, same_chunk_true}
use Rattle.tables.specs.Caches.{Through}
use Rattle.tables.specs.Tables.{stored, touch}
use Rattle.worlds.specs.declared.event.Event.{Event}
use Rattle.worlds.specs.declared.event.Event.TheVariants.{Asked, Cleared}
use Rattle.worlds.specs.declared.world.World.{World}
use Rattle.worlds.specs.Journals.{HeldSince, Journal, Spares, Touches}
use Rattle.worlds.specs.Worlds.{Fits, below_of, cache_of, held_by, table_of, world_meaning}
use Rattle.worlds.proofs.Histories.{held_both}

-- what is held after one asked cell
pub touch_held : (c : Cell) (a : Answer) (H : Chunk → Bool) (k : Chunk) → (touch c H k ≡ true) ↔ HeldSince (λ j. H j ≡ true) (Asked c a ∷ []) k
touch_held c a H k = grind (arith, nat_tests, same_chunk_true (chunk_of c) k, same_chunk_refl k)

-- to ask the cell again changes nothing more
pub touch_again : (c : Cell) (k : Chunk) (H I : Chunk → Bool) → I k ≡ touch c H k → touch c I k ≡ touch c H k
touch_again c k H I e = grind (arith, nat_tests)

module _ {F : Type 0} {g : Ghosts F} where
  -- to see to it that the cell's chunk is held, and then to ask the cell, leaves what asking it does
  pub through_held : (c : Cell) (w x y : World F g) → ((k : Chunk) → held_by x k ≡ touch c (held_by w) k) →
      ((d : Cell) → (slot_of (chunk_of d) ≢ slot_of (chunk_of c)) → stored (table_of x) d ≡ stored (table_of w) d) →
      (inside c ≡ false → x ≡ w) → (held_by w (chunk_of c) ≡ true → x ≡ w) →
      Through c (cache_of x) (cache_of y) → Through c (cache_of w) (cache_of y)
  through_held c w x y held others beyond stays asked = record {
    held = λ k. asked.held k ∙ touch_again c k (held_by w) (held_by x) (held k);
    others = λ d apart. asked.others d apart ∙ others d apart;
    beyond = λ out. search (rules, asked.beyond out, beyond out);
    kept = λ there. search (rules, asked.kept, stays there);
    hit = λ there height. search (rules, asked.hit, stays there);
  }

  -- the journal goes on by j
  fits_more : (m : Meaning) (w x : World F g) (i j : Journal) → world_meaning x ≡ world_meaning w →
      ((k : Chunk) → (held_by x k ≡ true) ↔ HeldSince (λ q. held_by w q ≡ true) j k) → Fits m w i → Fits m x (i ++ j)
  fits_more m w x i j same held f = record { means = same ∙ f.means; held = λ k. search (rules, held k, held_both k i j, f.held k) }

  pub fits_asked : (m : Meaning) (c : Cell) (a : Answer) (w x : World F g) (j : Journal) →
      world_meaning x ≡ world_meaning w → ((k : Chunk) → held_by x k ≡ touch c (held_by w) k) → Fits m w j → Fits m x (j ++ Asked c a ∷ [])
  fits_asked m c a w x j same held = fits_more m w x j (Asked c a ∷ []) same (λ k. rw (held k) (touch_held c a (held_by w) k))

  pub fits_clear : (m : Meaning) (w x : World F g) (j : Journal) → below_of x ≡ below_of w → ((k : Chunk) → held_by x k ≡ false) →
      Fits m w j → Fits m x (j ++ Cleared ∷ [])
  fits_clear m w x j b empty = fits_more m w x j (Cleared ∷ []) (ap g.meaning b) (λ k. rw (empty k) (search rules))

  -- an event that touches nothing and spares everything
  pub fits_idle : (m : Meaning) (w : World F g) (j : Journal) (e : Event) → ((k : Chunk) → Touches k e → ⊥) → ((k : Chunk) → Spares k e) →
      Fits m w j → Fits m w (j ++ e ∷ [])
  fits_idle m w j e quiet spares = fits_more m w w j (e ∷ []) refl (λ k. search (rules, quiet k, spares k))
