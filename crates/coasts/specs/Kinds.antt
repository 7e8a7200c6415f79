-- The kinds of coast. Assumes nothing.
--     rules_of k          the rules of a kind, the topmost first
--     formula ss s        rules carried up from the noise of seed s
--     Margins             how far each kind looks
--     under l             the field below a layer that stands on a cache
--     Unfilled l          the table of that cache holds no chunk
use Rattle.std.specs.Prelude.{◌≡◌, ℕ, false, List, [], ◌∷◌}
use Rattle.grid.specs.declared.chunk.Chunk.{Chunk}
use Rattle.grid.specs.declared.field.Field.{Ghosts}
use Rattle.grid.specs.Meanings.{Meaning}
use Rattle.grid.specs.Piles.{Stencil, carry, margin}
use Rattle.grounds.specs.Noises.{noise}
use Rattle.request.specs.declared.Kind.{Kind}
use Rattle.request.specs.declared.Kind.TheVariants.{Raw, Heights, Sites, Roads}
use Rattle.rules.specs.Roads.{road}
use Rattle.rules.specs.Settlements.{settlement}
use Rattle.layers.specs.Rules.{smoothing}
use Rattle.layers.specs.declared.layer.Layer.{Layer}
use Rattle.tables.specs.Caches.{below_of, table_of}
use Rattle.tables.specs.Tables.{holds}
use Rattle.tables.specs.declared.cache.Cache.{Cache}

abbrev pub rules_of : Kind → List Stencil
rules_of Raw = []
rules_of Heights = smoothing ∷ smoothing ∷ []
rules_of Sites = settlement ∷ smoothing ∷ smoothing ∷ []
rules_of Roads = road ∷ settlement ∷ smoothing ∷ smoothing ∷ []

abbrev pub formula : List Stencil → ℕ → Meaning
formula ss s = carry ss (noise s)

pub record Margins : Type 0 where
  pub raw : margin (rules_of Raw) ≡ 0
  pub heights : margin (rules_of Heights) ≡ 2
  pub sites : margin (rules_of Sites) ≡ 4
  pub roads : margin (rules_of Roads) ≡ 15

module _ {F R : Type 0} {g : Ghosts F} where
  abbrev pub under : Layer (Cache F g) R → F
  under l = below_of l.below

  abbrev pub Unfilled : Layer (Cache F g) R → Type 0
  Unfilled l = (k : Chunk) → holds (table_of l.below) k ≡ false
