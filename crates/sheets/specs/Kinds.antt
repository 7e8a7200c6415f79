-- The kinds of coast that `sheet` draws. Assumes nothing.
--     rules_of k          the rules of a kind, the topmost first, where it is built
use Rattle.std.specs.Prelude.{List, [], ◌∷◌, Some, None, Option}
use Rattle.grid.specs.Piles.{Stencil}
use Rattle.layers.specs.Rules.{smoothing}
use Rattle.request.specs.declared.Kind.{Kind}
use Rattle.request.specs.declared.Kind.TheVariants.{Raw, Heights, Sites, Roads}

abbrev pub rules_of : Kind → Option (List Stencil)
rules_of Raw = Some []
rules_of Heights = Some (smoothing ∷ smoothing ∷ [])
rules_of Sites = None
rules_of Roads = None
