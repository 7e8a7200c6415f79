-- What a rule layer means. Assumes nothing.
--     layer_meaning s m l     the rule's step over what the field below means
--     layer_lawful            so a layer owes what every field owes, where o says of which fields below that is known
use Rattle.grid.specs.Meanings.{Lawful, Meaning}
use Rattle.grid.specs.Piles.{Fit, Stencil, step}
use Rattle.layers.specs.declared.layer.Layer.{Layer}
use Rattle.grid.proofs.Steps.{step_lawful}

module _ {F R : Type 0} where
  abbrev pub layer_meaning : (R → Stencil) → (F → Meaning) → Layer F R → Meaning
  layer_meaning s m l = step (s l.rule) (m l.below)

  pub layer_lawful : (s : R → Stencil) (m : F → Meaning) (o : F → Type 0) → ((r : R) → Fit (s r)) → ((f : F) → o f → Lawful (m f)) → (l : Layer F R) → o l.below → Lawful (layer_meaning s m l)
  layer_lawful s m o fit lawful l ordered = step_lawful (s l.rule) (m l.below) (fit l.rule) (lawful l.below ordered)
