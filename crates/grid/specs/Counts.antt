-- How many things have a property. Assumes nothing.
--     Among xs x      x stands in the list
--     Once xs         nothing stands in the list twice
--     Counts n P      P holds of exactly n things
use Rattle.std.specs.Prelude.{◌≡◌, ℕ, ◌⊎◌, List, [], ◌∷◌, length}

module _ {X : Type 0} where
  abbrev pub Among : List X → X → Type 0
  Among [] x = ⊥
  Among (y ∷ ys) x = (y ≡ x) ⊎ Among ys x

  abbrev pub Once : List X → Type 0
  Once [] = Unit {0}
  Once (y ∷ ys) = (Among ys y → ⊥) × Once ys

  -- a list of n different things names all and only those of which P holds
  pub record Counts (n : ℕ) (P : X → Type 0) : Type 0 where
    pub list : List X
    pub size : length list ≡ n
    pub once : Once list
    pub only : (x : X) → Among list x → P x
    pub all : (x : X) → P x → Among list x
