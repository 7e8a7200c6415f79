-- The lines of an answer. Assumes nothing.
--     spaced hs           each height after a space
--     row_text hs         heights parted by one space
--     fills_text n        the last line of a drawing
--     refusal_text n      the last line where something is refused
use Rattle.std.specs.Prelude.{ℕ, List, [], ◌∷◌, ◌++◌, codes, decimal}
use Rattle.std.specs.List.{flat_map}
use Rattle.request.specs.Requests.{line_feed, space}

abbrev pub spaced : List ℕ → List ℕ
spaced = flat_map (λ h. space ∷ decimal h)

abbrev parted : List ℕ → List ℕ
parted [] = []
parted (h ∷ hs) = decimal h ++ spaced hs

abbrev pub row_text : List ℕ → List ℕ
row_text hs = parted hs ++ line_feed ∷ []

abbrev pub fills_text : ℕ → List ℕ
fills_text n = codes "fills " ++ decimal n ++ line_feed ∷ []

abbrev pub refusal_text : ℕ → List ℕ
refusal_text n = codes "refused " ++ decimal n ++ line_feed ∷ []
