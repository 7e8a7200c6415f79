-- The text of a row, height by height. Assumes nothing.
use Rattle.std.proofs.Common.{◌≡◌, ℕ, ◌+◌, ◌-◌, ◌<◌, List, [], ◌∷◌, ◌++◌, length, get_or, take, drop, decimal, sym, ap, ◌∙◌, append_assoc, arith}
use lib.Seq.{take-length}
use Rattle.std.proofs.lemmas.List.{flat_map_more, take_more}
use Rattle.coasts.specs.Texts.{row_text, spaced}

pub spaced_more : (e hs : List ℕ) (i : ℕ) → i < length hs → (e ++ spaced (take i hs)) ++ (32 ∷ decimal (get_or hs i 0)) ≡ e ++ spaced (take (i + 1) hs)
spaced_more e hs i h = flat_map_more (λ k. 32 ∷ decimal k) e (take i hs) (get_or hs i 0) ∙ ap (λ (t : List ℕ). e ++ spaced t) (sym (take_more hs i 0 h))

-- the first height, the others as the code has them, and the line feed
pub row_full : (e hs : List ℕ) → 0 < length hs → ((e ++ decimal (get_or hs 0 0)) ++ spaced (take (length hs - 1) (drop 1 hs))) ++ 10 ∷ [] ≡ e ++ row_text hs
row_full e [] some = absurd (omega (arith, some))
row_full e (h ∷ hs) some =
    let n : length (h ∷ hs) - 1 ≡ length hs = omega arith in
    let others : take (length (h ∷ hs) - 1) hs ≡ hs = ap (λ (k : ℕ). take k hs) n ∙ take-length hs in
    ap (λ (t : List ℕ). ((e ++ decimal h) ++ spaced t) ++ 10 ∷ []) others ∙ simp append_assoc
