-- What a step makes of a square, from its cells one by one. Assumes nothing.
use Rattle.std.proofs.Common.{◌≡◌, ℕ, zero, suc, ◌<◌, true, List, [], ◌∷◌, length, get_or, Ok, Err, refl, ap, ◌∙◌, arith}
use Rattle.std.proofs.lemmas.List.FromFn.{get_or-map-range_with_len}
use Rattle.grid.specs.declared.blank.Blank.{Blank}
use Rattle.grid.specs.declared.cell.Cell.{Cell}
use Rattle.grid.specs.Meanings.{Meaning, risen}
use Rattle.grid.specs.Piles.{Stencil, area, north_west, nth_cell, side, square, step, survey}
use Rattle.grid.specs.Places.{inside}
use Rattle.grid.proofs.Steps.{square_length}

-- ---- along any cells

pub survey_all : (m : Meaning) (cs : List Cell) (hs : List ℕ) → length hs ≡ length cs → ((k : ℕ) (d : Cell) → k < length cs → m (get_or cs k d) ≡ Ok (get_or hs k 0)) → survey m cs ≡ Ok hs
unfolding survey
survey_all m [] [] e all = refl
survey_all m [] (h ∷ hs) e all = absurd (omega arith)
survey_all m (c ∷ cs) [] e all = absurd (omega arith)
survey_all m (c ∷ cs) (h ∷ hs) e all =
    let here = all 0 c (omega arith) in
    let rest = survey_all m cs hs (omega arith) (λ k d l. all (suc k) d (omega arith)) in
    rw (here, rest)

pub survey_first : (m : Meaning) (cs : List Cell) (n : ℕ) (b : Blank) → n < length cs → ((k : ℕ) (d : Cell) → k < n → (h : ℕ) × (m (get_or cs k d) ≡ Ok h)) → ((d : Cell) → m (get_or cs n d) ≡ Err b) → survey m cs ≡ Err b
unfolding survey
survey_first m [] n b l all blank = absurd (omega arith)
survey_first m (c ∷ cs) zero b l all blank = rw (blank c)
survey_first m (c ∷ cs) (suc n) b l all blank =
    let here = all 0 c (omega arith) in
    let rest = survey_first m cs n b (omega arith) (λ k d j. all (suc k) d (omega arith)) blank in
    rw (here.1, rest)

-- ---- around a cell

-- cell number k of the square of radius r around c
abbrev pub nth : ℕ → Cell → ℕ → Cell
nth r c = nth_cell (side r) (north_west r c)

square_at : (r : ℕ) (c : Cell) (k : ℕ) (d : Cell) → k < area r → get_or (square r c) k d ≡ nth r c k
unfolding square
square_at r c k d l = get_or-map-range_with_len (nth r c) 0 (area r) k k d l (omega arith)

module _ (s : Stencil) (m : Meaning) (c : Cell) (within : inside c ≡ true) where
  -- every cell of the square has a height
  pub step_all : (hs : List ℕ) → length hs ≡ area s.radius → ((k : ℕ) → k < area s.radius → m (nth s.radius c k) ≡ Ok (get_or hs k 0)) → step s m c ≡ Ok (s.value hs)
  unfolding step
  step_all hs l all =
      let size = square_length s.radius c in
      let found = survey_all m (square s.radius c) hs (omega arith) (λ k d j. ap m (square_at s.radius c k d (omega arith)) ∙ all k (omega arith)) in
      rw (within, found)

  -- cell number n of the square is its first blank
  pub step_first : (n : ℕ) (b : Blank) → n < area s.radius → ((k : ℕ) → k < n → (h : ℕ) × (m (nth s.radius c k) ≡ Ok h)) → m (nth s.radius c n) ≡ Err b → step s m c ≡ Err (risen b)
  unfolding step
  step_first n b l all blank =
      let size = square_length s.radius c in
      let found = survey_first m (square s.radius c) n b (omega arith) (λ k d j. let (h, is) = all k j in (h, ap m (square_at s.radius c k d (omega arith)) ∙ is)) (λ d. ap m (square_at s.radius c n d l) ∙ blank) in
      rw (within, found)
