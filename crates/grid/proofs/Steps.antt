-- A step over what a field may mean is again what a field may mean. Assumes nothing.
use Rattle.std.proofs.Common.{◌≡◌, ℕ, suc, Bool, true, false, cond, List, [], ◌∷◌, length, Ok, Err, Result, refl, ap, ◌∙◌, subst}
use Rattle.std.specs.List.{All}
use Rattle.std.proofs.lemmas.List.Elements.{All-cons, All-nil}
use Rattle.std.proofs.lemmas.List.FromFn.{length-map-range_with_len}
use Rattle.grid.specs.declared.blank.Blank.{Blank}
use Rattle.grid.specs.declared.cell.Cell.{Cell}
use Rattle.grid.specs.Meanings.{Answer, Height, Lawful, Meaning, own_blank}
use Rattle.grid.specs.Piles.{Fit, Stencil, area, before, north_west, nth_cell, ruled, side, square, step, survey}
use Rattle.grid.specs.Places.{inside}

-- ---- a survey that found no blank

before_whole : (a : Answer) (r : Result (List ℕ) Blank) (hs : List ℕ) → before a r ≡ Ok hs → (h : ℕ) × (ts : List ℕ) × (a ≡ Ok h) × (r ≡ Ok ts) × (hs ≡ h ∷ ts)
before_whole (Ok h) (Ok ts) hs e = (h, ts, refl, refl, cc)
before_whole (Ok h) (Err b) hs e = absurd cc
before_whole (Err b) r hs e = absurd cc

survey_whole : (m : Meaning) → Lawful m → (cs : List Cell) (hs : List ℕ) → survey m cs ≡ Ok hs → (length hs ≡ length cs) × All Height hs
unfolding survey
survey_whole m law [] hs e = let n : hs ≡ [] = cc in rw n (refl, All-nil Height)
survey_whole m law (c ∷ cs) hs e =
    let p = before_whole (m c) (survey m cs) hs e in
    let q = survey_whole m law cs p.1 p.3 in
    rw p.4 (ap suc q.0, All-cons Height p.0 p.1 (law.heights c p.0 p.2) q.1)

pub square_length : (r : ℕ) (c : Cell) → length (square r c) ≡ area r
unfolding square
square_length r c = length-map-range_with_len (nth_cell (side r) (north_west r c)) 0 (area r)

-- ---- a step

pub step_beyond : (s : Stencil) (m : Meaning) (c : Cell) → inside c ≡ false → step s m c ≡ Err (own_blank c)
unfolding step
step_beyond s m c e = rw e

module _ (s : Stencil) (m : Meaning) (c : Cell) where
  step_cases : (b : Bool) (r : Result (List ℕ) Blank) → ((hs : List ℕ) → r ≡ Ok hs → Height (s.value hs)) → (h : ℕ) → cond b (ruled s.value r) (Err (own_blank c)) ≡ Ok h → Height h
  step_cases true (Ok hs) kept h e = let same : s.value hs ≡ h = cc in subst Height same (kept hs refl)
  step_cases true (Err b) kept h e = absurd cc
  step_cases false r kept h e = absurd cc

  step_height : Fit s → Lawful m → (h : ℕ) → step s m c ≡ Ok h → Height h
  unfolding step
  step_height fit law =
      step_cases (inside c) (survey m (square s.radius c)) (λ hs found.
      let w = survey_whole m law (square s.radius c) hs found in
      fit.height hs (record { size = w.0 ∙ square_length s.radius c; heights = w.1 }))

pub step_lawful : (s : Stencil) (m : Meaning) → Fit s → Lawful m → Lawful (step s m)
step_lawful s m fit law = record { beyond = step_beyond s m; heights = λ c. step_height s m c fit law }
