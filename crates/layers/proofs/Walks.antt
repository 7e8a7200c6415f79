-- A walk over the cells of a square that notes their heights. Assumes nothing.
use Rattle.std.proofs.Common.{◌≡◌, ℕ, ◌+◌, ◌*◌, ◌<◌, ◌≤◌, true, ◌≢◌, List, length, get_or, take, set, Ok, Err, ap, ◌∙◌, sym, arith, get_or-take, length-take-le, below_more}
use Rattle.std.proofs.lemmas.Nat.{div-mul-add, mod-mul-add, mul-add-lt, mul-le}
use Rattle.std.proofs.lemmas.List.Elements.{All-from_get_or}
use Rattle.std.proofs.lemmas.List.{get_or-set_other, get_or-set_same}
use Rattle.grid.specs.declared.blank.Blank.{Blank}
use Rattle.grid.specs.declared.cell.Cell.{Cell}
use Rattle.grid.specs.Meanings.{Height, Lawful, Meaning, risen}
use Rattle.grid.specs.Piles.{Stencil, Whole, area, north_west, nth_cell, side, step}
use Rattle.grid.specs.Places.{cell_at, inside}
use Rattle.layers.proofs.Surveys.{nth, step_all, step_first}

-- the cell in this column and row is the cell of this number
pub nth_at : (r : ℕ) (c : Cell) (column row n : ℕ) → column < side r → n ≡ row * side r + column → nth r c n ≡ cell_at (north_west r c) column row
unfolding nth_cell
nth_at r c column row n l e = rw (e, div-mul-add, mod-mul-add)

-- its number is below how many cells there are, which is at most 529
pub nth_below : (r column row n : ℕ) → column < side r → row < side r → n ≡ row * side r + column → n < area r
nth_below r column row n west north e = omega (arith, mul-add-lt row (side r) column (side r) north west)

pub area_most : (r : ℕ) → r ≤ 11 → area r ≤ 529
area_most r near = mul-le (side r) (side r) 23 23 (omega arith) (omega arith)

-- the first n cells of the square have the heights at the front of hs
abbrev pub Walked : Meaning → ℕ → Cell → ℕ → List ℕ → Type 0
Walked m r c n hs = (k : ℕ) → k < n → m (nth r c k) ≡ Ok (get_or hs k 0)

pub walked_more : (m : Meaning) (r : ℕ) (c : Cell) (n : ℕ) (hs : List ℕ) (h : ℕ) → n < length hs → Walked m r c n hs → m (nth r c n) ≡ Ok h → Walked m r c (n + 1) (set hs n h)
walked_more m r c n hs h l old new =
    below_more _ _ (λ k j. let ne : k ≢ n = omega arith in rw get_or-set_other (old k j)) (rw get_or-set_same new)

-- ---- its end

module _ (s : Stencil) (m : Meaning) (c : Cell) (within : inside c ≡ true) where
  -- the walk ended at a blank
  pub walked_to_blank : (n : ℕ) (hs : List ℕ) (b : Blank) → n < area s.radius → Walked m s.radius c n hs → m (nth s.radius c n) ≡ Err b → step s m c ≡ Err (risen b)
  walked_to_blank n hs b l walked = step_first s m c within n b l (λ k j. (get_or hs k 0, walked k j))

  -- the walk went through
  pub walked_through : (n : ℕ) (hs : List ℕ) (h : ℕ) → n ≡ area s.radius → n ≤ length hs → Lawful m → Walked m s.radius c n hs → (Whole s.radius (take n hs) → h ≡ s.value (take n hs)) → step s m c ≡ Ok h
  walked_through n hs h full long law walked told =
      let front = length-take-le n hs long in
      let noted = λ (k : ℕ) (l : k < n). walked k l ∙ ap Ok (sym (get_or-take n hs k 0 l)) in
      let whole : Whole s.radius (take n hs) = record { size = front ∙ full; heights = All-from_get_or Height (take n hs) 0 (λ k l. law.heights _ _ (noted k (omega arith))) } in
      rw (told whole) (step_all s m c within (take n hs) (front ∙ full) (λ k l. noted k (omega arith)))
