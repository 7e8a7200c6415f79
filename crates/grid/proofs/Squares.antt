-- A square is exactly the cells within its radius, each once, in reading order. Assumes nothing.
use Rattle.std.proofs.Common.{◌≡◌, ℕ, ◌+◌, ◌*◌, ◌/◌, ◌%◌, ◌<◌, ◌≤◌, ◌⊎◌, ℤ, pos, ◌+ℤ◌, ◌-ℤ◌, nat_abs, ap, inl, inr, ⊎_elim, arith}
use Rattle.std.proofs.lemmas.Nat.{div-add-mod', div_below, div-mul-add, le-div, mod_below, mod-mul-add, mul-add-lt}
use Rattle.std.proofs.lemmas.List.FromFn.{get_or-map-range_with_len, length-map-range_with_len}
use Rattle.std.proofs.lemmas.Int.{ints}
use Rattle.std.proofs.lemmas.Bool.{cases_eq}
use Rattle.grid.specs.declared.cell.Cell.{Cell}
use Rattle.grid.specs.Piles.{Squares, area, north_west, nth_cell, side, square}
use Rattle.grid.specs.Places.{Before, distance}
use Rattle.grid.proofs.Chunks.{cell_eq}
use Rattle.grid.proofs.Counting.{all_numbered, among_found, once}

-- ---- one coordinate

near : (z : ℤ) (r i : ℕ) → i < side r → nat_abs (z -ℤ ((z -ℤ pos r) +ℤ pos i)) ≤ r
near z r i h = omega (arith, ints)

reach : (z t : ℤ) (r : ℕ) → nat_abs (z -ℤ t) ≤ r → (i : ℕ) × (i < side r) × ((z -ℤ pos r) +ℤ pos i ≡ t)
reach z t r h = (nat_abs (t -ℤ (z -ℤ pos r)), omega (arith, ints), omega (arith, ints))

-- ---- rows of w cells

-- an earlier number is in an earlier row, or further west in the same row
rows_first : (w i j : ℕ) → 0 < w → i < j → (i / w < j / w) ⊎ ((i / w ≡ j / w) × (i % w < j % w))
rows_first w i j some h =
    let p = div-add-mod' i w in
    let q = div-add-mod' j w in
    let below : i / w ≤ j / w = le-div (i / w) j w some (omega arith) in
    ⊎_elim (λ e. inr (e, omega (arith, ap (λ k. k * w) e))) (λ ne. inl (omega arith)) (cases_eq (i / w) (j / w))

in_order : (w : ℕ) (c : Cell) (i j : ℕ) → 0 < w → i < j → Before (nth_cell w c i) (nth_cell w c j)
unfolding nth_cell
in_order w c i j some h =
    ⊎_elim (λ l. inl (omega (arith, ints))) (λ e. inr (ap (λ k. c.y +ℤ pos k) e.0, omega (arith, ints, e.1))) (rows_first w i j some h)

apart : (a b : Cell) → Before a b → a ≡ b → ⊥
apart a b (inl l) e = omega (arith, ints, ap (λ (d : Cell). d.y) e)
apart a b (inr (_, l)) e = omega (arith, ints, ap (λ (d : Cell). d.x) e)

-- ---- the square

module _ (r : ℕ) (c : Cell) where
  abbrev nth : ℕ → Cell
  nth = nth_cell (side r) (north_west r c)

  nth_near : (k : ℕ) → k < area r → distance c (nth k) ≤ r
  unfolding nth_cell
  nth_near k h = omega (arith, near c.x r (k % side r) (mod_below k (side r) (omega arith)), near c.y r (k / side r) (div_below k (side r) (side r) (omega arith) h))

  found : (d : Cell) → distance c d ≤ r → (k : ℕ) × (k < area r) × (nth k ≡ d)
  unfolding nth_cell
  found d h =
      let (i, west, x) = reach c.x d.x r (omega arith) in
      let (j, north, y) = reach c.y d.y r (omega arith) in
      (j * side r + i, mul-add-lt j (side r) i (side r) north west, rw (mod-mul-add j (side r) i west, div-mul-add j (side r) i west) (cell_eq x y))

pub squares : Squares
unfolding square
squares r c =
    let f = nth r c in
    let n = area r in
    let order = λ (i j : ℕ) (l : i < j). in_order (side r) (north_west r c) i j (omega arith) l in
    record {
      within = all_numbered f n (λ d. distance c d ≤ r) (nth_near r c);
      all = λ d h. among_found f n d (found r c d h);
      once = once f 0 n (λ i j l _. apart (f i) (f j) (order i j l));
      ordered = λ i j d l h. let k : j < n = omega (arith, length-map-range_with_len f 0 n) in rw (get_or-map-range_with_len f 0 n i i d (omega arith) (omega arith), get_or-map-range_with_len f 0 n j j d k (omega arith)) (order i j l);
    }
