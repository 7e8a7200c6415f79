-- Floor division by 8, and the chunks that a window touches. Assumes nothing.
use Rattle.std.proofs.Common.{◌≡◌, ℕ, ◌+◌, ◌-◌, ◌*◌, ◌/◌, ◌%◌, ◌<◌, ◌≤◌, true, ℤ, pos, negsuc, ◌+ℤ◌, ◌*ℤ◌, sym, refl, ap, ◌∙◌, arith}
use Rattle.std.proofs.lemmas.Nat.{div-add-mod', div_below, div-mul-add, mod_below, mod-mul-add, mul-add-lt, mul-le}
use Rattle.std.proofs.lemmas.Int.{ints}
use Rattle.std.proofs.lemmas.Bool.{and_from, and_parts}
use Rattle.std.proofs.lemmas.Bool.Decides.{Decides-int_eq}
use Rattle.grid.specs.declared.cell.Cell.{Cell}
use Rattle.grid.specs.declared.chunk.Chunk.{Chunk}
use Rattle.grid.specs.declared.window.Window.{Window}
use Rattle.grid.specs.Counts.{Counts}
use Rattle.grid.specs.Places.{EightFrom, cell_in, chunk_of, eighth, place_of, rest, same_chunk, slot_of}
use Rattle.grid.specs.Windows.{Touches, cell_of, corner_of, height_of, width_of}
use Rattle.grid.proofs.Counting.{at_most, counts_numbered}

pub rest_lt : (z : ℤ) → rest z < 8
rest_lt (pos n) = omega arith
rest_lt (negsuc n) = omega arith

pub parts : (z : ℤ) → (pos 8 *ℤ eighth z) +ℤ pos (rest z) ≡ z
parts (pos n) = omega (arith, ints)
parts (negsuc n) = omega (arith, ints)

pub eighth_is : (z q : ℤ) → EightFrom q z → eighth z ≡ q
eighth_is z q h = let r = rest_lt z in let p = parts z in omega (arith, ints, h.0, h.1)

pub eighth_east : (z : ℤ) (i : ℕ) → eighth (z +ℤ pos i) ≡ eighth z +ℤ pos ((rest z + i) / 8)
eighth_east z i =
    let p = parts z in
    let r = rest_lt z in
    eighth_is _ _ (omega (arith, ints), omega (arith, ints))

-- the chunks of a line that n numbers from z on lie in, at least one, are the next `span z n`
abbrev pub span : ℤ → ℕ → ℕ
span z n = (rest z + n + 7) / 8

-- the first of the numbers that lies in the a-th of them
reached : (z : ℤ) (n a : ℕ) → 1 ≤ n → a < span z n → (i : ℕ) × (i < n) × ((rest z + i) / 8 ≡ a)
reached z n a some h = let r = rest_lt z in (8 * a - rest z, omega arith, omega arith)

pub cell_eq : {a b c d : ℤ} → a ≡ b → c ≡ d → ◌≡◌ {A = Cell} (record { x = a; y = c }) (record { x = b; y = d })
cell_eq e f = cc

pub chunk_eq : {a b c d : ℤ} → a ≡ b → c ≡ d → ◌≡◌ {A = Chunk} (record { x = a; y = c }) (record { x = b; y = d })
chunk_eq e f = cc

-- 57 numbers in a row lie in at most 8 chunks of a line, of which no two leave the same rest
close : (z : ℤ) (i j n : ℕ) → n ≤ 57 → i < n → j < n → rest (eighth (z +ℤ pos i)) ≡ rest (eighth (z +ℤ pos j)) → eighth (z +ℤ pos i) ≡ eighth (z +ℤ pos j)
close z i j n few hi hj same =
    let r = rest_lt z in
    let a = parts (eighth (z +ℤ pos i)) in
    let b = parts (eighth (z +ℤ pos j)) in
    omega (arith, ints, eighth_east z i, eighth_east z j)

slot_rests : (j k : Chunk) → slot_of j ≡ slot_of k → (rest j.x ≡ rest k.x) × (rest j.y ≡ rest k.y)
slot_rests j k same =
    let a = rest_lt j.x in
    let b = rest_lt k.x in
    (omega arith, omega arith)

module _ (v : Window) where
  abbrev pub columns : ℕ
  columns = span (corner_of v).x (width_of v)

  abbrev pub rows : ℕ
  rows = span (corner_of v).y (height_of v)

  -- the chunk in column a and row b of those that the window touches
  abbrev chunk_at : ℕ → ℕ → Chunk
  chunk_at a b = record { x = eighth (corner_of v).x +ℤ pos a; y = eighth (corner_of v).y +ℤ pos b }

  -- the p-th of them in reading order
  abbrev nth_chunk : ℕ → Chunk
  nth_chunk p = chunk_at (p % columns) (p / columns)

  some_columns : 0 < columns
  some_columns = let w = v.wide.0 in omega arith

  chunk_of_cell : (i j : ℕ) → chunk_of (cell_of v i j) ≡ chunk_at ((rest (corner_of v).x + i) / 8) ((rest (corner_of v).y + j) / 8)
  chunk_of_cell i j = chunk_eq (eighth_east (corner_of v).x i) (eighth_east (corner_of v).y j)

  differ : (p q : ℕ) → p < rows * columns → q < rows * columns → nth_chunk p ≡ nth_chunk q → p ≡ q
  differ p q _ _ e =
      let a : p % columns ≡ q % columns = omega (arith, ints, ap (λ (k : Chunk). k.x) e) in
      let b : p / columns ≡ q / columns = omega (arith, ints, ap (λ (k : Chunk). k.y) e) in
      cc (div-add-mod' p columns, div-add-mod' q columns)

  touched : (p : ℕ) → p < rows * columns → Touches v (nth_chunk p)
  touched p h =
      let (i, west, column) = reached (corner_of v).x (width_of v) (p % columns) v.wide.0 (mod_below p columns some_columns) in
      let (j, north, row) = reached (corner_of v).y (height_of v) (p / columns) v.high.0 (div_below p columns rows some_columns h) in
      (i, j, west, north, chunk_of_cell i j ∙ (λ t. chunk_at (column t) (row t)))

  found : (k : Chunk) → Touches v k → (p : ℕ) × (p < rows * columns) × (nth_chunk p ≡ k)
  found k (i, j, west, north, lies) =
      let column = (rest (corner_of v).x + i) / 8 in
      let row = (rest (corner_of v).y + j) / 8 in
      let a : column < columns = omega arith in
      let b : row < rows = omega arith in (
        row * columns + column,
        omega (arith, mul-add-lt row columns column rows b a),
        rw (mod-mul-add row columns column a, div-mul-add row columns column a) (sym (chunk_of_cell i j) ∙ lies),
      )

  pub counts_chunks : Counts (rows * columns) (Touches v)
  counts_chunks = counts_numbered nth_chunk (rows * columns) (Touches v) differ touched found

  -- ---- what the longest side is for

  pub few_chunks : (n : ℕ) (P : Chunk → Type 0) → ((k : Chunk) → P k → Touches v k) → Counts n P → n ≤ 64
  few_chunks n P touches c =
      let all = counts_chunks in
      let least = at_most c.list all.list c.once (λ k a. all.all k (touches k (c.only k a))) in
      let a : rows ≤ 8 = omega (arith, rest_lt (corner_of v).y, v.high.1) in
      let b : columns ≤ 8 = omega (arith, rest_lt (corner_of v).x, v.wide.1) in
      omega (arith, least, c.size, all.size, mul-le rows columns 8 8 a b)

  -- two chunks of one window with one slot are one
  pub one_slot : (j k : Chunk) → Touches v j → Touches v k → slot_of j ≡ slot_of k → j ≡ k
  one_slot j k (a, b, a_in, b-in, j-is) (c, d, c-in, d-in, k-is) same =
      let rests = slot_rests (chunk_of (cell_of v a b)) (chunk_of (cell_of v c d)) (ap slot_of j-is ∙ same ∙ sym (ap slot_of k-is)) in
      let x = close (corner_of v).x a c (width_of v) v.wide.1 a_in c-in rests.0 in
      let y = close (corner_of v).y b d (height_of v) v.high.1 b-in d-in rests.1 in
      cc

-- the column and the row of a place, which counts to 63 and then again
pub places : (p : ℕ) → (p % 8 ≡ p % 64 % 8) × (p / 8 % 8 ≡ p % 64 / 8)
places p = (omega arith, omega arith)

-- ---- the 64 cells of a chunk

eighth_of : (q : ℤ) (i : ℕ) → i < 8 → eighth ((pos 8 *ℤ q) +ℤ pos i) ≡ q
eighth_of q i h = eighth_is _ q (omega (arith, ints), omega (arith, ints))

rest_of : (q : ℤ) (i : ℕ) → i < 8 → rest ((pos 8 *ℤ q) +ℤ pos i) ≡ i
rest_of q i h =
    let e = eighth_of q i h in
    let p = parts ((pos 8 *ℤ q) +ℤ pos i) in
    omega (arith, ints)

pub place_lt : (c : Cell) → place_of c < 64
place_lt c = omega (arith, rest_lt c.x, rest_lt c.y)

pub slot_lt : (k : Chunk) → slot_of k < 64
slot_lt k = omega (arith, rest_lt k.x, rest_lt k.y)

pub chunk_cell_in : (k : Chunk) (p : ℕ) → p < 64 → chunk_of (cell_in k p) ≡ k
chunk_cell_in k p h = chunk_eq (eighth_of k.x (p % 8) (omega arith)) (eighth_of k.y (p / 8) (omega arith))

pub place_cell_in : (k : Chunk) (p : ℕ) → p < 64 → place_of (cell_in k p) ≡ p
place_cell_in k p h = omega (arith, rest_of k.x (p % 8) (omega arith), rest_of k.y (p / 8) (omega arith))

pub cell_in_place : (c : Cell) → cell_in (chunk_of c) (place_of c) ≡ c
cell_in_place c =
    let a = rest_lt c.x in
    let x : (cell_in (chunk_of c) (place_of c)).x ≡ c.x = omega (arith, ints, parts c.x) in
    let y : (cell_in (chunk_of c) (place_of c)).y ≡ c.y = omega (arith, ints, parts c.y) in
    cell_eq x y

-- ---- addresses

pub same_chunk_true : (j k : Chunk) → same_chunk j k ≡ true → j ≡ k
same_chunk_true j k h = let p = and_parts _ _ h in chunk_eq ((Decides-int_eq j.x k.x).0 p.0) ((Decides-int_eq j.y k.y).0 p.1)

pub same_chunk_refl : (k : Chunk) → same_chunk k k ≡ true
same_chunk_refl k = and_from _ _ ((Decides-int_eq k.x k.x).1 refl) ((Decides-int_eq k.y k.y).1 refl)
