-- Filling a slot of a chunk table. Assumes nothing.
use Rattle.std.proofs.Common.{◌≡◌, ℕ, ◌+◌, ◌*◌, ◌%◌, ◌<◌, true, false, cond, eqb, ◌≢◌, List, length, get_or, set, replicate, Some, None, Ok, Err, Option, ap, ◌∙◌, subst, arith, get_or-set_other, below_more}
use lib.ListN.{get_or-replicate}
use Rattle.std.proofs.lemmas.Bool.Decides.{nat_tests}
use Rattle.std.proofs.lemmas.Grind.{get_or-set_at}
use Rattle.std.proofs.lemmas.Bool.{both_ways, false≢true}
use Rattle.grid.specs.declared.cell.Cell.{Cell}
use Rattle.grid.specs.declared.chunk.Chunk.{Chunk}
use Rattle.grid.specs.Meanings.{Answer, Meaning}
use Rattle.grid.specs.Places.{cell_in, chunk_of, place_of, same_chunk, slot_of}
use Rattle.grid.proofs.Chunks.{cell_in_place, chunk_cell_in, place_cell_in, place_lt, same_chunk_refl, same_chunk_true, slot_lt}
use Rattle.tables.specs.declared.table.Table.{Table}
use Rattle.tables.specs.Tables.{Right, height_for, holding, holds, index_of, is_chunk, mark, stored}

-- ---- addresses

pub none_there : (i n : ℕ) (k : Chunk) → i < n → is_chunk (get_or (replicate n None) i None) k ≡ false
none_there i n k h = ap (λ (o : Option Chunk). is_chunk o k) (get_or-replicate n i None None h)

pub none_held : (k : Chunk) → is_chunk (get_or (replicate 64 None) (slot_of k) None) k ≡ false
none_held k = none_there (slot_of k) 64 k (slot_lt k)

-- a slot was given an address
pub labelled : (ss : List (Option Chunk)) (s : ℕ) (k j : Chunk) → length ss ≡ 64 → s ≡ slot_of k → is_chunk (get_or (set ss s (Some k)) (slot_of j) None) j ≡ cond (eqb (slot_of j) (slot_of k)) (same_chunk k j) (is_chunk (get_or ss (slot_of j) None) j)
labelled ss s k j len e = grind (arith, nat_tests, get_or-set_at, get_or-set_other {A = Option Chunk}, slot_lt k)

is_chunk_only : (o : Option Chunk) (k j : Chunk) → is_chunk o k ≡ true → is_chunk o j ≡ same_chunk k j
is_chunk_only (Some i) k j h = ap (λ (l : Chunk). same_chunk l j) (same_chunk_true i k h)
is_chunk_only None k j h = absurd (false≢true h)

-- where k is held already, to make it held changes nothing
pub held_already : (t : Table) (k j : Chunk) → holds t k ≡ true → holds t j ≡ holding k (holds t) j
held_already t k j h = grind (arith, nat_tests, is_chunk_only (get_or t.chunks (slot_of k) None) k j h)

-- the chunks of t' are those of t once k is held
abbrev pub Holding : Chunk → Table → Table → Type 0
Holding k t t' = (j : Chunk) → holds t' j ≡ holding k (holds t) j

now_held : (k : Chunk) (t t' : Table) → Holding k t t' → holds t' k ≡ true
now_held k t t' h = grind (arith, nat_tests, h k, same_chunk_refl k)

-- ---- numbers

-- the first p numbers of k are those for what m gives
abbrev pub Filled : Meaning → Chunk → ℕ → Table → Type 0
Filled m k p t = (q : ℕ) → q < p → stored t (cell_in k q) ≡ mark (m (cell_in k q))

-- the numbers of other slots stay
abbrev pub Kept : Chunk → Table → Table → Type 0
Kept k t₀ t = (c : Cell) → (slot_of (chunk_of c) ≡ slot_of k → ⊥) → stored t c ≡ stored t₀ c

-- a number was put at c
abbrev pub Put : Cell → ℕ → Table → Table → Type 0
Put c h t t' = (stored t' c ≡ h) × ((d : Cell) → (index_of d ≡ index_of c → ⊥) → stored t' d ≡ stored t d)

pub index_lt : (c : Cell) → index_of c < 4096
index_lt c = let s = slot_lt (chunk_of c) in let p = place_lt c in omega arith

pub unwritten : (c : Cell) → ◌≡◌ {A = ℕ} (get_or (replicate 4096 65535) (index_of c) 0) 65535
unwritten c = get_or-replicate 4096 (index_of c) 65535 0 (index_lt c)

index_cell_in : (k : Chunk) (p : ℕ) → p < 64 → index_of (cell_in k p) ≡ 64 * slot_of k + p
index_cell_in k p h = omega (arith, place_cell_in k p h, ap slot_of (chunk_cell_in k p h))

-- the number that a turn of the loop puts
pub puts : (k : Chunk) (p h : ℕ) (d : Cell) (t t' : Table) → p < 64 → d ≡ cell_in k (p % 64) → Put d h t t' → Put (cell_in k p) h t t'
puts k p h d t t' lt e = let whole : p % 64 ≡ p = omega arith in subst (λ (c : Cell). Put c h t t') (e ∙ ap (cell_in k) whole)

pub filled_more : (m : Meaning) (k : Chunk) (p h : ℕ) (t t' : Table) → p < 64 → Put (cell_in k p) h t t' → h ≡ mark (m (cell_in k p)) → Filled m k p t → Filled m k (p + 1) t'
filled_more m k p h t t' lt put is before =
    below_more _ p (λ q below. put.1 (cell_in k q) (λ same. omega (arith, index_cell_in k p lt, index_cell_in k q (omega arith))) ∙ before q below) (put.0 ∙ is)

pub kept_more : (k : Chunk) (p h : ℕ) (t₀ t t' : Table) → p < 64 → Put (cell_in k p) h t t' → Kept k t₀ t → Kept k t₀ t'
kept_more k p h t₀ t t' lt put before c apart =
    let other : slot_of (chunk_of c) ≢ slot_of k = apart in
    put.1 c (λ same. omega (arith, index_cell_in k p lt, place_lt c)) ∙ before c apart

-- the 64 cells of k are all that lie in k
pub filled_all : (m : Meaning) (k : Chunk) (t : Table) → Filled m k 64 t → (c : Cell) → chunk_of c ≡ k → stored t c ≡ mark (m c)
filled_all m k t all c e =
    let there : cell_in k (place_of c) ≡ c = rw (← e) (cell_in_place c) in
    subst (λ (d : Cell). stored t d ≡ mark (m d)) there (all (place_of c) (place_lt c))

-- a table that holds nothing has no wrong number
pub right_empty : (t : Table) (m : Meaning) → ((k : Chunk) → holds t k ≡ false) → Right t m
right_empty t m none c there = absurd (both_ways (holds t (chunk_of c)) (none (chunk_of c)) there)

-- a fill leaves a table right
pub right_filled : (m : Meaning) (k : Chunk) (t t' : Table) → Holding k t t' → ((c : Cell) → chunk_of c ≡ k → stored t' c ≡ mark (m c)) → Kept k t t' → Right t m → Right t' m
right_filled m k t t' held fresh kept right c h = grind (arith, nat_tests, held (chunk_of c), fresh c, kept c, right c, same_chunk_true k (chunk_of c))

-- ---- the answer

-- the height that stands for an answer, where there is one
unmarked : (a : Answer) (h : ℕ) → Some h ≡ height_for (mark a) → ◌≡◌ {A = Answer} (Ok h) a
unmarked (Ok n) h e = grind (arith, nat_tests)
unmarked (Err b) h e = absurd cc

-- the chunk of the cell is held now, so its number is the one for the answer
pub answered : (m : Meaning) (c : Cell) (h : ℕ) (t t' : Table) → Holding (chunk_of c) t t' → Right t' m → Some h ≡ height_for (stored t' c) → ◌≡◌ {A = Answer} (Ok h) (m c)
answered m c h t t' held right is = unmarked (m c) h (is ∙ ap height_for (right c (now_held (chunk_of c) t t' held)))
