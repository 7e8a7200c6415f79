-- A row as it is written, cell by cell. Assumes nothing.
use Rattle.std.proofs.Common.{◌≡◌, ℕ, ◌+◌, ◌<◌, ◌≤◌, List, [], ◌∷◌, ◌++◌, length, get_or, set, IsErrAnd, Some, Ok, Err, Result, sym, refl, ap, ◌∙◌, subst, append-nil, arith}
use Rattle.std.proofs.lemmas.List.FromFn.{map-range_with_len_more}
use Rattle.std.proofs.lemmas.List.{get_or-set_other, get_or-set_same, length-set}
use Rattle.std.proofs.lemmas.Int.{ints}
use Rattle.std.proofs.lemmas.Bool.Decides.{nat_tests}
use Rattle.grid.specs.declared.cell.Cell.{Cell}
use Rattle.grid.specs.declared.chunk.Chunk.{Chunk}
use Rattle.grid.specs.declared.field.Field.{Ghosts}
use Rattle.grid.specs.declared.window.Window.{Window}
use Rattle.grid.specs.Meanings.{Answer, Meaning}
use Rattle.grid.specs.Windows.{cell_if_any, cell_of, height_of, width_of}
use Rattle.worlds.specs.declared.drawing.Drawing.{Drawing}
use Rattle.worlds.specs.declared.event.Event.{Event}
use Rattle.worlds.specs.declared.event.Event.TheVariants.{Asked, Wrote, Refused}
use Rattle.worlds.specs.declared.refusal.BlankFault.{BlankFault}
use Rattle.worlds.specs.declared.refusal.RowRefusal.{RowRefusal}
use Rattle.worlds.specs.declared.refusal.RowRefusal.TheVariants.{Blank}
use Rattle.worlds.specs.Drawings.{GoesOn, fills_of, next_of, window_of, world_of}
use Rattle.worlds.specs.Journals.{InDrawing, OfWindow, Spares, Touches}
use Rattle.worlds.specs.Refusals.{looked}
use Rattle.worlds.specs.Rows.{Answers, Past, Placed, RowAnswer, column_of, row_told, told_by}
use Rattle.worlds.specs.Worlds.{held_by, world_meaning}
use Rattle.worlds.proofs.Goings.{goes_more}
use Rattle.worlds.proofs.Stretches.{stretch_idle}

-- ---- cells and answers

pub column_is : (v : Window) (i j : ℕ) → column_of v (cell_of v i j) ≡ i
column_is v i j = omega (arith, ints)

pub told_more : (m : Meaning) (v : Window) (j i : ℕ) → row_told m v j (i + 1) ≡ row_told m v j i ++ Asked (cell_of v i j) (m (cell_of v i j)) ∷ []
told_more m v j i = map-range_with_len_more (λ k. Asked (cell_of v k j) (m (cell_of v k j))) 0 i i (omega arith)

cell_found : (v : Window) (i j : ℕ) {at : Cell} → Some at ≡ cell_if_any v i j → (i < width_of v) × (j < height_of v) × (at ≡ cell_of v i j)
cell_found v i j e = grind (arith, nat_tests)

looked_ok : (c : Cell) (a : Answer) (h : ℕ) → Ok h ≡ looked c a → a ≡ Ok h
looked_ok c a h e = grind arith

looked_err : (c : Cell) (a : Answer) (f : BlankFault) → Err f ≡ looked c a → (f.cell ≡ c) × (a ≡ Err f.blank)
looked_err c a f e = grind arith

-- what came back through a `?`
pub err_is : {T E : Type 0} (r : Result T E) (x : E) → IsErrAnd r (λ y. y ≡ x) → r ≡ Err x
err_is (Ok t) x h = absurd h
err_is (Err y) x h = ap Err h

module _ {F : Type 0} {g : Ghosts F} where
  -- ---- events that ask nothing

  -- the same drawing, at another row
  abbrev at_row : ℕ → Drawing F g → Drawing F g
  at_row j d = record { world = world_of d; window = window_of d; next = j; fills = fills_of d }

  idle_on : (d : Drawing F g) (j : ℕ) (e : Event) → ((k : Chunk) → Touches k e → ⊥) → ((k : Chunk) → Spares k e) → InDrawing (window_of d) e →
      GoesOn d (e ∷ []) (at_row j d)
  idle_on d j e quiet spares within = record {
    window = refl;
    same = refl;
    new = 0;
    table = stretch_idle (window_of d) e (held_by (world_of d)) quiet spares within;
    fills = λ h. omega arith;
  }

  pub refused_on : (d : Drawing F g) (r : RowRefusal) → GoesOn d (Refused r ∷ []) d
  refused_on d r = idle_on d (next_of d) (Refused r) (λ k t. t) (λ k. tt) tt

  -- ---- the way along a row

  -- the first i cells of the next row of d are written: d became e, and the caller's row o became p
  pub record Way (d : Drawing F g) (o : List ℕ) (i : ℕ) (e : Drawing F g) (p : List ℕ) : Type 0 where
    pub within : i ≤ width_of (window_of d)
    pub next : next_of e ≡ next_of d
    pub long : length p ≡ length o
    pub past : (k : ℕ) → i ≤ k → get_or p k 0 ≡ get_or o k 0
    pub heights : (k : ℕ) → k < i → world_meaning (world_of d) (cell_of (window_of d) k (next_of d)) ≡ Ok (get_or p k 0)
    pub goes : (m : Meaning) → GoesOn d (row_told m (window_of d) (next_of d) i) e

  module _ {d e : Drawing F g} {o p : List ℕ} {i : ℕ} (way : Way d o i e p) where
    abbrev m : Meaning
    m = world_meaning (world_of d)

    -- no cell is left
    pub way_whole : (n : ℕ) → i ≡ width_of (window_of d) → (a : Meaning) → GoesOn d (told_by a (window_of d) (next_of d) (Ok tt)) (at_row n e)
    way_whole n whole a =
        subst (λ (k : ℕ). GoesOn d (row_told a (window_of d) (next_of d) k ++ Wrote ∷ []) (at_row n e)) whole
        (goes_more d e (at_row n e) _ (Wrote ∷ []) (way.goes a) (idle_on e n Wrote (λ k t. t) (λ k. tt) tt))

    -- the next cell was asked
    module _ (f : Drawing F g) {at : Cell} (found : Some at ≡ cell_if_any (window_of d) i (next_of d))
        (kept : next_of f ≡ next_of e) (on : OfWindow (window_of e) at → (a : Meaning) → GoesOn e (Asked at (a at) ∷ []) f) where
      there : (i < width_of (window_of d)) × (next_of d < height_of (window_of d)) × (at ≡ cell_of (window_of d) i (next_of d))
      there = cell_found (window_of d) i (next_of d) found

      of_window : OfWindow (window_of e) at
      of_window = rw (way.goes m).window (i, next_of d, there.0, there.1, sym there.2)

      goes : (a : Meaning) → GoesOn d (row_told a (window_of d) (next_of d) (i + 1)) f
      goes a = rw (told_more a (window_of d) (next_of d) i, ← there.2) (goes_more d e f _ _ (way.goes a) (on of_window a))

      meant : (r : Result ℕ BlankFault) → r ≡ looked at (world_meaning (world_of e) at) → r ≡ looked at (m at)
      meant r said = said ∙ (λ t. looked at ((way.goes m).same t at))

      -- it has the height h, which was written
      pub way_more : (h : ℕ) → i < length p → Ok h ≡ looked at (world_meaning (world_of e) at) → Way d o (i + 1) f (set p i h)
      way_more h room said = record {
        within = omega (arith, there.0);
        next = kept ∙ way.next;
        long = length-set p i h ∙ way.long;
        past = λ k l. grind (arith, way.past k, get_or-set_other p i k h 0);
        heights = λ k l. grind (arith, way.heights k, looked_ok at (m at) h (meant (Ok h) said), there.2, get_or-set_other p i k h 0, get_or-set_same p i h 0);
        goes = goes;
      }

      -- it is blank, and so the row is refused
      pub way_blank : (x : BlankFault) (r : RowAnswer) → IsErrAnd r (λ y. y ≡ Blank x) → Err x ≡ looked at (world_meaning (world_of e) at) → width_of (window_of d) ≤ length o →
          Placed (window_of d) (next_of d) (length o) r × Answers m (window_of d) (next_of d) r p × Past (window_of d) r o p × ((a : Meaning) → GoesOn d (told_by a (window_of d) (next_of d) r) f)
      way_blank x r back said room =
          let blank = looked_err at (m at) x (meant (Err x) said) in
          let column : column_of (window_of d) x.cell ≡ i = ap (column_of (window_of d)) (blank.0 ∙ there.2) ∙ column_is (window_of d) i (next_of d) in
          rw (err_is r (Blank x) back) (
            (there.1, room, (i, there.0, blank.0 ∙ there.2)),
            ((λ k l. way.heights k (omega arith)), rw blank.0 blank.1),
            (way.long, λ k l. way.past k (omega arith)),
            λ a. rw (append-nil, column) (goes a),
          )
