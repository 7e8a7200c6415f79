-- A drawing and its text, row by row. Assumes nothing.
use Rattle.std.proofs.Common.{◌≡◌, ℕ, zero, suc, ◌+◌, ◌*◌, ◌<◌, ◌≤◌, List, [], ◌∷◌, ◌++◌, map, length, Ok, Err, sym, refl, ap, ◌∙◌, subst, inl, inr, ⊎_elim, arith}
use mathlib.Core.Path.{transport}
use Rattle.std.specs.List.{range_with_len, AllByRecursion}
use Rattle.std.proofs.lemmas.Bool.{cases_eq}
use Rattle.grid.specs.declared.chunk.Chunk.{Chunk}
use Rattle.grid.specs.declared.field.Field.{Ghosts}
use Rattle.grid.specs.declared.window.Window.{Window}
use Rattle.grid.specs.Counts.{Counts}
use Rattle.grid.specs.Meanings.{Meaning}
use Rattle.grid.specs.Places.{chunk_of}
use Rattle.grid.specs.Windows.{cell_of, height_of, width_of}
use Rattle.grid.proofs.Chunks.{columns, counts_chunks, rows}
use Rattle.worlds.specs.declared.drawing.Drawing.{Drawing}
use Rattle.worlds.specs.declared.event.Event.{Event}
use Rattle.worlds.specs.declared.event.Event.TheVariants.{Asked, Wrote}
use Rattle.worlds.specs.declared.refusal.RowRefusal.{RowRefusal}
use Rattle.worlds.specs.Drawings.{Underway, next_of, window_of, world_of}
use Rattle.worlds.specs.Journals.{Held, InDrawing, Journal, Missing, Touched, Touches}
use Rattle.worlds.specs.Refusals.{row_refusal}
use Rattle.worlds.specs.Rows.{Answers, Placed, RowAnswer, row_told, told_by}
use Rattle.worlds.specs.Worlds.{world_meaning}
use Rattle.worlds.proofs.Histories.{touched_left, touched_right}
use Rattle.worlds.proofs.Stretches.{cell_inside, drawing_touches}
use Rattle.coasts.specs.Answers.{Drawn}
use Rattle.coasts.specs.Texts.{fills_text, refusal_text, row_text}
use Rattle.coasts.proofs.Rows.{Written, row_blank, row_whole, written_all, written_blank, written_more, written_none}

-- one of the events numbered from a on touches k
touched_at : (f : ℕ → Event) (k : Chunk) (a n i : ℕ) → a ≤ i → i < a + n → Touches k (f i) → Touched (map f (range_with_len a n)) k
touched_at f k a zero i l h t = absurd (omega arith)
touched_at f k a (suc n) i l h t = ⊎_elim
    (λ e. inl (subst (λ (b : ℕ). Touches k (f b)) e t))
    (λ ne. inr (touched_at f k (a + 1) n i (omega arith) (omega arith) t))
    (cases_eq i a)

-- a whole row touches the chunk of each of its cells
row_touches : (m : Meaning) (v : Window) (i j : ℕ) → i < width_of v → j < height_of v → Touched (told_by m v j (Ok tt)) (chunk_of (cell_of v i j))
row_touches m v i j wide high =
    let k = chunk_of (cell_of v i j) in
    touched_left k (row_told m v j (width_of v)) (Wrote ∷ [])
    (touched_at (λ a. Asked (cell_of v a j) (m (cell_of v a j))) k 0 (width_of v) i (omega arith) (omega arith)
    (cell_inside v (cell_of v i j) (i, j, wide, high, refl), refl))

module _ {F : Type 0} {g : Ghosts F} (m : Meaning) (v : Window) where
  -- the first j rows of the window are drawn and written
  pub record Reached (j : ℕ) (d : Drawing F g) (text : List ℕ) : Type 0 where
    pub window : window_of d ≡ v
    pub next : next_of d ≡ j
    pub during : Journal
    pub underway : Underway m d [] during
    pub touched : (a b : ℕ) → a < width_of v → b < j → Touched during (chunk_of (cell_of v a b))
    pub written : Written m v (height_of v) j text

  pub reached_none : (d : Drawing F g) (text : List ℕ) → window_of d ≡ v → next_of d ≡ 0 → Underway m d [] [] → text ≡ [] → Reached 0 d text
  reached_none d text window next underway none = record {
    window = window;
    next = next;
    during = [];
    underway = underway;
    touched = λ a b wide low. absurd (omega arith);
    written = subst (Written m v (height_of v) 0) (sym none) (written_none m v (height_of v));
  }

  module _ (j : ℕ) (d : Drawing F g) (text : List ℕ) (so : Reached j d text) where
    -- what `row` says where it answers r ..
    abbrev Said : RowAnswer → List ℕ → Type 0
    Said r p = Answers (world_meaning (world_of d)) (window_of d) (next_of d) r p

    -- .. is said of row j of the window
    said_here : (r : RowAnswer) (p : List ℕ) → Said r p → Answers m v j r p
    said_here r p said = transport (λ t. Answers (so.underway.means t) (so.window t) (so.next t) r p) said

    -- row j was written whole
    pub reached_more : (e : Drawing F g) (p after : List ℕ) → j < height_of v → length p ≡ width_of v → Said (Ok tt) p →
        window_of e ≡ window_of d → next_of e ≡ next_of d + 1 →
        ((before during : Journal) → Underway m d before during → Underway m e before (during ++ told_by m (window_of d) (next_of d) (Ok tt))) →
        after ≡ text ++ row_text p → Reached (j + 1) e after
    reached_more e p after high room said window next history is =
        let told = told_by m v j (Ok tt) in
        record {
          window = window ∙ so.window;
          next = next ∙ ap (λ (i : ℕ). i + 1) so.next;
          during = so.during ++ told;
          underway = subst (λ (l : Journal). Underway m e [] (so.during ++ l)) (λ t. told_by m (so.window t) (so.next t) (Ok tt)) (history [] so.during so.underway);
          touched = λ a b wide low. ⊎_elim
              (λ q. touched_right _ so.during told (subst (λ (i : ℕ). Touched told (chunk_of (cell_of v a i))) (sym q) (row_touches m v a j wide high)))
              (λ ne. touched_left _ so.during told (so.touched a b wide (omega arith)))
              (cases_eq b j);
          written = subst (Written m v (height_of v) (j + 1)) (sym is) (written_more m v (height_of v) j text _ high (row_whole m v j p room (said_here (Ok tt) p said)) so.written);
        }

    -- row j was refused, with the number k
    pub drawn_blank : (e : RowRefusal) (n k : ℕ) (p out : List ℕ) → j < height_of v → width_of v ≤ n → Placed (window_of d) (next_of d) n (Err e) → Said (Err e) p →
        k ≡ row_refusal e → out ≡ text ++ refusal_text k → Drawn m v out
    drawn_blank e n k p out high room placed said number is =
        let fills = rows v * columns v in
        let blank = row_blank m v j p e n high room (transport (λ t. Placed (so.window t) (so.next t) n (Err e)) placed) (said_here (Err e) p said) in
        record {
          fills = fills;
          counted = counts_chunks v;
          is =
              is
              ∙ ap (λ (i : ℕ). text ++ refusal_text i) (number ∙ blank.2)
              ∙ written_blank m v (height_of v) j fills text blank.0 high blank.1 so.written;
        }

    -- all rows are written: the drawing touched what the window touches
    pub drawn_all : (n : ℕ) (out : List ℕ) → height_of v ≤ j → ((during : Journal) → Underway m d [] during → Counts n (Missing (Held []) during)) →
        out ≡ text ++ fills_text n → Drawn m v out
    drawn_all n out ended exact is =
        let count = exact so.during so.underway in
        let within = subst (λ (w : Window). AllByRecursion (InDrawing w) so.during) so.window so.underway.table.within in
        record {
          fills = n;
          counted = record {
            list = count.list;
            size = count.size;
            once = count.once;
            only = λ k a. drawing_touches v k so.during within (count.only k a).0;
            all = λ k (a, b, wide, high, lies). count.all k (subst (Touched so.during) lies (so.touched a b wide (omega arith)), λ held. held);
          };
          is = is ∙ written_all m v (height_of v) j n text ended so.written;
        }
