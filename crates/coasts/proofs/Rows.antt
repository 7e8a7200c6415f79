-- What `row` said of a row, and the text of the rows, by what is left of them. Assumes nothing.
use Rattle.std.proofs.Common.{◌≡◌, ℕ, suc, ◌+◌, ◌-◌, ◌<◌, ◌≤◌, List, [], ◌∷◌, ◌++◌, length, get_or, IfOk, Ok, Err, Result, sym, refl, ap, ◌∙◌, append_assoc, arith}
use Rattle.std.specs.List.{range_with_len}
use Rattle.std.specs.Result.{result_or}
use Rattle.std.proofs.lemmas.List.FromFn.{get_or-map-range_with_len, length-map-range_with_len}
use Rattle.grid.specs.declared.blank.Blank.{Blank}
use Rattle.grid.specs.declared.cell.Cell.{Cell}
use Rattle.grid.specs.declared.window.Window.{Window}
use Rattle.grid.specs.Meanings.{Meaning}
use Rattle.grid.specs.Piles.{survey}
use Rattle.grid.specs.Windows.{cell_of, height_of, width_of}
use Rattle.layers.proofs.Surveys.{survey_all, survey_first}
use Rattle.worlds.specs.declared.refusal.RowRefusal.{RowRefusal}
use Rattle.worlds.specs.declared.refusal.RowRefusal.TheVariants.{Full, Short, Blank as IsBlank}
use Rattle.worlds.specs.Refusals.{fault_refusal, row_refusal}
use Rattle.worlds.specs.Rows.{Answers, Placed, column_of}
use Rattle.worlds.proofs.Rowing.{column_is}
use Rattle.coasts.specs.Answers.{drawn, row_cells}
use Rattle.coasts.specs.Texts.{fills_text, refusal_text, row_text}

-- where `r.or(Err(e))` is `Ok`, so was `r`
pub went_well : {T E D P : Type 0} (r : Result T E) (x : T) (e : D) → Ok x ≡ result_or r (Err e) → IfOk r (λ _. P) → P
went_well (Ok y) x e h p = p
went_well (Err y) x e h p = cc

-- ---- one row

module _ (m : Meaning) (v : Window) (j : ℕ) (p : List ℕ) where
  at : (k : ℕ) (d : Cell) → k < width_of v → get_or (row_cells v j) k d ≡ cell_of v k j
  at k d h = get_or-map-range_with_len (λ i. cell_of v i j) 0 (width_of v) k k d h (omega arith)

  long : length (row_cells v j) ≡ width_of v
  long = length-map-range_with_len (λ i. cell_of v i j) 0 (width_of v)

  -- it was written whole
  pub row_whole : length p ≡ width_of v → Answers m v j (Ok tt) p → survey m (row_cells v j) ≡ Ok p
  row_whole room said = survey_all m (row_cells v j) p (room ∙ sym long) (λ k d h.
      let wide : k < width_of v = omega (arith, long) in
      ap m (at k d wide) ∙ said.0 k wide)

  -- it was refused, though it was due and the caller's row has room: then for a blank
  pub row_blank : (e : RowRefusal) (n : ℕ) → j < height_of v → width_of v ≤ n → Placed v j n (Err e) → Answers m v j (Err e) p →
      (b : Blank) × (survey m (row_cells v j) ≡ Err b) × (row_refusal e ≡ fault_refusal)
  row_blank Full n high room placed said = absurd (omega arith)
  row_blank Short n high room placed said = absurd (omega (arith, placed.1))
  row_blank (IsBlank f) n high room (_, _, (i, wide, is)) (before, blank) =
      let column : column_of v f.cell ≡ i = ap (column_of v) is ∙ column_is v i j in (
        f.blank,
        survey_first m (row_cells v j) i f.blank (omega (arith, long))
            (λ k d h. (get_or p k 0, ap m (at k d (omega arith)) ∙ before k (omega arith)))
            (λ d. ap m (at i d wide ∙ sym is) ∙ blank),
        refl,
      )

-- ---- the text of the rows

-- the numbers from i up to n, of which one is taken
pub one_less : (i n : ℕ) → i < n → range_with_len i (n - i) ≡ i ∷ range_with_len (i + 1) (n - (i + 1))
one_less i n h = let e : n - i ≡ suc (n - (i + 1)) = omega arith in ap (range_with_len i) e

pub none_left : (i n : ℕ) → n ≤ i → range_with_len i (n - i) ≡ []
none_left i n h = let z : n - i ≡ 0 = omega arith in ap (range_with_len i) z

module _ (m : Meaning) (v : Window) (n : ℕ) where
  -- the text of the first j rows is written
  abbrev pub Written : ℕ → List ℕ → Type 0
  Written j text = (k : ℕ) → text ++ drawn m v (range_with_len j (n - j)) k ≡ drawn m v (range_with_len 0 n) k

  pub written_none : Written 0 []
  written_none k = let z : n - 0 ≡ n = omega arith in rw z

  pub written_more : (j : ℕ) (text hs : List ℕ) → j < n → survey m (row_cells v j) ≡ Ok hs → Written j text → Written (j + 1) (text ++ row_text hs)
  written_more j text hs l e so k = append_assoc text (row_text hs) _ ∙ (rw (one_less j n l, e) at (so k))

  pub written_blank : (j k : ℕ) (text : List ℕ) (b : Blank) → j < n → survey m (row_cells v j) ≡ Err b → Written j text → text ++ refusal_text 6 ≡ drawn m v (range_with_len 0 n) k
  written_blank j k text b l e so = rw (one_less j n l, e) at (so k)

  pub written_all : (j k : ℕ) (text : List ℕ) → n ≤ j → Written j text → text ++ fills_text k ≡ drawn m v (range_with_len 0 n) k
  written_all j k text l so = rw (none_left j n l) at (so k)
