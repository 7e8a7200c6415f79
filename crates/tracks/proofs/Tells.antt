-- What a row tells, by its heights and by the meaning. Assumes nothing.
use Rattle.std.proofs.Common.{◌≡◌, ℕ, zero, suc, ◌+◌, ◌<◌, ◌≤◌, List, [], ◌∷◌, ◌++◌, Bor, length, map, get_or, take, Ok, Err, refl, ap, sym, ◌∙◌, append-nil, ◌⊎◌, inl, inr, arith}
use Rattle.std.specs.List.{range_with_len, zip}
use Rattle.std.proofs.lemmas.List.{get_or-take, length-take-le}
use Rattle.grid.specs.declared.window.Window.{Window}
use Rattle.grid.specs.Meanings.{Meaning}
use Rattle.grid.specs.Windows.{cell_of, width_of}
use Rattle.worlds.specs.declared.event.Event.{Event}
use Rattle.worlds.specs.declared.event.Event.TheVariants.{Asked, Refused, Wrote}
use Rattle.worlds.specs.declared.refusal.BlankFault.{BlankFault}
use Rattle.worlds.specs.declared.refusal.RowRefusal.{RowRefusal}
use Rattle.worlds.specs.declared.refusal.RowRefusal.TheVariants.{Blank, Full, Short}
use Rattle.worlds.specs.Journals.{Journal}
use Rattle.worlds.specs.Rows.{Answers, Placed, RowAnswer, column_of, row_told, told_by}
use Rattle.worlds.proofs.Rowing.{column_is, told_more}
use Rattle.tracks.specs.Runs.{heights_told}

-- what a cell tells of its column and its height
abbrev pub asked_of : Window → ℕ → ℕ × ℕ → Event
asked_of v j p = Asked (cell_of v p.0 j) (Ok p.1)

abbrev pub column_height : ℕ × Bor ℕ → ℕ × ℕ
column_height p = (p.0, p.1.now)

-- what a row tells by its heights
abbrev pub shown : Window → ℕ → List ℕ → RowAnswer → Journal
shown v j p (Ok u) = heights_told v j (take (width_of v) p) ++ Wrote ∷ []
shown v j p (Err (Blank f)) = heights_told v j (take (column_of v f.cell) p) ++ Asked f.cell (Err f.blank) ∷ []
shown v j p (Err Full) = Refused Full ∷ []
shown v j p (Err Short) = Refused Short ∷ []

module _ (m : Meaning) (v : Window) (j : ℕ) where
  -- from the column a on
  from_column : (a w : ℕ) (hs : List ℕ) → length hs ≤ w → ((i k : ℕ) → k ≡ a + i → i < length hs → m (cell_of v k j) ≡ Ok (get_or hs i 0)) →
      map (asked_of v j) (zip (range_with_len a w) hs) ≡ map (λ i. Asked (cell_of v i j) (m (cell_of v i j))) (range_with_len a (length hs))
  from_column a zero [] few means = refl
  from_column a (suc w) [] few means = refl
  from_column a zero (h ∷ hs) few means = absurd (omega arith)
  from_column a (suc w) (h ∷ hs) few means =
      let first = means 0 a (omega arith) (omega arith) in
      let rest = from_column (a + 1) w hs (omega arith) (λ i k is l. means (suc i) k (omega arith) (omega arith)) in
      cc

  front_told : (n : ℕ) (p : List ℕ) → n ≤ width_of v → n ≤ length p → ((i : ℕ) → i < n → m (cell_of v i j) ≡ Ok (get_or p i 0)) → heights_told v j (take n p) ≡ row_told m v j n
  front_told n p wide room heights =
      let long = length-take-le n p room in
      from_column 0 (width_of v) (take n p) (omega arith)
      (λ i k is l.
      let early : k < n = omega arith in
      let same : k ≡ i = omega arith in
      heights k early ∙ ap Ok (ap (λ x. get_or p x 0) same ∙ sym (get_or-take n p i 0 (omega arith))))
      ∙ ap (row_told m v j) long

  -- by the heights it tells what it tells by the meaning
  pub shown_told : (p : List ℕ) (r : RowAnswer) → Placed v j (length p) r → Answers m v j r p → shown v j p r ≡ told_by m v j r
  shown_told p (Ok u) placed a = ap (λ t. t ++ Wrote ∷ []) (front_told (width_of v) p (omega arith) placed.1 a.0)
  shown_told p (Err (Blank f)) (high, wide, (i, l, here)) a =
      let c = column_of v f.cell in
      let is : c ≡ i = ap (column_of v) here ∙ column_is v i j in
      let at : f.cell ≡ cell_of v c j = here ∙ ap (λ x. cell_of v x j) (sym is) in
      let front = front_told c p (omega arith) (omega arith) a.0 in
      let more = told_more m v j c in
      let none = append-nil (row_told m v j (c + 1)) in
      cc
  shown_told p (Err Full) placed a = refl
  shown_told p (Err Short) placed a = refl

-- ---- what a row tells by its heights, as the answer is found

module _ {v w : Window} {j k n : ℕ} (window : w ≡ v) (row : k ≡ j) (out : List ℕ) {r : RowAnswer} where
  pub shown_whole : {u : Unit {0}} → r ≡ Ok u → n ≡ width_of w → heights_told w k (take n out) ++ Wrote ∷ [] ≡ shown v j out r
  shown_whole {u} is wide = rw (is, wide, window, row)

  pub shown_blank : {f : BlankFault} → r ≡ Err (Blank f) → n ≡ column_of w f.cell → heights_told w k (take n out) ++ Asked f.cell (Err f.blank) ∷ [] ≡ shown v j out r
  shown_blank is before = rw (is, before, window, row)

pub shown_refused : (v : Window) (j : ℕ) (out : List ℕ) {r : RowAnswer} {e : RowRefusal} → r ≡ Err e → (e ≡ Full) ⊎ (e ≡ Short) → Refused e ∷ [] ≡ shown v j out r
shown_refused v j out is (inl full) = rw (is, full)
shown_refused v j out is (inr short) = rw (is, short)
