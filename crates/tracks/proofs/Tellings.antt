-- What runs tell is what the field means, and only nearby ground matters to it. Assumes nothing.
use Rattle.std.proofs.Common.{◌≡◌, ℕ, min, List, [], ◌∷◌, ◌++◌, Ok, Err, sym, refl, ap, ◌∙◌, subst, inl, inr, ⊎_elim, append_assoc, append-nil, arith}
use Rattle.grid.specs.declared.cell.Cell.{Cell}
use Rattle.grid.specs.declared.field.Field.{Ghosts}
use Rattle.grid.specs.declared.window.TheConstants.{LONGEST_SIDE}
use Rattle.grid.specs.declared.window.Window.{Window}
use Rattle.grid.specs.Meanings.{Answer, Meaning}
use Rattle.grid.specs.Piles.{carry}
use Rattle.grid.specs.Windows.{cell_of}
use Rattle.grid.proofs.Counting.{numbered}
use Rattle.grid.proofs.Locality.{locality}
use Rattle.worlds.specs.declared.event.Event.{Event}
use Rattle.worlds.specs.declared.event.Event.TheVariants.{Asked}
use Rattle.worlds.specs.declared.refusal.RowRefusal.TheVariants.{Full, Short, Blank}
use Rattle.worlds.specs.Journals.{Journal}
use Rattle.worlds.specs.Rows.{Placed, RowAnswer, asked, ending, row_told}
use Rattle.worlds.proofs.Unions.{among_cases}
use Rattle.tracks.specs.declared.call.Call.{Call}
use Rattle.tracks.specs.declared.call.Call.TheVariants.{Look, Clear, Begin, Row, Finish}
use Rattle.tracks.specs.declared.run.Phase.{Phase}
use Rattle.tracks.specs.Promises.{Faithful, NearOnly, Told}
use Rattle.tracks.specs.Runs.{Does, RowBy, Runs, Stage, alone, drawing}

-- ---- what is told of a cell is what the field means

module _ (m : Meaning) (c : Cell) (a : Answer) where
  one_told : {e : Event} {j : Journal} → j ≡ e ∷ [] → (e ≡ Asked c a → a ≡ m c) → Told j c a → a ≡ m c
  one_told is means told = ⊎_elim means absurd (rw is at told)

  row_told_true : (v : Window) (y n : ℕ) → Told (row_told m v y n) c a → a ≡ m c
  row_told_true v y n told = let e = (numbered (λ (i : ℕ). Asked (cell_of v i y) (m (cell_of v i y))) 0 n (Asked c a) told).3 in cc

  ending_told : (r : RowAnswer) → Told (ending r) c a → a ≡ m c
  ending_told (Ok u) told = one_told refl (λ e. cc) told
  ending_told (Err (Blank f)) told = absurd told
  ending_told (Err Full) told = one_told refl (λ e. cc) told
  ending_told (Err Short) told = one_told refl (λ e. cc) told

  does_told : (s : Stage) (k : Call) (j : Journal) (t : Stage) → Does m s k j t → Told j c a → a ≡ m c
  does_told alone (Look x) j t does = one_told does.0 (λ e. cc)
  does_told alone Clear j t does = one_told does.0 (λ e. cc)
  does_told alone (Begin v) j t does = one_told does.0 (λ e. cc)
  does_told alone (Row n) j t does = one_told does.0 (λ e. cc)
  does_told alone Finish j t does = one_told does.0 (λ e. cc)
  does_told (drawing v y) (Look x) j t does = one_told does.0 (λ e. cc)
  does_told (drawing v y) Clear j t does = one_told does.0 (λ e. cc)
  does_told (drawing v y) (Begin w) j t does = one_told does.0 (λ e. cc)
  does_told (drawing v y) (Row n) j t (r, by, is, to) = λ told.
      ⊎_elim (row_told_true v y (asked v r)) (ending_told r) (among_cases (row_told m v y (asked v r)) (ending r) (Asked c a) (rw is at told))
  does_told (drawing v y) Finish j t (n, is, to) = one_told is (λ e. cc)

  runs_told : (s : Stage) (ks : List Call) (j : Journal) (t : Stage) → Runs m s ks j t → Told j c a → a ≡ m c
  runs_told s [] j t runs told = absurd (rw runs.0 at told)
  runs_told s (k ∷ ks) j t (i, u, l, does, runs, is) told =
      ⊎_elim (does_told s k i u does) (runs_told u ks l t runs) (among_cases i l (Asked c a) (rw is at told))

-- two runs of any calls on two fields
pub faithful_near : {F G : Type 0} {g : Ghosts F} {h : Ghosts G} {m n : Meaning} {ks ls : List Call} {p : Phase F g} {q : Phase G h} {j l : Journal} →
    Faithful m ks p j → Faithful n ls q l → NearOnly m n j l
faithful_near {m = m} {ks = ks} {j = j} one other rs g h first second c agree a (inl told) =
    let is : a ≡ carry rs g c = rw first at (runs_told m c a alone ks j _ one.answers told) in
    (is, is ∙ locality rs g h c agree)
faithful_near {n = n} {ls = ls} {l = l} one other rs g h first second c agree a (inr told) =
    let is : a ≡ carry rs h c = rw second at (runs_told n c a alone ls l _ other.answers told) in
    (is ∙ sym (locality rs g h c agree), is)

-- one more call of a run
pub runs_more : (m : Meaning) (s : Stage) (ks : List Call) (k : Call) (j i : Journal) (t u : Stage) → Runs m s ks j t → Does m t k i u → Runs m s (ks ++ k ∷ []) (j ++ i) u
runs_more m s [] k j i t u (none, same) does =
    (i, u, [], subst (λ (x : Stage). Does m x k i u) same does, (refl, refl), ap (λ (x : Journal). x ++ i) none ∙ sym (append-nil i))
runs_more m s (l ∷ ks) k j i t u (a, w, b, first, rest, is) does =
    (a, w, b ++ i, first, runs_more m w ks k b i t u rest does, ap (λ (x : Journal). x ++ i) is ∙ append_assoc a b i)

-- no window is wider than the longest side, so that many places of a caller's row serve for more
module _ (v : Window) (j n k : ℕ) (few : n ≡ min k LONGEST_SIDE) where
  still_placed : (r : RowAnswer) → Placed v j n r → Placed v j k r
  still_placed (Ok u) p = let w = v.wide.1 in (p.0, omega (arith, p.1))
  still_placed (Err (Blank f)) p = let w = v.wide.1 in (p.0, omega (arith, p.1), p.2)
  still_placed (Err Full) p = p
  still_placed (Err Short) p = let w = v.wide.1 in (p.0, omega (arith, p.1))

pub more_room : (m : Meaning) (v : Window) (j n k : ℕ) (r : RowAnswer) → n ≡ min k LONGEST_SIDE → RowBy m v j n r → RowBy m v j k r
more_room m v j n k r few by = record { placed = still_placed v j n k few r by.placed; heights = by.heights; blank = by.blank }
