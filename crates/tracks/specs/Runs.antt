-- What calls tell, by the meaning alone. Assumes nothing.
--     Stage               a world by itself, or in a drawing of a window whose next row is known
--     heights_told v j hs     what the first cells of row j tell, where hs are their heights
--     RowBy m v j n r     r is the answer to a row where row j is next and the caller's row has n places
--     Does m s c j t      at the stage s the call c tells the journal j and leads to the stage t
--     Runs m s cs j t     the calls cs do so one after another
use Rattle.std.specs.Prelude.{◌≡◌, ℕ, ◌<◌, List, [], ◌∷◌, ◌++◌, map, Ok}
use Rattle.std.specs.List.{range_with_len, zip}
use Rattle.grid.specs.declared.window.Window.{Window}
use Rattle.grid.specs.Meanings.{Meaning}
use Rattle.grid.specs.Windows.{cell_of, width_of}
use Rattle.worlds.specs.declared.event.Event.TheVariants.{Asked, Begun, Cleared, Finished, Passed}
use Rattle.worlds.specs.Journals.{Journal}
use Rattle.worlds.specs.Rows.{BlankOf, Placed, RowAnswer, next_after, told_by, written}
use Rattle.tracks.specs.declared.call.Call.{Call}
use Rattle.tracks.specs.declared.call.Call.TheVariants.{Look, Clear, Begin, Row, Finish}

pub data Stage : Type 0 where
  alone : Stage
  drawing : Window → ℕ → Stage

abbrev pub heights_told : Window → ℕ → List ℕ → Journal
heights_told v j hs = map (λ p. Asked (cell_of v p.0 j) (Ok p.1)) (zip (range_with_len 0 (width_of v)) hs)

pub record RowBy (m : Meaning) (v : Window) (j n : ℕ) (r : RowAnswer) : Type 0 where
  pub placed : Placed v j n r
  pub heights : (i : ℕ) → i < written v r → (h : ℕ) × (m (cell_of v i j) ≡ Ok h)
  pub blank : BlankOf m r

-- a call that cannot be made is passed over: what a finish counts, `Fair` says
abbrev pub Does : Meaning → Stage → Call → Journal → Stage → Type 0
Does m alone (Look c) j t = (j ≡ Asked c (m c) ∷ []) × (t ≡ alone)
Does m alone Clear j t = (j ≡ Cleared ∷ []) × (t ≡ alone)
Does m alone (Begin v) j t = (j ≡ Begun v ∷ []) × (t ≡ drawing v 0)
Does m alone (Row n) j t = (j ≡ Passed ∷ []) × (t ≡ alone)
Does m alone Finish j t = (j ≡ Passed ∷ []) × (t ≡ alone)
Does m (drawing v y) (Look c) j t = (j ≡ Passed ∷ []) × (t ≡ drawing v y)
Does m (drawing v y) Clear j t = (j ≡ Passed ∷ []) × (t ≡ drawing v y)
Does m (drawing v y) (Begin w) j t = (j ≡ Passed ∷ []) × (t ≡ drawing v y)
Does m (drawing v y) (Row n) j t = (r : RowAnswer) × RowBy m v y n r × (j ≡ told_by m v y r) × (t ≡ drawing v (next_after r y))
Does m (drawing v y) Finish j t = (n : ℕ) × (j ≡ Finished n ∷ []) × (t ≡ alone)

abbrev pub Runs : Meaning → Stage → List Call → Journal → Stage → Type 0
Runs m s [] j t = (j ≡ []) × (t ≡ s)
Runs m s (c ∷ cs) j t = (i : Journal) × (u : Stage) × (k : Journal) × Does m s c i u × Runs m u cs k t × (j ≡ i ++ k)
