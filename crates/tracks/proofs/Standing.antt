-- Worlds and drawings that stand as their journals say, call by call. Assumes nothing.
use Rattle.std.proofs.Common.{◌≡◌, ℕ, true, ◌↔◌, List, [], ◌∷◌, ◌++◌, sym, refl, ap, ◌∙◌, subst, append_assoc, length, min, get_or, ◌⊎◌, inl, inr, add-zero}
use Rattle.grid.specs.declared.cell.Cell.{Cell}
use Rattle.grid.specs.declared.chunk.Chunk.{Chunk}
use Rattle.grid.specs.declared.field.Field.{Ghosts}
use Rattle.grid.specs.declared.window.TheConstants.{LONGEST_SIDE}
use Rattle.grid.specs.declared.window.Window.{Window}
use Rattle.grid.specs.Counts.{Counts}
use Rattle.grid.specs.Meanings.{Answer, Meaning}
use Rattle.tables.specs.declared.table.Table.{Table}
use Rattle.tables.specs.Tables.{Right, holds}
use Rattle.worlds.specs.declared.drawing.Drawing.{Drawing}
use Rattle.worlds.specs.declared.event.Event.{Event}
use Rattle.worlds.specs.declared.event.Event.TheVariants.{Asked, Begun, Cleared, Finished, Passed}
use Rattle.worlds.specs.declared.world.World.{World}
use Rattle.worlds.specs.Drawings.{Underway, fills_of, next_of, window_of, world_of}
use Rattle.worlds.specs.Journals.{Held, InDrawing, Journal, Missing, Touched}
use Rattle.worlds.specs.Rows.{Answers, Past, Placed, RowAnswer, next_after, told_by}
use Rattle.worlds.specs.Worlds.{Fits, world_meaning, held_by, table_of}
use Rattle.worlds.proofs.Fitting.{fits_idle}
use Rattle.worlds.proofs.Histories.{all_right, held_both, held_idle}
use Rattle.worlds.proofs.Stretches.{stretch_idle, stretch_more}
use Rattle.tracks.specs.declared.call.Call.{Call}
use Rattle.tracks.specs.declared.call.Call.TheVariants.{Look, Clear, Begin, Row, Finish}
use Rattle.tracks.specs.declared.run.Phase.{Phase}
use Rattle.tracks.specs.declared.run.Phase.TheVariants.{Alone, Open}
use Rattle.tracks.specs.Promises.{Draws, Fair, Faithful, Holds, Sound, Stands, stage_of, table_in, Turns}
use Rattle.tracks.specs.Runs.{Does, Runs, alone, drawing}
use Rattle.tracks.proofs.Fairness.{drawing_between, fair_between, fair_finish, fair_other}
use Rattle.tracks.proofs.Tellings.{more_room, runs_more}
use Rattle.tracks.proofs.Tells.{shown, shown_told}

-- ---- calls that cannot be made

passed_alone : (m : Meaning) (k : Call) → ((n : ℕ) × (k ≡ Row n)) ⊎ (k ≡ Finish) → Does m alone k (Passed ∷ []) alone
passed_alone m k (inl row) = rw row.1 (refl, refl)
passed_alone m k (inr finish) = rw finish (refl, refl)

passed_drawing : (m : Meaning) (k : Call) (v : Window) (y : ℕ) → ((c : Cell) × (k ≡ Look c)) ⊎ ((k ≡ Clear) ⊎ ((w : Window) × (k ≡ Begin w))) → Does m (drawing v y) k (Passed ∷ []) (drawing v y)
passed_drawing m k v y (inl look) = rw look.1 (refl, refl)
passed_drawing m k v y (inr (inl clear)) = rw clear (refl, refl)
passed_drawing m k v y (inr (inr begin)) = rw begin.1 (refl, refl)

module _ {F : Type 0} {g : Ghosts F} (m : Meaning) where
  -- ---- a world by itself

  -- it stays so, and tells one event
  turns_alone : (k : Call) (i : Journal) (e : Event) {w u : World F g} → ((n : ℕ) → e ≡ Finished n → ⊥) → Does m alone k (e ∷ []) alone → (Fits m w i → Fits m u (i ++ e ∷ [])) →
      Turns m (Alone w) k i (Alone u) (i ++ e ∷ [])
  turns_alone k i e goes_on does fits s = (e ∷ [], refl, does, (fits s.0, fair_other i e s.1 goes_on))

  pub turns_look : (at : Cell) (i : Journal) (a : Answer) {w u : World F g} → (Fits m w i → a ≡ m at) → (Fits m w i → Fits m u (i ++ Asked at (m at) ∷ [])) →
      Turns m (Alone w) (Look at) i (Alone u) (i ++ Asked at a ∷ [])
  turns_look at i a told fits s = rw (told s.0) (turns_alone (Look at) i (Asked at (m at)) (λ n is. cc) (refl, refl) fits s)

  pub turns_clear : (i : Journal) {w u : World F g} → (Fits m w i → Fits m u (i ++ Cleared ∷ [])) → Turns m (Alone w) Clear i (Alone u) (i ++ Cleared ∷ [])
  turns_clear i = turns_alone Clear i Cleared (λ n is. cc) (refl, refl)

  pub turns_passed_alone : (k : Call) (i : Journal) (w : World F g) → ((n : ℕ) × (k ≡ Row n)) ⊎ (k ≡ Finish) → Turns m (Alone w) k i (Alone w) (i ++ Passed ∷ [])
  turns_passed_alone k i w is = turns_alone k i Passed (λ n eq. cc) (passed_alone m k is) (fits_idle m w i Passed (λ c z. z) (λ c. tt))

  pub turns_begin : (v : Window) (i : Journal) {w : World F g} {d : Drawing F g} → (window_of d ≡ v) × ((next_of d ≡ 0) × (fills_of d ≡ 0)) → (Fits m w i → Underway m d i []) →
      Turns m (Alone w) (Begin v) i (Open d) (i ++ Begun v ∷ [])
  turns_begin v i start underway s = (
    Begun v ∷ [],
    refl,
    (refl, λ t. drawing (start.0 t) (start.1.0 t)),
    ((i, [], ap (λ (x : Window). i ++ Begun x ∷ []) (sym start.0), underway s.0), fair_other i (Begun v) s.1 (λ n is. cc)),
  )

  -- ---- a drawing

  -- events of a drawing
  sound_drawing : (d e : Drawing F g) (j i : Journal) (s : Stands m (Open d) j) → window_of e ≡ window_of d → Underway m e s.0 (s.1 ++ i) → Fair j →
      Sound m (Open e) (j ++ i)
  sound_drawing d e j i (before, during, is, _) same u fair = (
    (before, during ++ i, ap (λ (x : Journal). x ++ i) is ∙ append_assoc before (Begun (window_of d) ∷ during) i ∙ ap (λ (x : Window). before ++ Begun x ∷ (during ++ i)) (sym same), u),
    fair_between j i fair (drawing_between (window_of e) i (all_right (InDrawing (window_of e)) during i u.table.within)),
  )

  -- a row into n places, or as many of them as serve
  pub draws_row : (n : ℕ) (i j : Journal) {d e : Drawing F g} (out p : List ℕ) (r : RowAnswer) →
      Placed (window_of d) (next_of d) (length out) r → Answers (world_meaning (world_of d)) (window_of d) (next_of d) r p → Past (window_of d) r out p → next_of e ≡ next_after r (next_of d) → window_of e ≡ window_of d →
      ((before during : Journal) → Underway m d before during → Underway m e before (during ++ told_by m (window_of d) (next_of d) r)) → length out ≡ min n LONGEST_SIDE →
      j ≡ i ++ shown (window_of d) (next_of d) p r → (before during : Journal) → Draws m n before during d i (Open e) j
  draws_row n i j {d} {e} out p r placed answers past after window history room told before during u =
      let v = window_of d in
      let y = next_of d in
      let answer : Answers m v y r p = subst (λ (x : Meaning). Answers x v y r p) u.means answers in
      let next : drawing (window_of e) (next_of e) ≡ drawing v (next_after r y) = λ t. drawing (window t) (after t) in (
        told_by m v y r,
        told ∙ ap (λ x. i ++ x) (shown_told m v y p r (rw past.0 placed) answer),
        (r, more_room m v y _ n r room (record { placed = placed; heights = λ k l. (get_or p k 0, answer.0 k l); blank = answer.1 }), refl, next),
        history before during u,
        window,
      )

  pub turns_row : (n : ℕ) (i j : Journal) (d : Drawing F g) (q : Phase F g) → ((before during : Journal) → Draws m n before during d i q j) →
      Turns m (Open d) (Row n) i q j
  turns_row n i j d (Alone w) draws s = absurd (draws [] [])
  turns_row n i j d (Open e) draws s =
      let (es, is, does, u, window) = draws s.0.0 s.0.1 s.0.3 in
      (es, is, does, rw is (sound_drawing d e i es s.0 window u s.1))

  pub turns_passed : (k : Call) (i j : Journal) (d : Drawing F g) → ((c : Cell) × (k ≡ Look c)) ⊎ ((k ≡ Clear) ⊎ ((w : Window) × (k ≡ Begin w))) → j ≡ i ++ Passed ∷ [] →
      Turns m (Open d) k i (Open d) j
  turns_passed k i j d is told s =
      let u = s.0.3 in
      let idle = stretch_idle (window_of d) Passed (held_by (world_of d)) (λ c t. t) (λ c. tt) tt in
      let more = stretch_more (window_of d) (Held s.0.0) s.0.1 (Passed ∷ []) (held_by (world_of d)) (held_by (world_of d)) (fills_of d) 0 u.table idle in (
        Passed ∷ [],
        told,
        passed_drawing m k (window_of d) (next_of d) is,
        rw told (sound_drawing d d i (Passed ∷ []) s.0 refl (record { means = u.means; table = rw add-zero at more }) s.1),
      )

  pub turns_finish : (i j : Journal) {d : Drawing F g} {w : World F g} {n : ℕ} → w ≡ world_of d →
      ((before during : Journal) → Underway m d before during → Counts n (Missing (Held before) during)) → ((before during : Journal) → Underway m d before during → (k : Chunk) → Touched during k → held_by w k ≡ true) →
      ((before during : Journal) → Underway m d before during → Fits m w (before ++ Begun (window_of d) ∷ (during ++ Finished n ∷ []))) → j ≡ i ++ Finished n ∷ [] → Turns m (Open d) Finish i (Alone w) j
  turns_finish i j {d} {w} {n} world exact holds history told ((before, during, is, u), fair) =
      let v = window_of d in
      let held = λ (k : Chunk) (t : Touched during k). (held_idle k before during (Begun v) (λ z. z) tt).1 ((held_both k before during).1 ((u.table.held k).0 (rw world at (holds before during u k t)))) in
      let between = drawing_between v during u.table.within in (
        Finished n ∷ [],
        told,
        (n, refl, refl),
        rw (told, is) (
          rw append_assoc (history before during u),
          fair_finish before during v n (rw is at fair) between (exact before during u, held),
        ),
      )

  -- ---- a run

  faithful : (cs : List Call) (p : Phase F g) (j : Journal) → Runs m alone cs j (stage_of p) → Sound m p j → Faithful m cs p j
  faithful cs p j runs s = record {
    answers = runs;
    fills = s.1;
    held = kept p s.0;
    stands = s.0;
  }
    where
      -- in a table that is right, an address stands for the numbers too
      address : (t : Table) (k : Chunk) → Right t m → (holds t k ≡ true) ↔ Holds m t k
      address t k right = ((λ h. (h, λ c is. right c (subst (λ (x : Chunk). holds t x ≡ true) (sym is) h))), λ h. h.0)

      kept : (p : Phase F g) → Stands m p j → (k : Chunk) → Holds m (table_in p) k ↔ Held j k
      kept (Alone w) f k =
          let right = subst (Right (table_of w)) f.means w.cache.right in
          (λ h. (f.held k).0 h.0, λ h. (address (table_of w) k right).0 ((f.held k).1 h))
      kept (Open d) (before, during, is, u) k =
          let t = table_of (world_of d) in
          let right = subst (Right t) u.means d.world.cache.right in
          subst (λ (x : Journal). Holds m t k ↔ Held x k) (sym is) (
            λ h. (held_idle k before during (Begun (window_of d)) (λ z. z) tt).1 ((held_both k before during).1 ((u.table.held k).0 h.0)),
            λ h. (address t k right).0 ((u.table.held k).1 ((held_both k before during).0 ((held_idle k before during (Begun (window_of d)) (λ z. z) tt).0 h))),
          )

  pub faithful_more : (cs : List Call) (k : Call) {p q : Phase F g} {i j : Journal} → Faithful m cs p i → Turns m p k i q j → Faithful m (cs ++ k ∷ []) q j
  faithful_more cs k {p} {q} {i} {j} f turns =
      let turned = turns (f.stands, f.fills) in
      faithful (cs ++ k ∷ []) q j (rw turned.1 (runs_more m alone cs k i turned.0 (stage_of p) (stage_of q) f.answers turned.2)) turned.3
