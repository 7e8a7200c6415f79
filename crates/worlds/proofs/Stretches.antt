-- Stretches of a drawing, one after another: what is held, and how many fills. Assumes nothing.
use Rattle.std.proofs.Common.{◌≡◌, ℕ, ◌+◌, ◌≤◌, Bool, true, not, ◌&&◌, ◌↔◌, [], ◌∷◌, ◌++◌, ap, inl, rules, arith}
use mir.Val.{bool_byte}
use Rattle.std.specs.List.{AllByRecursion}
use Rattle.std.proofs.lemmas.Bool.{cases_Bool}
use Rattle.grid.specs.declared.cell.Cell.{Cell}
use Rattle.grid.specs.declared.chunk.Chunk.{Chunk}
use Rattle.grid.specs.declared.window.Window.{Window}
use Rattle.grid.specs.Meanings.{Answer}
use Rattle.grid.specs.Places.{chunk_of, inside}
use Rattle.grid.specs.Windows.{Touches as WindowTouches, corner_of, height_of, width_of}
use Rattle.grid.proofs.Chunks.{few_chunks, one_slot}
use Rattle.grid.proofs.Rectangles.{all_inside}
use Rattle.tables.specs.Tables.{touch}
use Rattle.worlds.specs.declared.event.Event.{Event}
use Rattle.worlds.specs.declared.event.Event.TheVariants.{Asked, Cleared, Begun, Wrote, Refused, Finished, Passed}
use Rattle.worlds.specs.Journals.{Held, HeldSince, InDrawing, Journal, Missing, OfWindow, Spares, Stretch, Touched, Touches}
use Rattle.worlds.proofs.Fitting.{touch_held}
use Rattle.worlds.proofs.Histories.{all_both, held_both, held_touched, touched_both}
use Rattle.worlds.proofs.Unions.{counts_both, counts_none, counts_one}

-- held by a journal and then another, where some were held before
since_both : (H : Chunk → Type 0) (k : Chunk) (i j : Journal) → HeldSince H (i ++ j) k ↔ HeldSince (HeldSince H i) j k
since_both H k i j = search (rules, held_both k i j, all_both (Spares k) i j)

module _ (v : Window) where
  -- ---- the chunks that the window touches

  pub cell_inside : (c : Cell) → OfWindow v c → inside c ≡ true
  cell_inside c (i, j, west, north, is) =
      rw (← is) (all_inside (corner_of v) (width_of v) (height_of v) v.wide.0 v.high.0 v.first v.last i j west north)

  chunk_touched : (c : Cell) → OfWindow v c → WindowTouches v (chunk_of c)
  chunk_touched c (i, j, west, north, is) = (i, j, west, north, ap chunk_of is)

  event_touches : (k : Chunk) (e : Event) → InDrawing v e → Touches k e → WindowTouches v k
  event_touches k e within t = search (rules, chunk_touched)

  pub drawing_touches : (k : Chunk) (j : Journal) → AllByRecursion (InDrawing v) j → Touched j k → WindowTouches v k
  drawing_touches k [] within t = absurd t
  drawing_touches k (e ∷ j) within t = search (rules, event_touches k e, drawing_touches k j)

  event_spares : (k : Chunk) → WindowTouches v k → (e : Event) → InDrawing v e → Spares k e
  event_spares k w (Asked c a) within = λ _ same. one_slot v (chunk_of c) k (chunk_touched c within) w same
  event_spares k w Cleared within = within
  event_spares k w (Begun x) within = tt
  event_spares k w Wrote within = tt
  event_spares k w (Refused n) within = tt
  event_spares k w (Finished n) within = tt
  event_spares k w Passed within = tt

  -- a drawing spares each of them ..
  drawing_spares : (k : Chunk) → WindowTouches v k → (j : Journal) → AllByRecursion (InDrawing v) j → AllByRecursion (Spares k) j
  drawing_spares k w [] within = tt
  drawing_spares k w (e ∷ j) within = (event_spares k w e within.0, drawing_spares k w j within.1)

  -- .. so what it touches it holds
  drawing_holds : (k : Chunk) (j : Journal) → AllByRecursion (InDrawing v) j → Touched j k → Held j k
  drawing_holds k [] within t = absurd t
  drawing_holds k (e ∷ j) within t = search (rules, event_touches k e, drawing_spares k, drawing_holds k j)

  -- ---- stretches

  pub stretch_more : (H : Chunk → Type 0) (i j : Journal) (I K : Chunk → Bool) (a b : ℕ) →
      Stretch v H i I a → Stretch v (λ k. I k ≡ true) j K b → Stretch v H (i ++ j) K (a + b)
  stretch_more H i j I K a b s t = record {
    within = (all_both (InDrawing v) i j).1 (s.within, t.within);
    held = λ k. search (rules, since_both H k i j, s.held k, t.held k);
    fills = counts_both (Missing H i) (Missing (λ k. I k ≡ true) j) (Missing H (i ++ j)) a b s.fills t.fills
        (λ k p q. search (rules, s.held k, drawing_holds k i s.within))
        (λ k. search (rules, s.held k, touched_both k i j, held_touched k i, cases_Bool (I k), still k));
  }
    where
      -- what the second stretch touches, the first one spares
      still : (k : Chunk) → Touched j k → AllByRecursion (Spares k) i
      still k u = drawing_spares k (drawing_touches k j t.within u) i s.within

  -- one asked cell: a fill where its chunk was not held
  pub stretch_asked : (c : Cell) (a : Answer) (I K : Chunk → Bool) (filled : Bool) →
      OfWindow v c → ((k : Chunk) → K k ≡ touch c I k) → filled ≡ (inside c && not (I (chunk_of c))) →
      Stretch v (λ k. I k ≡ true) (Asked c a ∷ []) K (bool_byte filled)
  stretch_asked c a I K filled here held is =
      let rim : inside c ≡ true = cell_inside c here in
      record {
        within = (here, tt);
        held = λ k. rw (held k) (touch_held c a I k);
        fills = counts_one filled (chunk_of c) (Missing (λ k. I k ≡ true) (Asked c a ∷ []))
            (λ t. grind arith)
            (λ k m. grind arith);
      }

  -- an event that asks nothing
  pub stretch_idle : (e : Event) (I : Chunk → Bool) → ((k : Chunk) → Touches k e → ⊥) → ((k : Chunk) → Spares k e) → InDrawing v e →
      Stretch v (λ k. I k ≡ true) (e ∷ []) I 0
  stretch_idle e I quiet spares within = record {
    within = (within, tt);
    held = λ k. search (rules, quiet k, spares k);
    fills = counts_none (Missing (λ k. I k ≡ true) (e ∷ [])) (λ k m. search (rules, quiet k));
  }

  pub stretch_few : (H : Chunk → Type 0) (j : Journal) (I : Chunk → Bool) (n : ℕ) → Stretch v H j I n → n ≤ 64
  stretch_few H j I n s = few_chunks v n (Missing H j) (λ k m. drawing_touches k j s.within m.0) s.fills

  -- what a drawing touches is held in the end
  pub stretch_holds : (H : Chunk → Type 0) (j : Journal) (I : Chunk → Bool) (n : ℕ) → Stretch v H j I n → (k : Chunk) → Touched j k → I k ≡ true
  stretch_holds H j I n s k t = (s.held k).1 (inl (drawing_holds k j s.within t))
