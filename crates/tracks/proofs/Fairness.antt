-- The fills of finished drawings, as a journal grows. Assumes nothing.
use Rattle.std.proofs.Common.{◌≡◌, ℕ, ◌⊎◌, [], ◌∷◌, ◌++◌, sym, refl, ◌∙◌, inl, inr, append_assoc, append-nil}
use Rattle.std.specs.List.{AllByRecursion}
use Rattle.std.proofs.lemmas.List.{same_from_push}
use Rattle.grid.specs.declared.chunk.Chunk.{Chunk}
use Rattle.grid.specs.declared.window.Window.{Window}
use Rattle.grid.specs.Counts.{Counts}
use Rattle.worlds.specs.declared.event.Event.{Event}
use Rattle.worlds.specs.declared.event.Event.TheVariants.{Asked, Begun, Cleared, Finished, Passed, Refused, Wrote}
use Rattle.worlds.specs.Journals.{Held, InDrawing, Journal, Missing, Touched}
use Rattle.worlds.proofs.Histories.{all_right}
use Rattle.tracks.specs.Promises.{Between, Fair}

-- what a finish owes
abbrev pub Owed : Journal → Journal → Window → ℕ → Type 0
Owed before during v n = Counts n (Missing (Held before) during) × ((k : Chunk) → Touched during k → Held (before ++ Begun v ∷ during) k)

-- ---- between a begin and its finish

in_drawing : (v : Window) (e : Event) → InDrawing v e → Between e
in_drawing v (Asked c a) i = tt
in_drawing v Cleared i = i
in_drawing v (Begun w) i = i
in_drawing v Wrote i = tt
in_drawing v (Refused r) i = tt
in_drawing v (Finished n) i = i
in_drawing v Passed i = tt

pub drawing_between : (v : Window) (j : Journal) → AllByRecursion (InDrawing v) j → AllByRecursion Between j
drawing_between v [] a = tt
drawing_between v (e ∷ j) a = (in_drawing v e a.0, drawing_between v j a.1)

-- the last begin of a journal stands at one place
one_begin : (x y d f : Journal) (w v : Window) → x ++ Begun w ∷ d ≡ y ++ Begun v ∷ f → AllByRecursion Between d → AllByRecursion Between f → (x ≡ y) × (w ≡ v) × (d ≡ f)
one_begin [] [] d f w v e p q = (refl, cc, cc)
one_begin [] (b ∷ y) d f w v e p q = let rest : d ≡ y ++ Begun v ∷ f = cc in absurd (all_right Between y (Begun v ∷ f) (rw rest at p)).0
one_begin (a ∷ x) [] d f w v e p q = let rest : f ≡ x ++ Begun w ∷ d = cc in absurd (all_right Between x (Begun w ∷ d) (rw rest at q)).0
one_begin (a ∷ x) (b ∷ y) d f w v e p q = let same = one_begin x y d f w v (cc) p q in (cc, same.1, same.2)

-- ---- one more event

-- a journal is empty or ends in an event
last_cases : (j : Journal) → (j ≡ []) ⊎ ((i : Journal) × (e : Event) × (j ≡ i ++ e ∷ []))
last_cases [] = inl refl
last_cases (e ∷ j) = more (last_cases j)
  where
    more : (j ≡ []) ⊎ ((i : Journal) × (f : Event) × (j ≡ i ++ f ∷ [])) → (e ∷ j ≡ []) ⊎ ((i : Journal) × (f : Event) × (e ∷ j ≡ i ++ f ∷ []))
    more (inl none) = inr ([], e, cc)
    more (inr (i, f, is)) = inr (e ∷ i, f, cc)

-- the earlier drawings stay fair, and a finish owes its own
fair_push : (j : Journal) (e : Event) → Fair j →
    ((before during : Journal) (v : Window) (n : ℕ) → j ≡ before ++ Begun v ∷ during → e ≡ Finished n → AllByRecursion Between during → Owed before during v n) →
    Fair (j ++ e ∷ [])
fair_push j e fair new before during after v n is between = cases (last_cases after)
  where
    cases : (after ≡ []) ⊎ ((i : Journal) × (f : Event) × (after ≡ i ++ f ∷ [])) → Owed before during v n
    cases (inl none) =
        let parts = same_from_push j (before ++ Begun v ∷ during) e (Finished n) (rw none at is ∙ sym (append_assoc before (Begun v ∷ during) (Finished n ∷ []))) in
        new before during v n parts.0 parts.1 between
    cases (inr (i, f, some)) =
        let parts = same_from_push j (before ++ Begun v ∷ (during ++ Finished n ∷ i)) e f (rw some at is ∙ simp append_assoc) in
        fair before during i v n parts.0 between

pub fair_other : (j : Journal) (e : Event) → Fair j → ((n : ℕ) → e ≡ Finished n → ⊥) → Fair (j ++ e ∷ [])
fair_other j e fair goes_on = fair_push j e fair (λ before during v n p is b. absurd (goes_on n is))

pub fair_between : (j i : Journal) → Fair j → AllByRecursion Between i → Fair (j ++ i)
fair_between j [] fair between = rw append-nil fair
fair_between j (e ∷ i) fair between =
    rw append_assoc at (fair_between (j ++ e ∷ []) i (fair_other j e fair (λ n is. rw is at between.0)) between.1)

-- the finish of the drawing that is open
pub fair_finish : (before during : Journal) (v : Window) (n : ℕ) → Fair (before ++ Begun v ∷ during) → AllByRecursion Between during → Owed before during v n →
    Fair ((before ++ Begun v ∷ during) ++ Finished n ∷ [])
fair_finish before during v n fair between owed = fair_push (before ++ Begun v ∷ during) (Finished n) fair new
  where
    new : (x d : Journal) (w : Window) (k : ℕ) → before ++ Begun v ∷ during ≡ x ++ Begun w ∷ d → Finished n ≡ Finished k → AllByRecursion Between d → Owed x d w k
    new x d w k is told quiet =
        let same = one_begin before x during d v w is between quiet in
        let count : n ≡ k = cc in
        rw (← same.0, ← same.1, ← same.2, ← count) owed
