-- Touched and held chunks, as a journal grows. Assumes nothing.
use Rattle.std.proofs.Common.{◌⊎◌, ◌↔◌, List, [], ◌∷◌, ◌++◌, inl, inr, rules}
use Rattle.std.specs.List.{AllByRecursion}
use Rattle.grid.specs.declared.chunk.Chunk.{Chunk}
use Rattle.worlds.specs.declared.event.Event.{Event}
use Rattle.worlds.specs.Journals.{Held, HeldSince, Journal, Spares, Touched, Touches}

module _ {X : Type 0} (P : X → Type 0) where
  pub all_both : (xs ys : List X) → AllByRecursion P (xs ++ ys) ↔ AllByRecursion P xs × AllByRecursion P ys
  all_both [] ys = search rules
  all_both (x ∷ xs) ys = search (rules, all_both xs ys)

  pub all_right : (xs ys : List X) → AllByRecursion P (xs ++ ys) → AllByRecursion P ys
  all_right xs ys a = ((all_both xs ys).0 a).1

module _ (k : Chunk) where
  pub touched_both : (i j : Journal) → Touched (i ++ j) k ↔ (Touched i k ⊎ Touched j k)
  touched_both [] j = search rules
  touched_both (e ∷ i) j = search (rules, touched_both i j)

  pub touched_left : (i j : Journal) → Touched i k → Touched (i ++ j) k
  touched_left i j t = (touched_both i j).1 (inl t)

  pub touched_right : (i j : Journal) → Touched j k → Touched (i ++ j) k
  touched_right i j t = (touched_both i j).1 (inr t)

  -- held by a journal and then another: held since the first one
  pub held_both : (i j : Journal) → Held (i ++ j) k ↔ HeldSince (Held i) j k
  held_both [] j = search rules
  held_both (e ∷ i) j = search (rules, held_both i j, all_both (Spares k) i j)

  pub held_touched : (j : Journal) → Held j k → Touched j k
  held_touched [] h = h
  held_touched (e ∷ j) h = search (rules, held_touched j)

  -- an event that touches nothing and spares everything, put in anywhere
  pub held_idle : (i j : Journal) (e : Event) → (Touches k e → ⊥) → Spares k e → Held (i ++ e ∷ j) k ↔ Held (i ++ j) k
  held_idle i j e quiet spares = search (rules, held_both i j, held_both i (e ∷ j))

  -- one more event
  pub held_more : (j : Journal) (e : Event) → Held (j ++ e ∷ []) k ↔ (Touches k e ⊎ (Held j k × Spares k e))
  held_more j e = search (rules, held_both j (e ∷ []))
