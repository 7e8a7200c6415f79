-- What tests of the places of a square say. Assumes nothing.
use Rattle.std.proofs.Common.{◌≡◌, ℕ, ◌+◌, ◌-◌, ◌<◌, ◌≤◌, Bool, true, false, cond, ◌↔◌, Decides, map, get_or, refl, ap, ◌∙◌, subst, arith}
use mathlib.Core.List.{map-id}
use Rattle.std.specs.declared.ops.Range.{Range}
use Rattle.std.specs.List.{list_all, list_any, range_with_len}
use Rattle.std.proofs.lemmas.Bool.{false≢true}
use Rattle.std.proofs.lemmas.Bool.Decides.{Decides-by_and, Decides-by_or, Decides-like, same_from_decides}
use Rattle.std.proofs.lemmas.List.FromFn.{get_or-range_with_len, length-range_with_len}
use Rattle.rules.specs.Places.{places}

module _ (p : ℕ → Bool) (P : ℕ → Type 0) (is : (i : ℕ) → Decides (p i) (P i)) where
  -- some number passes, of n from a on
  any_in : (a n : ℕ) → Decides (list_any p (range_with_len a n)) ((i : ℕ) × (a ≤ i) × (i < a + n) × P i)
  any_in a n =
      let size = length-range_with_len a n in
      let at : (k d : ℕ) → k < n → get_or (range_with_len a n) k d ≡ a + k = get_or-range_with_len a n in
      Decides-like
      _
      (λ (k, h, e). (a + k, omega arith, omega arith, subst P (at k 0 (omega arith)) (e 0)))
      (λ (i, from, to, e). (i - a, omega arith, λ d. subst P (omega (arith, at (i - a) d (omega arith))) e))
      (Decides-by_or p P (list_any p) is refl (λ _ _. refl) (range_with_len a n))

  pub some_place : (n : ℕ) → Decides (list_any p (places n)) ((i : ℕ) × (i < n) × P i)
  unfolding places
  some_place n = Decides-like _ (λ (i, _, h, e). (i, omega arith, e)) (λ (i, h, e). (i, omega arith, omega arith, e)) (any_in 0 n)

  pub each_place : (n : ℕ) → Decides (list_all p (places n)) ((i : ℕ) → i < n → P i)
  unfolding places
  each_place n =
      let size = length-range_with_len 0 n in
      let at : (k d : ℕ) → k < n → get_or (range_with_len 0 n) k d ≡ k = λ k d h. omega (arith, get_or-range_with_len 0 n k d h) in
      Decides-like
      _
      (λ f i h. subst P (at i 0 h) (f i 0 (omega arith)))
      (λ f k d h. subst P (omega (arith, at k d (omega arith))) (f k (omega arith)))
      (Decides-by_and p P (list_all p) is refl (λ _ _. refl) (range_with_len 0 n))

  -- a search along a range need not look where there can be none
  pub found_in : (s : Range ℕ) (from to n : ℕ) → s ≡ record { start = from; end = to } → to ≤ n → ((i : ℕ) → i < n → P i → (from ≤ i) × (i < to)) → list_any p (map (λ i. i) (range_with_len s.start (s.end - s.start))) ≡ list_any p (places n)
  found_in s from to n e fits only =
      let here =
      Decides-like
      (list_any p (range_with_len from (to - from)))
      (λ (i, after, before, e). (i, omega arith, e))
      (λ (i, h, e). let r = only i h e in (i, r.0, omega arith, e))
      (any_in from (to - from)) in
      rw e (ap (list_any p) (map-id (range_with_len from (to - from))) ∙ same_from_decides _ _ here (some_place n))

-- a test that answers 1 or 0
pub answers_stand : {P : Type 0} (b : Bool) → Decides b P → ((◌≡◌ {A = ℕ} (cond b 1 0) 1) ↔ P) × ((◌≡◌ {A = ℕ} (cond b 1 0) 0) ↔ (P → ⊥))
answers_stand true is = ((λ _. is.0 refl, λ _. refl), (λ e. absurd (omega arith), λ none. absurd (none (is.0 refl))))
answers_stand false is = ((λ e. absurd (omega arith), λ p. absurd (false≢true (is.1 p))), (λ _ p. false≢true (is.1 p), λ _. refl))
