-- The values of a function at the numbers from a on, as a list. Assumes nothing.
use Rattle.std.proofs.Common.{◌≡◌, ℕ, zero, suc, ◌+◌, ◌<◌, ◌≤◌, List, [], ◌∷◌, map, length, sym, refl, ap, ◌∙◌, subst, inl, inr, ⊎_elim, arith}
use Rattle.std.specs.List.{range_with_len}
use Rattle.std.proofs.lemmas.List.FromFn.{length-map-range_with_len}
use Rattle.std.proofs.lemmas.Bool.{cases_eq}
use Rattle.grid.specs.Counts.{Among, Counts, Once}

module _ {X : Type 0} (f : ℕ → X) where
  -- the number of what stands in the list
  pub numbered : (a n : ℕ) (x : X) → Among (map f (range_with_len a n)) x → (i : ℕ) × (a ≤ i) × (i < a + n) × (f i ≡ x)
  numbered a zero x m = absurd m
  numbered a (suc n) x (inl e) = (a, omega arith, omega arith, e)
  numbered a (suc n) x (inr m) = let r = numbered (a + 1) n x m in (r.0, omega (arith, r.1), omega (arith, r.2), r.3)

  pub among : (a n i : ℕ) → a ≤ i → i < a + n → Among (map f (range_with_len a n)) (f i)
  among a zero i l h = absurd (omega arith)
  among a (suc n) i l h = ⊎_elim (λ e. inl (ap f (sym e))) (λ ne. inr (among (a + 1) n i (omega arith) (omega arith))) (cases_eq i a)

  pub once : (a n : ℕ) → ((i j : ℕ) → i < j → j < a + n → f i ≡ f j → ⊥) → Once (map f (range_with_len a n))
  once a zero differ = tt
  once a (suc n) differ = (
    λ m. let r = numbered (a + 1) n (f a) m in differ a r.0 (omega (arith, r.1)) (omega (arith, r.2)) (sym r.3),
    once (a + 1) n (λ i j l h. differ i j l (omega arith)),
  )

  pub all_numbered : (n : ℕ) (P : X → Type 0) → ((i : ℕ) → i < n → P (f i)) → (x : X) → Among (map f (range_with_len 0 n)) x → P x
  all_numbered n P each x a = let r = numbered 0 n x a in subst P r.3 (each r.0 (omega (arith, r.2)))

  pub among_found : (n : ℕ) (x : X) → (i : ℕ) × (i < n) × (f i ≡ x) → Among (map f (range_with_len 0 n)) x
  among_found n x (i, l, is) = subst (Among (map f (range_with_len 0 n))) is (among 0 n i (omega arith) (omega arith))

  -- so many things are counted as are numbered
  pub counts_numbered : (n : ℕ) (P : X → Type 0) → ((i j : ℕ) → i < n → j < n → f i ≡ f j → i ≡ j) → ((i : ℕ) → i < n → P (f i)) → ((x : X) → P x → (i : ℕ) × (i < n) × (f i ≡ x)) → Counts n P
  counts_numbered n P differ each found = record {
    list = map f (range_with_len 0 n);
    size = length-map-range_with_len f 0 n;
    once = once 0 n (λ i j l h e. omega (arith, differ i j (omega arith) (omega arith) e));
    only = all_numbered n P each;
    all = λ x p. among_found n x (found x p);
  }

-- ---- a count is the only one

module _ {X : Type 0} where
  -- the list without one place of x
  without : (ys : List X) (x : X) → Among ys x → (zs : List X) × (length ys ≡ suc (length zs)) × ((z : X) → Among ys z → (z ≡ x → ⊥) → Among zs z)
  without [] x a = absurd a
  without (y ∷ ys) x (inl e) = (ys, refl, λ z a other. ⊎_elim (λ f. absurd (other (sym f ∙ e))) (λ b. b) a)
  without (y ∷ ys) x (inr a) = let r = without ys x a in (y ∷ r.0, ap suc r.1, λ z b other. ⊎_elim inl (λ c. inr (r.2 z c other)) b)

  pub at_most : (xs ys : List X) → Once xs → ((z : X) → Among xs z → Among ys z) → length xs ≤ length ys
  at_most [] ys once-each all = omega arith
  at_most (x ∷ xs) ys (once-here, once-each) all =
      let r = without ys x (all x (inl refl)) in
      omega (arith, r.1, at_most xs r.0 once-each (λ z b. r.2 z (all z (inr b)) (λ e. once-here (subst (Among xs) e b))))

  pub one_count : (P : X → Type 0) (m n : ℕ) → Counts m P → Counts n P → m ≡ n
  one_count P m n c d =
      let up = at_most c.list d.list c.once (λ z a. d.all z (c.only z a)) in
      omega (arith, c.size, d.size, at_most d.list c.list d.once (λ z a. c.all z (d.only z a)))
