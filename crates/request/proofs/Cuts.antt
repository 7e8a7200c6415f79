-- A list cut at the first place of a byte. Assumes nothing.
use Rattle.std.proofs.Common.{◌≡◌, ℕ, ◌+◌, ◌-◌, ◌<◌, ◌≤◌, List, [], ◌∷◌, ◌++◌, length, get_or, take, drop, refl, subst, arith, rules, take-append-drop}
use Rattle.std.specs.List.{AllByRecursion}
use Rattle.std.proofs.ByRecursion.{All-from_get_or, All-weaker}
use Rattle.std.proofs.lemmas.List.{drop_more, get_or-take, take_rest}
use Rattle.request.specs.Fields.{Printable}

module _ (end : ℕ) where
  abbrev pub Lacks : List ℕ → Type 0
  Lacks bs = AllByRecursion (λ b. b ≡ end → ⊥) bs

  -- the parts of a slice before and after a place
  pub cut_here : (bs : List ℕ) (i : ℕ) → i < length bs → get_or bs i 0 ≡ end → bs ≡ take (i - 0) bs ++ end ∷ take (length bs - (i + 1)) (drop (i + 1) bs)
  cut_here bs i h e = let z : i - 0 ≡ i = omega arith in cc (z, drop_more bs i 0 h, take_rest bs (i + 1), take-append-drop i bs, e)

  -- a slice cut at its first `end`
  pub cut_first : (bs : List ℕ) (i : ℕ) → i < length bs → get_or bs i 0 ≡ end → ((k : ℕ) → k < i → get_or bs k 0 ≡ end → ⊥) → (bs ≡ take i bs ++ end ∷ take (length bs - (i + 1)) (drop (i + 1) bs)) × Lacks (take i bs)
  cut_first bs i h e before = (
    cc (drop_more bs i 0 h, take_rest bs (i + 1), take-append-drop i bs, e),
    All-from_get_or (λ b. b ≡ end → ⊥) (take i bs) 0 (λ k l. search (rules, get_or-take, before)),
  )

  within : (front back : List ℕ) → Lacks (front ++ end ∷ back) → ⊥
  within [] back l = l.0 refl
  within (x ∷ xs) back l = within xs back l.1

  -- no text before an `end` is cut from what has none
  pub not_cut : (bs front back : List ℕ) → Lacks bs → bs ≡ front ++ end ∷ back → ⊥
  not_cut bs front back l e = within front back (subst Lacks e l)

  -- a list is cut at its first `end` in one way
  pub one_cut : (a b r s : List ℕ) → Lacks a → Lacks b → a ++ end ∷ r ≡ b ++ end ∷ s → (a ≡ b) × (r ≡ s)
  one_cut [] [] r s p q e = (refl, cc)
  one_cut [] (y ∷ b) r s p q e = absurd (q.0 (cc))
  one_cut (x ∷ a) [] r s p q e = absurd (p.0 (cc))
  one_cut (x ∷ a) (y ∷ b) r s p q e =
      let head : x ≡ y = cc in
      let tail : a ++ end ∷ r ≡ b ++ end ∷ s = cc in
      let rec = one_cut a b r s p.1 q.1 tail in
      ((λ t. head t ∷ rec.0 t), rec.1)

  pub printable_lacks : (t : List ℕ) → end < 33 → Printable t → Lacks t
  printable_lacks t low p = All-weaker (λ b. 33 ≤ b) (λ b. b ≡ end → ⊥) (λ b h e. omega arith) t p
