-- Counts of nothing, of one thing at most, and of two properties together. Assumes nothing.
use Rattle.std.proofs.Common.{◌≡◌, ℕ, ◌+◌, Bool, true, false, ◌⊎◌, ◌↔◌, List, [], ◌∷◌, ◌++◌, refl, rules, arith}
use mir.Val.{bool_byte}
use Rattle.std.proofs.lemmas.List.{length-append}
use Rattle.grid.specs.Counts.{Among, Counts, Once}

module _ {X : Type 0} where
  among_both : (xs ys : List X) (x : X) → Among (xs ++ ys) x ↔ (Among xs x ⊎ Among ys x)
  among_both [] ys x = search rules
  among_both (y ∷ xs) ys x = search (rules, among_both xs ys x)

  pub among_cases : (xs ys : List X) (x : X) → Among (xs ++ ys) x → Among xs x ⊎ Among ys x
  among_cases xs ys x = (among_both xs ys x).0

  -- two lists with nothing in common, one after the other
  once_both : (xs ys : List X) → Once xs → Once ys → ((x : X) → Among xs x → Among ys x → ⊥) → Once (xs ++ ys)
  once_both [] ys p q apart = q
  once_both (x ∷ xs) ys p q apart = search (rules, among_both xs ys x, once_both xs ys)

  pub counts_none : (P : X → Type 0) → ((x : X) → P x → ⊥) → Counts 0 P
  counts_none P never = record { list = []; size = refl; once = tt; only = search rules; all = search rules }

  -- x alone, or nothing
  pub counts_one : (b : Bool) (x : X) (P : X → Type 0) → (b ≡ true → P x) → ((y : X) → P y → (b ≡ true) × (x ≡ y)) → Counts (bool_byte b) P
  counts_one true x P here only-here = record { list = x ∷ []; size = refl; once = search rules; only = λ y a. search rules; all = λ y p. search rules }
  counts_one false x P here only-here = counts_none P (λ y p. search rules)

  module _ (P Q R : X → Type 0) where
    -- two properties that nothing has both of
    pub counts_both : (a b : ℕ) → Counts a P → Counts b Q → ((x : X) → P x → Q x → ⊥) → ((x : X) → R x ↔ (P x ⊎ Q x)) → Counts (a + b) R
    counts_both a b c d apart each = record {
      list = c.list ++ d.list;
      size = omega (arith, length-append {A = X}, c.size, d.size);
      once = once_both c.list d.list c.once d.once (λ x l r. apart x (c.only x l) (d.only x r));
      only = λ x m. search (rules, each x, c.only x, d.only x, among_both c.list d.list x);
      all = λ x r. search (rules, each x, c.all x, d.all x, among_both c.list d.list x);
    }
