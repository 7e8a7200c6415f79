-- A row, cell by cell. Assumes nothing.
use Rattle.std.proofs.Common.{◌≡◌, ℕ, ◌+◌, ◌-◌, ◌<◌, ◌≤◌, List, [], ◌∷◌, ◌++◌, map, Some, None, Ok, Err, Option, Result, sym, refl, ap, ◌∙◌, subst, append_assoc, append-nil, arith, IfOk, MatchOption}
use Rattle.std.specs.List.{range_with_len}
use Rattle.std.specs.Result.{result_or}
use Rattle.std.proofs.lemmas.Option.{MatchOption-at_none, MatchOption-at_some}
use Rattle.grid.specs.declared.blank.Blank.{Blank}
use Rattle.grid.specs.declared.cell.Cell.{Cell}
use Rattle.grid.specs.Meanings.{Meaning}
use Rattle.grid.specs.Piles.{before, survey}
use Rattle.coasts.proofs.Rows.{none_left, one_less}

-- where `r.or(Err(e))` is `Ok`, so was `r`
pub went_well : {T E D P : Type 0} (r : Result T E) (x : T) (e : D) → Ok x ≡ result_or r (Err e) → IfOk r (λ _. P) → P
went_well (Ok y) x e h p = p
went_well (Err y) x e h p = cc

-- heights before those that the cells after them gave
abbrev onto : List ℕ → Result (List ℕ) Blank → Result (List ℕ) Blank
onto hs (Ok ts) = Ok (hs ++ ts)
onto hs (Err b) = Err b

onto_none : (r : Result (List ℕ) Blank) → r ≡ onto [] r
onto_none (Ok ts) = refl
onto_none (Err b) = refl

onto_more : (hs : List ℕ) (h : ℕ) (r : Result (List ℕ) Blank) → onto hs (before (Ok h) r) ≡ onto (hs ++ h ∷ []) r
onto_more hs h (Ok ts) = ap Ok (sym (append_assoc hs (h ∷ []) ts))
onto_more hs h (Err b) = refl

module _ (m : Meaning) (f : ℕ → Cell) (n : ℕ) where
  -- the heights hs were found at the first i cells
  abbrev pub Found : ℕ → List ℕ → Type 0
  Found i hs = survey m (map f (range_with_len 0 n)) ≡ onto hs (survey m (map f (range_with_len i (n - i))))

  pub found_none : Found 0 []
  found_none = let z : n ≡ n - 0 = omega arith in ap (λ (k : ℕ). survey m (map f (range_with_len 0 k))) z ∙ onto_none _

  next : (i : ℕ) → i < n → survey m (map f (range_with_len i (n - i))) ≡ before (m (f i)) (survey m (map f (range_with_len (i + 1) (n - (i + 1)))))
  unfolding survey
  next i h = ap (λ (k : List ℕ). survey m (map f k)) (one_less i n h)

  pub found_more : (i : ℕ) (hs : List ℕ) (h : ℕ) → i < n → m (f i) ≡ Ok h → Found i hs → Found (i + 1) (hs ++ h ∷ [])
  found_more i hs h l e so = so ∙ ap (onto hs) (next i l ∙ ap (λ a. before a (survey m (map f (range_with_len (i + 1) (n - (i + 1)))))) e) ∙ onto_more hs h _

  pub found_blank : (i : ℕ) (hs : List ℕ) (b : Blank) → i < n → m (f i) ≡ Err b → Found i hs → survey m (map f (range_with_len 0 n)) ≡ Err b
  found_blank i hs b l e so = so ∙ ap (onto hs) (next i l ∙ ap (λ a. before a (survey m (map f (range_with_len (i + 1) (n - (i + 1)))))) e)

  pub found_all : (i : ℕ) (hs : List ℕ) → n ≤ i → Found i hs → survey m (map f (range_with_len 0 n)) ≡ Ok hs
  unfolding survey
  found_all i hs l so = so ∙ ap (λ (k : List ℕ). onto hs (survey m (map f k))) (none_left i n l) ∙ ap Ok (append-nil hs)

-- ---- what was said of a row, of an equal meaning

-- some of these cells is blank
abbrev pub BlankAmong : Meaning → List Cell → Type 0
BlankAmong m cs = (b : Blank) × (survey m cs ≡ Err b)

module _ {X : Type 0} (m m' : Meaning) (same : m ≡ m') (cs : List Cell) (items : X → List ℕ) (o : Option X) (said : MatchOption o (BlankAmong m cs) (λ v. survey m cs ≡ Ok (items v))) where
  pub blank_row : o ≡ None → BlankAmong m' cs
  blank_row e = subst (λ (n : Meaning). BlankAmong n cs) same (MatchOption-at_none _ _ e said)

  pub whole_row : (x : X) → o ≡ Some x → survey m' cs ≡ Ok (items x)
  whole_row x e = subst (λ (n : Meaning). survey n cs ≡ Ok (items x)) same (MatchOption-at_some _ _ x e said)
