-- The test of a settlement says that the centre outranks all others. Assumes nothing.
use Rattle.std.proofs.Common.{◌≡◌, ℕ, ◌<◌, Bool, true, false, ◌&&◌, ◌||◌, eqb, ltb, Decides, List, length, get_or, sym, ap, ◌∙◌, inl, inr, ⊎_elim, zero-add, arith}
use Rattle.std.specs.List.{enumerate_from, list_all}
use Rattle.std.proofs.lemmas.Bool.{cases_eq}
use Rattle.std.proofs.lemmas.Bool.Decides.{Decides-and, Decides-eqb, Decides-like, Decides-ltb, Decides-or}
use Rattle.std.proofs.lemmas.List.Folds.{list_all-map}
use Rattle.std.proofs.lemmas.List.FromFn.{fill_by_all, get_or-enumerate_from, length-enumerate_from}
use Rattle.rules.specs.Places.{places}
use Rattle.rules.specs.Settlements.{Outranks, SettlementsStand, Settles, centre, outranks, settled, settles}
use Rattle.rules.proofs.Testing.{answers_stand, each_place}

module _ (hs : List ℕ) where
  -- what is tested of a place
  abbrev pub passes : ℕ → Bool
  passes j = eqb j centre || outranks hs centre j

  outranks_is : (i j : ℕ) → Decides (outranks hs i j) (Outranks hs i j)
  outranks_is i j =
      let a = get_or hs i 0 in
      let b = get_or hs j 0 in
      Decides-or (ltb b a) (eqb b a && ltb i j) (Decides-ltb b a) (Decides-and (eqb b a) (ltb i j) (Decides-eqb b a) (Decides-ltb i j))

  -- the centre passes, whatever its rank
  passes_is : (j : ℕ) → Decides (passes j) ((j ≡ centre → ⊥) → Outranks hs centre j)
  passes_is j =
      Decides-like
      _
      (⊎_elim (λ s ne. absurd (ne s)) (λ o ne. o))
      (λ o. ⊎_elim inl (λ ne. inr (o ne)) (cases_eq j centre))
      (Decides-or (eqb j centre) (outranks hs centre j) (Decides-eqb j centre) (outranks_is centre j))

  settles_is : Decides (settles hs) (Settles hs)
  settles_is = each_place passes (λ j. (j ≡ centre → ⊥) → Outranks hs centre j) passes_is 25

  -- ---- the answers of a search through the places

  pub answers_zero : (j : ℕ) → j < 25 → (j ≡ centre → ⊥) → outranks hs centre j ≡ false → 0 ≡ settled hs
  answers_zero j h ne e =
      sym ((answers_stand (settles hs) settles_is).1.1 (λ all. let o = (outranks_is centre j).1 (all j h ne) in cc))

  pub answers_one : ((j : ℕ) → j < 25 → passes j ≡ true) → 1 ≡ settled hs
  answers_one all = sym ((answers_stand (settles hs) settles_is).0.1 (λ j h. (passes_is j).0 (all j h)))

  -- ---- the same of the cells, each a place and its height

  abbrev pub cell_passes : ℕ × ℕ → Bool
  cell_passes (j, h) = eqb j centre || (ltb h (get_or hs centre 0) || (eqb h (get_or hs centre 0) && ltb centre j))

  pub settles_by_cells : length hs ≡ 25 → list_all cell_passes (enumerate_from 0 hs) ≡ settles hs
  unfolding places
  settles_by_cells size =
      let cell : ℕ → ℕ × ℕ = λ j. (j, get_or hs j 0) in
      ap (list_all cell_passes) (fill_by_all cell (enumerate_from 0 hs) 25 (0, 0) (length-enumerate_from 0 hs ∙ size) (λ k h. simp zero-add at (get_or-enumerate_from 0 hs k (0, 0) (omega arith))))
      ∙ list_all-map cell_passes cell (places 25)

pub settlements : SettlementsStand
settlements hs = answers_stand (settles hs) (settles_is hs)
