use Rattle.std.proofs.Common.{rules, ℕ, ◌<◌, List, [], ◌∷◌, length, Option, None, Some, MatchOption, Bor, sym, subst, ◌≡◌, ◌≢◌, arith, tests}
use Rattle.std.specs.List.{AllWithin, HoldsAt}
use Rattle.std.specs.Option.{option_copied}
use Rattle.std.proofs.lemmas.Iterator.{first_from_find, YieldsList-from_slice}
use Rattle.request.specs.declared.Kind.{Kind}
use Rattle.request.specs.declared.Kind.TheVariants.{Raw, Heights, Sites, Roads}
use Rattle.request.specs.Fields.{Spells}
use Rattle.request.specs.Requests.{kind_word}
use Rattle.request.proofs.values.KindField.read.Goals as goal

abbrev kinds : List Kind
kinds = Raw ∷ Heights ∷ Sites ∷ Roads ∷ []

module _ (bs : List ℕ) where
  abbrev Other : Kind → Type 0
  Other k = kind_word k ≢ bs

  -- the table has every kind
  no_kind : AllWithin Other kinds 0 (length kinds) → (k : Kind) → bs ≢ kind_word k
  no_kind none Raw e = none 0 Raw (omega arith) (omega arith) (sym e)
  no_kind none Heights e = none 1 Raw (omega arith) (omega arith) (sym e)
  no_kind none Sites e = none 2 Raw (omega arith) (omega arith) (sym e)
  no_kind none Roads e = none 3 Raw (omega arith) (omega arith) (sym e)

  named : (r : Option (Bor Kind)) → MatchOption r (AllWithin Other kinds 0 (length kinds)) (λ x. (kind_word x.now ≡ bs) × (i : ℕ) × (i < length kinds) × HoldsAt (λ k. k ≡ x.now) kinds i × AllWithin Other kinds 0 i) → Spells kind_word (λ _. Unit {0}) bs (option_copied r)
  named (Some k) found = (tt, sym found.0)
  named None none = λ k fits. no_kind none k

pub returns : goal.returns
returns c =
    let bs = c.args.bytes.now in
    let found = first_from_find _ _ c.find.result (λ k. kind_word k ≡ bs) (Other bs) c.find.ensures.ran (YieldsList-from_slice kinds cc) (λ x q k. search (rules, tests)) (λ x q k. search (rules, tests)) in
    subst (Spells kind_word (λ _. Unit {0}) bs) (sym c.copied.ensures) (named bs c.find.result found)
