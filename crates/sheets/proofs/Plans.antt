-- From plans to what `sheet` prints of them. Assumes nothing.
use Rattle.std.proofs.Common.{◌≡◌, ℕ, true, false, List, Some, None, Ok, sym, refl, ap, ◌∙◌, subst}
use Rattle.std.proofs.lemmas.Bool.{false≢true}
use Rattle.std.specs.Option.{is_some}
use Rattle.request.specs.declared.Kind.{Kind}
use Rattle.request.specs.declared.Kind.TheVariants.{Raw, Heights, Sites, Roads}
use Rattle.coasts.specs.declared.plan.Plan.{Plan}
use Rattle.coasts.specs.Answers.{Drawn}
use Rattle.coasts.specs.Kinds.{formula, rules_of as all_rules_of}
use Rattle.coasts.specs.Plans.{Planning}
use Rattle.sheets.specs.declared.error.SheetError.TheVariants.{NotBuilt}
use Rattle.sheets.specs.Answers.{Fails, Prints}
use Rattle.sheets.specs.Kinds.{rules_of}

built : (k : Kind) → true ≡ is_some (rules_of k) → rules_of k ≡ Some (all_rules_of k)
built Raw b = refl
built Heights b = refl
built Sites b = absurd (false≢true (sym b))
built Roads b = absurd (false≢true (sym b))

unbuilt : (k : Kind) → false ≡ is_some (rules_of k) → rules_of k ≡ None
unbuilt Raw b = absurd (false≢true b)
unbuilt Heights b = absurd (false≢true b)
unbuilt Sites b = refl
unbuilt Roads b = refl

pub prints_built : (bs out : List ℕ) (p : Plan) → Planning bs (Ok p) → true ≡ is_some (rules_of p.kind) → Drawn (formula (all_rules_of p.kind) p.seed) p.window out → Prints bs out
prints_built bs out p (q, read, made, kind, seed) b drawn =
    (Ok q, read, (Ok p.window, made, (all_rules_of p.kind, ap rules_of kind ∙ built p.kind b, subst (λ (s : ℕ). Drawn (formula (all_rules_of p.kind) s) p.window out) (sym seed) drawn)))

pub fails_unbuilt : (bs : List ℕ) (p : Plan) → Planning bs (Ok p) → false ≡ is_some (rules_of p.kind) → Fails bs (NotBuilt p.kind)
fails_unbuilt bs p (q, read, made, kind, _) b = (q, p.window, read, made, kind, unbuilt p.kind b)
