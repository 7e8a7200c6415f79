use Rattle.std.proofs.Common.{◌≡◌, ℕ, false, string_bytes, sym, refl, ap, subst}
use Rattle.std.specs.Option.{is_some}
use Rattle.grid.specs.Meanings.{Meaning}
use Rattle.grid.specs.Piles.{carry}
use Rattle.grounds.specs.Noises.{noise}
use Rattle.request.specs.declared.Kind.{Kind}
use Rattle.request.specs.declared.Kind.TheVariants.{Raw, Heights, Sites, Roads}
use Rattle.coasts.specs.Answers.{Drawn}
use Rattle.coasts.specs.Kinds.{formula, rules_of as all_rules_of}
use Rattle.coasts.proofs.Plans.{prints_refusal}
use Rattle.sheets.specs.Kinds.{rules_of}
use Rattle.sheets.proofs.Plans.{fails_unbuilt, prints_built}
use Rattle.sheets.proofs.answer.answer.Goals as goal

pub returns-in-Err : goal.returns-in-Err
returns-in-Err c =
    prints_refusal _ c.args.input.now (string_bytes c.in_ok-refusal_line-in-Err.field-0) c.in-Err.refusal c.in-Err.ensures
    c.in_ok-refusal_line-in-Err.ensures

pub returns-in_ok-draw-in-Raw : goal.returns-in_ok-draw-in-Raw
unfolding carry
returns-in_ok-draw-in-Raw c =
    let p = c.in-Ok.plan in
    let out = string_bytes c.in_ok-draw-in-Raw.field-0 in
    let drawn = subst (λ (s : ℕ). Drawn (noise s) p.window out) c.new.ensures c.in_ok-draw-in-Raw.ensures in
    prints_built c.args.input.now out p c.in-Ok.ensures (ap (λ (k : Kind). is_some (rules_of k)) (sym c.in-Raw.is))
    (subst (λ (k : Kind). Drawn (formula (all_rules_of k) p.seed) p.window out) (sym c.in-Raw.is) drawn)

pub returns-in_ok-draw-in-Heights : goal.returns-in_ok-draw-in-Heights
returns-in_ok-draw-in-Heights c =
    prints_built c.args.input.now (string_bytes c.in_ok-draw-in-Heights.field-0) c.in-Ok.plan c.in-Ok.ensures (ap (λ (k : Kind). is_some (rules_of k)) (sym c.in-Heights.is))
    c.in_ok-draw-in-Heights.ensures

pub returns-in_ok-draw-in-Heights-2 : goal.returns-in_ok-draw-in-Heights-2
returns-in_ok-draw-in-Heights-2 c =
    let p = c.in-Ok.plan in
    let out = string_bytes c.in_ok-draw-in-Heights-2.field-0 in
    let drawn = subst (λ (m : Meaning). Drawn m p.window out) c.heights.ensures.meaning c.in_ok-draw-in-Heights-2.ensures in
    prints_built c.args.input.now out p c.in-Ok.ensures (ap (λ (k : Kind). is_some (rules_of k)) (sym c.in-Heights-2.is))
    (subst (λ (k : Kind). Drawn (formula (all_rules_of k) p.seed) p.window out) (sym c.in-Heights-2.is) drawn)

unbuilt : (k : Kind) → (k ≡ Raw → ⊥) → (k ≡ Heights → ⊥) → false ≡ is_some (rules_of k)
unbuilt Raw raw heights = absurd (raw refl)
unbuilt Heights raw heights = absurd (heights refl)
unbuilt Sites raw heights = refl
unbuilt Roads raw heights = refl

pub returns-in_default : goal.returns-in_default
returns-in_default c = fails_unbuilt c.args.input.now c.in-Ok.plan c.in-Ok.ensures (unbuilt _ c.in_default.not-Raw c.in_default.not-Heights)
