-- From plans to what is printed of them. Assumes nothing.
use Rattle.std.proofs.Common.{◌≡◌, ℕ, List, Ok, Err, Result, sym, subst}
use Rattle.request.specs.declared.Kind.{Kind}
use Rattle.request.specs.declared.Request.{Request}
use Rattle.request.specs.Requests.{Reading}
use Rattle.grid.specs.declared.window.Window.{Window}
use Rattle.grid.specs.declared.window.refusal.WindowRefusal.{WindowRefusal}
use Rattle.coasts.specs.declared.plan.Plan.{Plan}
use Rattle.coasts.specs.declared.refusal.PlanRefusal.{PlanRefusal}
use Rattle.coasts.specs.declared.refusal.PlanRefusal.TheVariants.{Request as ByRequest, Window as ByWindow}
use Rattle.coasts.specs.Answers.{Drawn, MakesFor, Prints, PrintsBy}
use Rattle.coasts.specs.Kinds.{formula, rules_of}
use Rattle.coasts.specs.Plans.{Planning}
use Rattle.coasts.specs.Refusals.{plan_refusal}
use Rattle.coasts.specs.Texts.{refusal_text}

pub no_window : (bs : List ℕ) (r : Result Plan PlanRefusal) (q : Request) (e : WindowRefusal) → r ≡ Err (ByWindow e) → Reading bs (Ok q) → MakesFor q (Err e) → Planning bs r
no_window bs r q e is read made = subst (Planning bs) (sym is) (q, read, made)

pub prints_plan : (bs out : List ℕ) (p : Plan) → Planning bs (Ok p) → Drawn (formula (rules_of p.kind) p.seed) p.window out → Prints bs out
prints_plan bs out p (q, read, made, kind, seed) drawn =
    (Ok q, read, (Ok p.window, made, subst (λ (k : Kind). Drawn (formula (rules_of k) q.seed) p.window out) (sym kind) (subst (λ (s : ℕ). Drawn (formula (rules_of p.kind) s) p.window out) (sym seed) drawn)))

pub prints_refusal : (D : Request → Window → List ℕ → Type 0) (bs out : List ℕ) (e : PlanRefusal) → Planning bs (Err e) → out ≡ refusal_text (plan_refusal e) → PrintsBy D bs out
prints_refusal D bs out (ByRequest e) read is = (Err e, read, is)
prints_refusal D bs out (ByWindow e) (q, read, made) is = (Ok q, read, (Err e, made, is))
