-- Plans. Assumes nothing.
--     Planning bs r       r is what the input bs asks to be drawn, or why there is nothing to draw
use Rattle.std.specs.Prelude.{◌≡◌, ℕ, List, Ok, Err, Result}
use Rattle.request.specs.declared.Request.{Request}
use Rattle.request.specs.Requests.{Reading}
use Rattle.coasts.specs.declared.plan.Plan.{Plan}
use Rattle.coasts.specs.declared.refusal.PlanRefusal.{PlanRefusal}
use Rattle.coasts.specs.declared.refusal.PlanRefusal.TheVariants.{Request as ByRequest, Window as ByWindow}
use Rattle.coasts.specs.Answers.{MakesFor}

abbrev pub Planning : List ℕ → Result Plan PlanRefusal → Type 0
Planning bs (Ok p) = (q : Request) × Reading bs (Ok q) × MakesFor q (Ok p.window) × (q.kind ≡ p.kind) × (q.seed ≡ p.seed)
Planning bs (Err (ByRequest e)) = Reading bs (Err e)
Planning bs (Err (ByWindow e)) = (q : Request) × Reading bs (Ok q) × MakesFor q (Err e)
