-- The numbers of this crate's refusals. Assumes nothing.
--     plan_refusal e      why there is nothing to draw
use Rattle.std.specs.Prelude.{ℕ}
use Rattle.grid.specs.Refusals.{window_refusal}
use Rattle.request.specs.Refusals.{request_refusal}
use Rattle.coasts.specs.declared.refusal.PlanRefusal.{PlanRefusal}
use Rattle.coasts.specs.declared.refusal.PlanRefusal.TheVariants.{Request as ByRequest, Window as ByWindow}

abbrev pub plan_refusal : PlanRefusal → ℕ
plan_refusal (ByRequest e) = request_refusal e
plan_refusal (ByWindow e) = window_refusal e
