-- The numbers of this crate's refusals. Assumes nothing.
--     request_refusal e     why no request was read
use Rattle.std.specs.Prelude.{ℕ}
use Rattle.request.specs.declared.RequestRefusal.{RequestRefusal}
use Rattle.request.specs.declared.RequestRefusal.TheVariants.{Unreadable}

abbrev pub request_refusal : RequestRefusal → ℕ
request_refusal Unreadable = 1
