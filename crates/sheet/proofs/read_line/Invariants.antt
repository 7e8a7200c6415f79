use Rattle.std.proofs.Common.{◌≡◌, ℕ, ◌<◌, length, get_or, take}
use Rattle.std.specs.Io.KnownBytes.{Consumes}
use Rattle.sheet.proofs.read_line.Given as goal

abbrev pub invariant-loop-count : goal.invariant-loop-count
invariant-loop-count g l = record {
  room : length l.line ≡ 80;
  before : (k : ℕ) → k < l.count → get_or l.line k 0 ≡ 10 → ⊥;
  taken : Consumes (g.R.Read.remaining l.initial.input) (g.R.Read.remaining l.input) (take l.count l.line);
}
