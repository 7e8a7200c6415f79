use Rattle.std.proofs.Common.{◌*◌, w32, SFits, rules}
use Rattle.std.proofs.lemmas.Int.{to_z-of_z}
use Rattle.grid.specs.Counts.{Counts}
use Rattle.grid.specs.Windows.{Touches}
use Rattle.grid.proofs.Counting.{one_count}
use Rattle.grid.proofs.Chunks.{counts_chunks}
use Rattle.grid.proofs.window.Window.chunk_count.Goals as goal

pub returns : goal.returns
returns c =
    let v = c.args.self.now in
    let fx : SFits w32 v.corner.x = search rules in
    let fy : SFits w32 v.corner.y = search rules in
    let down = simp to_z-of_z at c.chunks_along.ensures in
    let along = simp to_z-of_z at c.chunks_along-2.ensures in
    let counted : Counts (c.chunks_along.result * c.chunks_along-2.result) (Touches v) = rw (down, along) (counts_chunks v) in
    record { counted = counted; only = λ n other. one_count (Touches v) n _ other counted }
