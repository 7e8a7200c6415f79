-- Caches with the same field below and the same table are the same. Assumes nothing.
use mathlib.Core.HLevel.{Π_prop, is_prop→PathP}
use Rattle.std.proofs.Common.{◌≡◌}
use Rattle.std.proofs.Math.Nat.{ℕ_set}
use Rattle.grid.specs.declared.field.Field.{Ghosts}
use Rattle.grid.specs.Meanings.{Meaning}
use Rattle.tables.specs.Caches.{below_of, table_of}
use Rattle.tables.specs.Tables.{Right, mark, stored}
use Rattle.tables.specs.declared.cache.Cache.{Cache}
use Rattle.tables.specs.declared.table.Table.{Table}

right_prop : (t : Table) (m : Meaning) → IsProp (Right t m)
right_prop t m = Π_prop (λ c. Π_prop (λ _. ℕ_set (stored t c) (mark (m c))))

module _ {F : Type 0} {g : Ghosts F} where
  pub same_cache : (s t : Cache F g) → below_of s ≡ below_of t → table_of s ≡ table_of t → s ≡ t
  same_cache s t b u i = record {
    below = b i;
    table = u i;
    right = is_prop→PathP (λ j. Right (u j) (g.meaning (b j))) (λ j. right_prop (u j) (g.meaning (b j))) s.right t.right i;
  }
