-- What `sheet` answers. Assumes nothing.
--     Prints bs out       out is what is printed for the input bs
--     Fails bs e          when there is no answer for the input bs
use Rattle.std.specs.Prelude.{◌≡◌, ℕ, List, Some, None, Ok}
use Rattle.grid.specs.declared.window.Window.{Window}
use Rattle.grid.specs.Piles.{Stencil}
use Rattle.request.specs.declared.Request.{Request}
use Rattle.request.specs.Requests.{Reading}
use Rattle.coasts.specs.Answers.{Drawn, MakesFor, PrintsBy}
use Rattle.coasts.specs.Kinds.{formula}
use Rattle.sheets.specs.declared.error.SheetError.{SheetError}
use Rattle.sheets.specs.declared.error.SheetError.TheVariants.{NoMemory, NotBuilt}
use Rattle.sheets.specs.Kinds.{rules_of}

abbrev pub Prints : List ℕ → List ℕ → Type 0
Prints = PrintsBy (λ q v out. (ss : List Stencil) × (rules_of q.kind ≡ Some ss) × Drawn (formula ss q.seed) v out)

-- want of memory may come at any time; a kind is missing only where its window is made
abbrev pub Fails : List ℕ → SheetError → Type 0
Fails bs NoMemory = Unit {0}
Fails bs (NotBuilt k) = (q : Request) × (v : Window) × Reading bs (Ok q) × MakesFor q (Ok v) × (q.kind ≡ k) × (rules_of k ≡ None)
