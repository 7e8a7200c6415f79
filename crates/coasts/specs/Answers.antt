-- What a request is answered. Assumes nothing.
--     row_cells v j       the cells of row j of the window, from west to east
--     drawn m v js n      the text of the rows js and then the fills, or up to the first row with a blank, and then the refusal
--     Drawn m v out       out is the text of the drawing
--     PrintsBy D bs out   out is what is printed for the input bs, where D says what is drawn of a request
--     Prints bs out       the same, where every kind is drawn
use Rattle.std.specs.Prelude.{◌≡◌, ℕ, List, [], ◌∷◌, ◌++◌, map, Ok, Err, Result}
use Rattle.std.specs.List.{range_with_len}
use Rattle.grid.specs.declared.blank.Blank.{Blank}
use Rattle.grid.specs.declared.cell.Cell.{Cell}
use Rattle.grid.specs.declared.window.Window.{Window}
use Rattle.grid.specs.declared.window.refusal.WindowRefusal.{WindowRefusal}
use Rattle.grid.specs.Counts.{Counts}
use Rattle.grid.specs.Meanings.{Meaning}
use Rattle.grid.specs.Piles.{survey}
use Rattle.grid.specs.Refusals.{window_refusal}
use Rattle.grid.specs.Windows.{Makes, Touches, cell_of, height_of, width_of}
use Rattle.request.specs.declared.Request.{Request}
use Rattle.request.specs.declared.RequestRefusal.{RequestRefusal}
use Rattle.request.specs.Refusals.{request_refusal}
use Rattle.request.specs.Requests.{Reading, asked_corner}
use Rattle.worlds.specs.Refusals.{fault_refusal}
use Rattle.coasts.specs.Kinds.{formula, rules_of}
use Rattle.coasts.specs.Texts.{fills_text, refusal_text, row_text}

abbrev pub row_cells : Window → ℕ → List Cell
row_cells v j = map (λ i. cell_of v i j) (range_with_len 0 (width_of v))

-- a row before the text of the rows after it
abbrev pub with_row : Result (List ℕ) Blank → List ℕ → List ℕ
with_row (Ok hs) after = row_text hs ++ after
with_row (Err b) after = refusal_text fault_refusal

abbrev pub drawn : Meaning → Window → List ℕ → ℕ → List ℕ
drawn m v [] n = fills_text n
drawn m v (j ∷ js) n = with_row (survey m (row_cells v j)) (drawn m v js n)

pub record Drawn (m : Meaning) (v : Window) (out : List ℕ) : Type 0 where
  pub fills : ℕ
  pub counted : Counts fills (Touches v)
  pub is : out ≡ drawn m v (range_with_len 0 (height_of v)) fills

abbrev pub MakesFor : Request → Result Window WindowRefusal → Type 0
MakesFor q w = Makes (asked_corner q) q.width q.height w

module _ (Draws : Request → Window → List ℕ → Type 0) where
  -- what is printed of a request where making its window answered w
  abbrev pub PrintsWindow : Request → Result Window WindowRefusal → List ℕ → Type 0
  PrintsWindow q (Ok v) out = Draws q v out
  PrintsWindow q (Err e) out = out ≡ refusal_text (window_refusal e)

  -- what is printed where reading the line answered r
  abbrev pub PrintsRequest : Result Request RequestRefusal → List ℕ → Type 0
  PrintsRequest (Ok q) out = (w : Result Window WindowRefusal) × MakesFor q w × PrintsWindow q w out
  PrintsRequest (Err e) out = out ≡ refusal_text (request_refusal e)

  abbrev pub PrintsBy : List ℕ → List ℕ → Type 0
  PrintsBy bs out = (r : Result Request RequestRefusal) × Reading bs r × PrintsRequest r out

abbrev pub Prints : List ℕ → List ℕ → Type 0
Prints = PrintsBy (λ q v out. Drawn (formula (rules_of q.kind) q.seed) v out)
