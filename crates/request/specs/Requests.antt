-- The request line. Assumes nothing.
--     kind_word k          the word of a kind
--     Int32 z              z fits 32 bits with a sign
--     space, line_feed     the two bytes that part fields and end lines
--     line_of q            the line of a request, its line feed included
--     asked_corner q       the north-west cell of the window that is asked for
--     Opens bs q           the bytes open with the line of q
--     Asks bs q            the same, and the line has at most 80 bytes
--     ReadingFields bs r   r is the one request with whose line the bytes open, if there is one
--     Reading bs r         r is the one request for which the bytes ask, or the refusal where there is none
use Rattle.std.specs.Prelude.{◌≡◌, ℕ, ◌^◌, ◌<◌, ◌≤◌, List, [], ◌∷◌, ◌++◌, length, ℤ, pos, neg_ℤ, ◌≤ℤ◌, ◌<ℤ◌, Some, None, Ok, Err, codes, decimal, Option, Result}
use Rattle.std.specs.Fmt.{signed_decimal}
use Rattle.grid.specs.declared.cell.Cell.{Cell}
use Rattle.request.specs.declared.Kind.{Kind}
use Rattle.request.specs.declared.Kind.TheVariants.{Raw, Heights, Sites, Roads}
use Rattle.request.specs.declared.Request.{Request}
use Rattle.request.specs.declared.RequestRefusal.{RequestRefusal}
use Rattle.request.specs.declared.RequestRefusal.TheVariants.{Unreadable}

abbrev pub kind_word : Kind → List ℕ
kind_word Raw = codes "raw"
kind_word Heights = codes "heights"
kind_word Sites = codes "sites"
kind_word Roads = codes "roads"

abbrev pub Int32 : ℤ → Type 0
Int32 z = (neg_ℤ (pos (2 ^ 31)) ≤ℤ z) × (z <ℤ pos (2 ^ 31))

abbrev pub space : ℕ
space = 32

abbrev pub line_feed : ℕ
line_feed = 10

abbrev pub line_of : Request → List ℕ
line_of q =
    kind_word q.kind ++ space ∷ (decimal q.seed ++ space ∷ (signed_decimal q.x ++ space ∷ (signed_decimal q.y ++ space ∷ (decimal q.width ++ space ∷ (decimal q.height ++ line_feed ∷ [])))))

abbrev pub asked_corner : Request → Cell
asked_corner q = record { x = q.x; y = q.y }

-- each number fits its type
pub record InRange (q : Request) : Type 0 where
  pub seed : q.seed < 2 ^ 64
  pub x : Int32 q.x
  pub y : Int32 q.y
  pub width : q.width < 2 ^ 16
  pub height : q.height < 2 ^ 16

-- the bytes open with the line of q
pub record Opens (bs : List ℕ) (q : Request) : Type 0 where
  pub in_range : InRange q
  pub ignored : List ℕ
  pub is : bs ≡ line_of q ++ ignored

pub record Asks (bs : List ℕ) (q : Request) : Type 0 where
  pub opens : Opens bs q
  pub short : length (line_of q) ≤ 80

abbrev pub ReadingFields : List ℕ → Option Request → Type 0
ReadingFields bs (Some q) = Opens bs q × ((p : Request) → Opens bs p → p ≡ q)
ReadingFields bs None = (q : Request) → Opens bs q → ⊥

abbrev pub Reading : List ℕ → Result Request RequestRefusal → Type 0
Reading bs (Ok q) = Asks bs q × ((p : Request) → Asks bs p → p ≡ q)
Reading bs (Err Unreadable) = (q : Request) → Asks bs q → ⊥
