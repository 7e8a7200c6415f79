-- Fields of a line. Assumes nothing.
--     Printable t          no byte of t is a space or a control character
--     Spells text P t r    r is the value of which t is the text, if P holds of one
--     Plain t              t opens with no plus, no 0 that more follows, and no minus before a 0
--     Parsed gives t r     r is what `parse` gives of t, if t is plain
--     Cut end bs r         r is bs cut at its first `end`
--     Begins text P end bs v back   bs begins with the text of v and `end`, and back follows
--     FieldRead text P end bs r     r is the value that bs begins with, and what follows its `end`
use Rattle.std.specs.Prelude.{◌≡◌, ℕ, ◌≤◌, List, ◌∷◌, ◌++◌, length, Some, None, Ok, Err, Option, Result, IfNone, IfSome, ◌≢◌, slice_index}
use Rattle.std.specs.Borrow.{Bor}
use Rattle.std.specs.List.{AllByRecursion}
use Rattle.std.specs.Str.{IsUtf8}

abbrev pub Printable : List ℕ → Type 0
Printable t = AllByRecursion (λ b. 33 ≤ b) t

abbrev pub Spells : {X : Type 0} → (X → List ℕ) → (X → Type 0) → List ℕ → Option X → Type 0
Spells text P t (Some v) = P v × (t ≡ text v)
Spells {X} text P t None = (v : X) → P v → t ≢ text v

pub record Plain (t : List ℕ) : Type 0 where
  pub plus : slice_index t 0 ≢ 43
  pub zero : slice_index t 0 ≡ 48 → length t ≤ 1
  pub minus : slice_index t 0 ≡ 45 → slice_index t 1 ≢ 48

pub record Parsed {N E : Type 0} (gives : List ℕ → Result N E → Type 0) (t : List ℕ) (r : Option N) : Type 0 where
  pub some : IfSome r (λ v. Plain t × gives t (Ok v))
  pub none : IfNone r (Plain t → IsUtf8 t → (e : E) × gives t (Err e))

abbrev pub Cut : ℕ → List ℕ → Option (Bor (List ℕ) × Bor (List ℕ)) → Type 0
Cut end bs (Some (front, back)) = (bs ≡ front.now ++ end ∷ back.now) × AllByRecursion (λ b. b ≢ end) front.now
Cut end bs None = AllByRecursion (λ b. b ≢ end) bs

-- bs begins with the text of v, of which P holds, and `end`; back follows
pub record Begins {X : Type 0} (text : X → List ℕ) (P : X → Type 0) (end : ℕ) (bs : List ℕ) (v : X) (back : List ℕ) : Type 0 where
  pub fits : P v
  pub is : bs ≡ text v ++ end ∷ back

abbrev pub FieldRead : {X : Type 0} → (X → List ℕ) → (X → Type 0) → ℕ → List ℕ → Option (X × Bor (List ℕ)) → Type 0
FieldRead text P end bs (Some (v, back)) = Begins text P end bs v back.now
FieldRead {X} text P end bs None = (v : X) (back : List ℕ) → Begins text P end bs v back → ⊥
