-- A request line, field by field: what was read of a line that a request opens is that request. Assumes nothing.
use Rattle.std.proofs.Common.{◌≡◌, ℕ, ◌-◌, ◌^◌, ◌<◌, ◌≤◌, min, List, ◌∷◌, ◌++◌, length, take, drop, ℤ, Some, None, decimal, Option, Result, sym, ap, ◌∙◌, subst, append_assoc, arith, length-append, take-append-drop, length-take, rules}
use lib.Seq.{take-append-add}
use Rattle.std.specs.Fmt.{signed_decimal}
use Rattle.std.proofs.lemmas.Fmt.{decimal_injective, signed_decimal_injective}
use Rattle.std.specs.Option.{ok_or}
use Rattle.request.specs.declared.Kind.{Kind}
use Rattle.request.specs.declared.Request.{Request}
use Rattle.request.specs.declared.RequestRefusal.{RequestRefusal}
use Rattle.request.specs.declared.RequestRefusal.TheVariants.{Unreadable}
use Rattle.request.specs.Fields.{Begins, Printable}
use Rattle.request.specs.Requests.{Asks, Int32, Opens, Reading, ReadingFields, kind_word, line_of}
use Rattle.request.proofs.Decimals.{small}
use Rattle.request.proofs.Cuts.{one_cut, printable_lacks}
use Rattle.request.specs.Decimals.{printable_decimal, printable_signed}

-- a field that begins with the text of w is read as w
abbrev OneField : {X : Type 0} → (X → List ℕ) → (X → Type 0) → ℕ → Type 0
OneField {X} text P end = (v w : X) (bs back tail : List ℕ) → Begins text P end bs v back → P w → bs ≡ text w ++ end ∷ tail → (v ≡ w) × (back ≡ tail)

one_field : {X : Type 0} (text : X → List ℕ) (P : X → Type 0) (end : ℕ) → end < 33 → ((v : X) → P v → Printable (text v)) → ((v w : X) → P v → P w → text v ≡ text w → v ≡ w) → OneField text P end
one_field text P end low printable one_text = λ v w bs back tail b fits e.
    let r = one_cut end (text v) (text w) back tail (printable_lacks end (text v) low (printable v b.fits)) (printable_lacks end (text w) low (printable w fits)) (sym b.is ∙ e) in
    (one_text v w b.fits fits r.0, r.1)

printable_word : (k : Kind) → Unit {0} → Printable (kind_word k)
printable_word = search rules

-- the second letters of the words differ
one_kind : (k l : Kind) → kind_word k ≡ kind_word l → k ≡ l
one_kind k l e = grind arith

one_word : OneField kind_word (λ _. Unit {0}) 32
one_word = one_field kind_word (λ _. Unit {0}) 32 (omega arith) printable_word (λ k l _ _. one_kind k l)

one_number : (width end : ℕ) → 2 ^ width ≤ 2 ^ 64 → end < 33 → OneField decimal (λ n. n < 2 ^ width) end
one_number width end narrow low = one_field decimal (λ n. n < 2 ^ width) end low (λ n h. printable_decimal n (omega arith)) (λ m n g h. decimal_injective m n (omega arith) (omega arith))

one_coordinate : OneField signed_decimal Int32 32
one_coordinate = one_field signed_decimal Int32 32 (omega arith) printable_signed (λ y z g h. signed_decimal_injective y z (small y g) (small z h))

-- the line of q from each of its fields on, with what follows it
module _ (q : Request) (after : List ℕ) where
  abbrev pub from_height : List ℕ
  from_height = decimal q.height ++ 10 ∷ after

  abbrev pub from_width : List ℕ
  from_width = decimal q.width ++ 32 ∷ from_height

  abbrev pub from_y : List ℕ
  from_y = signed_decimal q.y ++ 32 ∷ from_width

  abbrev pub from_x : List ℕ
  from_x = signed_decimal q.x ++ 32 ∷ from_y

  abbrev pub from_seed : List ℕ
  from_seed = decimal q.seed ++ 32 ∷ from_x

  abbrev pub from_kind : List ℕ
  from_kind = kind_word q.kind ++ 32 ∷ from_seed

  pub line_is : line_of q ++ after ≡ from_kind
  line_is = simp append_assoc

abbrev pub Word : List ℕ → Kind → List ℕ → Type 0
Word = Begins kind_word (λ _. Unit {0}) 32

abbrev pub Number : ℕ → ℕ → List ℕ → ℕ → List ℕ → Type 0
Number width end = Begins decimal (λ n. n < 2 ^ width) end

abbrev pub Coordinate : List ℕ → ℤ → List ℕ → Type 0
Coordinate = Begins signed_decimal Int32 32

-- what each field was read as, and what is left after it, if q opens the bytes
module _ (bs : List ℕ) (q : Request) (o : Opens bs q) where
  pub kind_left : bs ≡ from_kind q o.ignored
  kind_left = o.is ∙ line_is q o.ignored

  module _ {k : Kind} {bs₁ : List ℕ} (kind : Word bs k bs₁) where
    kinds : (k ≡ q.kind) × (bs₁ ≡ from_seed q o.ignored)
    kinds = one_word k _ bs bs₁ _ kind tt kind_left

    pub seed_left : bs₁ ≡ from_seed q o.ignored
    seed_left = kinds.1

    module _ {s : ℕ} {bs₂ : List ℕ} (seed : Number 64 32 bs₁ s bs₂) where
      seeds : (s ≡ q.seed) × (bs₂ ≡ from_x q o.ignored)
      seeds = one_number 64 32 (omega arith) (omega arith) s _ bs₁ bs₂ _ seed o.in_range.seed seed_left

      pub x_left : bs₂ ≡ from_x q o.ignored
      x_left = seeds.1

      module _ {x : ℤ} {bs₃ : List ℕ} (first : Coordinate bs₂ x bs₃) where
        xs : (x ≡ q.x) × (bs₃ ≡ from_y q o.ignored)
        xs = one_coordinate x _ bs₂ bs₃ _ first o.in_range.x x_left

        pub y_left : bs₃ ≡ from_y q o.ignored
        y_left = xs.1

        module _ {y : ℤ} {bs₄ : List ℕ} (second : Coordinate bs₃ y bs₄) where
          ys : (y ≡ q.y) × (bs₄ ≡ from_width q o.ignored)
          ys = one_coordinate y _ bs₃ bs₄ _ second o.in_range.y y_left

          pub width_left : bs₄ ≡ from_width q o.ignored
          width_left = ys.1

          module _ {w : ℕ} {bs₅ : List ℕ} (width : Number 16 32 bs₄ w bs₅) where
            widths : (w ≡ q.width) × (bs₅ ≡ from_height q o.ignored)
            widths = one_number 16 32 (omega arith) (omega arith) w _ bs₄ bs₅ _ width o.in_range.width width_left

            pub height_left : bs₅ ≡ from_height q o.ignored
            height_left = widths.1

            module _ {h : ℕ} {bs₆ : List ℕ} (height : Number 16 10 bs₅ h bs₆) where
              heights : (h ≡ q.height) × (bs₆ ≡ o.ignored)
              heights = one_number 16 10 (omega arith) (omega arith) h _ bs₅ bs₆ _ height o.in_range.height height_left

              pub same : q ≡ record { kind = k; seed = s; x = x; y = y; width = w; height = h }
              same = λ t. record { kind = sym kinds.0 t; seed = sym seeds.0 t; x = sym xs.0 t; y = sym ys.0 t; width = sym widths.0 t; height = sym heights.0 t }

-- the fields that were read are those of a request that opens the bytes, and no other does
module _ {k : Kind} {s w h : ℕ} {x y : ℤ} {bs bs₁ bs₂ bs₃ bs₄ bs₅ bs₆ : List ℕ} (kind : Word bs k bs₁) (seed : Number 64 32 bs₁ s bs₂) (first : Coordinate bs₂ x bs₃) (second : Coordinate bs₃ y bs₄) (width : Number 16 32 bs₄ w bs₅) (height : Number 16 10 bs₅ h bs₆) where
  abbrev asked : Request
  asked = record { kind = k; seed = s; x = x; y = y; width = w; height = h }

  line : bs ≡ from_kind asked bs₆
  line = cc (kind.is, seed.is, first.is, second.is, width.is, height.is)

  pub whole : ReadingFields bs (Some asked)
  whole = (
    record {
      in_range = record { seed = seed.fits; x = first.fits; y = second.fits; width = width.fits; height = height.fits };
      ignored = bs₆;
      is = line ∙ sym (line_is asked bs₆);
    },
    λ p o. same bs p o kind seed first second width height,
  )

-- a line of at most n bytes opens the bytes exactly if it opens the first n
module _ (n : ℕ) (bs : List ℕ) (q : Request) where
  pub opens_front : Opens bs q → length (line_of q) ≤ n → Opens (take n bs) q
  opens_front o short = record {
    in_range = o.in_range;
    ignored = take (n - length (line_of q)) o.ignored;
    is = ap (take n) o.is ∙ ap (λ (k : ℕ). take k (line_of q ++ o.ignored)) (omega arith) ∙ take-append-add (line_of q) o.ignored (n - length (line_of q));
  }

  pub opens_all : Opens (take n bs) q → Opens bs q × (length (line_of q) ≤ n)
  opens_all o = (
    record {
      in_range = o.in_range;
      ignored = o.ignored ++ drop n bs;
      is = sym (take-append-drop n bs) ∙ ap (λ (t : List ℕ). t ++ drop n bs) o.is ∙ append_assoc (line_of q) o.ignored (drop n bs);
    },
    omega (arith, length-append (line_of q) o.ignored, ap length o.is, length-take n bs),
  )

-- so the first 80 bytes tell for what the bytes ask
module _ (bs : List ℕ) (n : ℕ) (front : n ≡ min (length bs) 80) where
  asks_front : (q : Request) → Asks bs q → Opens (take n bs) q
  asks_front q a =
      opens_front n bs q a.opens (omega (arith, a.short, length-append (line_of q) a.opens.ignored, ap length a.opens.is))

  front_asks : (q : Request) → Opens (take n bs) q → Asks bs q
  front_asks q o = let r = opens_all n bs q o in record { opens = r.0; short = omega (arith, r.1) }

  told : (r : Option Request) → ReadingFields (take n bs) r → Reading bs (ok_or r Unreadable)
  told (Some q) (opens, only) = (front_asks q opens, λ p a. only p (asks_front p a))
  told None none = λ q a. none q (asks_front q a)

  pub reading : (r : Option Request) (s : Result Request RequestRefusal) → ReadingFields (take n bs) r → s ≡ ok_or r Unreadable → Reading bs s
  reading r s h e = subst (Reading bs) (sym e) (told r h)
