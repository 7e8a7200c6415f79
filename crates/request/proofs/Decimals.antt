-- Numbers as `parse` reads them, where the text is written as the number is shown. Assumes nothing.
use Rattle.std.specs.Prelude.{◌≡◌, ℕ, zero, suc, ◌^◌, ◌<◌, ◌≤◌, List, [], ◌∷◌, length, ℤ, pos, negsuc, neg_ℤ, Some, None, Ok, Err, decimal, Option, Result, slice_index}
use Rattle.std.proofs.Common.{sym, ◌≢◌, ◌∙◌, ap, arith, subst, SFits, inl, inr}
use Rattle.std.specs.Int.{IsInRange, w32}
use lib.Signed.{mag}
use Rattle.std.specs.Str.{IsAscii, IsUtf8}
use Rattle.std.specs.Str.Parse.{AllDigits, ParsesSigned, ParsesUnsigned, digits_value}
use Rattle.std.specs.Fmt.{signed_decimal}
use Rattle.std.proofs.lemmas.Fmt.{IsAscii-decimal, IsAscii-signed, decimal_digit, decimal_is_IsNumeral, decimal_nonempty, decimal-digits_value, first_decimal, parse-decimal, parse-signed_decimal}
use Rattle.std.proofs.lemmas.Str.{IsUtf8-from_ascii}
use Rattle.std.proofs.lemmas.Str.Parse.{IsNumeralModel, digit_at, numerals_by_value, parse_plain, parse_signed_minus, parse_signed_plain, tells_digits}
use Rattle.std.proofs.lemmas.Bool.{cases_eq}
use Rattle.std.proofs.lemmas.Int.{ints}
use Rattle.request.specs.Fields.{Parsed, Plain, Spells}
use Rattle.request.specs.Requests.{Int32}

own : IsNumeralModel (AllDigits 10) (digits_value 10)
own = numerals_by_value (AllDigits 10) tells_digits

-- a number is written with no 0 in front of other digits
lead : (n : ℕ) → n < 2 ^ 64 → slice_index (decimal n) 0 ≡ 48 → length (decimal n) ≤ 1
lead zero h e = omega (arith, ap length (decimal_digit 0 (omega arith)))
lead (suc n) h e = omega (arith, first_decimal (suc n) (omega arith) h)

plain_decimal : (n : ℕ) → n < 2 ^ 64 → Plain (decimal n)
plain_decimal n h =
    let first : IsInRange 48 57 (slice_index (decimal n) 0) = digit_at (decimal n) 0 (decimal_is_IsNumeral n h).0.1 (decimal_nonempty n h) in
    record { plus = λ e. omega (arith, first); zero = lead n h; minus = λ e. omega (arith, first) }

plain_signed : (z : ℤ) → Int32 z → Plain (signed_decimal z)
plain_signed (pos n) h = plain_decimal n (omega (arith, ints, h.1))
plain_signed (negsuc n) h =
    let first = first_decimal (suc n) (omega arith) (omega (arith, ints, h.0)) in
    record { plus = λ e. omega arith; zero = λ e. omega arith; minus = λ e f. omega (arith, first) }

pub fits_32 : (z : ℤ) → Int32 z → SFits w32 z
fits_32 z h = omega (arith, ints, h.0, h.1)

pub small : (z : ℤ) → Int32 z → mag z < 2 ^ 63
small (pos n) h = omega (arith, ints, h.1)
small (negsuc n) h = omega (arith, ints, h.0)

-- digits with no 0 in front are the text of their value
shown : (bs : List ℕ) → AllDigits 10 bs → 0 < length bs → digits_value 10 bs < 2 ^ 64 → (slice_index bs 0 ≡ 48 → length bs ≤ 1) → bs ≡ decimal (digits_value 10 bs)
shown bs digits some low lead = sym (decimal-digits_value own bs digits some (λ z. omega (arith, lead z)) low)

-- so what `parse` reads of plain text is the number of which that is the text
read_unsigned : (E : Type 0) (k : ℕ) (bs : List ℕ) (n : ℕ) → 2 ^ k ≤ 2 ^ 64 → Plain bs → ParsesUnsigned {E = E} k 10 bs (Ok n) → n < 2 ^ k × (bs ≡ decimal n)
read_unsigned E k bs n narrow plain parsed =
    let read = parse_plain own {E = E} k bs (Ok n) parsed plain.plus in
    (omega (arith, read.0.2, read.1), shown bs read.0.0 read.0.1 (omega (arith, read.0.2)) plain.zero ∙ sym (ap decimal read.1))

read_negative : (n b : ℕ) (ds : List ℕ) (z : ℤ) → n ≤ 2 ^ 31 → ds ≡ decimal n → slice_index ds 0 ≢ 48 → b ≡ 45 → z ≡ neg_ℤ (pos n) → Int32 z × (b ∷ ds ≡ signed_decimal z)
read_negative zero b ds z low is first minus negated = absurd (first (cc (is, decimal_digit 0 (omega arith))))
read_negative (suc n) b ds z low is first minus negated = ((omega (arith, ints), omega (arith, ints)), cc)

read_signed : (E : Type 0) (bs : List ℕ) (z : ℤ) → Plain bs → ParsesSigned {E = E} w32 10 bs (Ok z) → Int32 z × (bs ≡ signed_decimal z)
read_signed E [] z plain parsed = absurd (omega (arith, parsed.0.0.0))
read_signed E (b ∷ ds) z plain parsed =
    elim (cases_eq b 45) [
      | inl minus ↦
          let read = parse_signed_minus own {E = E} w32 (b ∷ ds) (Ok z) parsed minus in
          read_negative (digits_value 10 ds) b ds z read.0.2 (shown ds read.0.0 read.0.1 (omega (arith, read.0.2)) (λ e. absurd (plain.minus minus e))) (plain.minus minus) minus read.1
      | inr other ↦
          let read = parse_signed_plain own {E = E} w32 (b ∷ ds) (Ok z) parsed plain.plus other in
          ((omega (arith, ints, read.0.2, read.1), omega (arith, ints, read.0.2, read.1)), shown (b ∷ ds) read.0.0 read.0.1 (omega (arith, read.0.2)) plain.zero ∙ sym (ap signed_decimal read.1))
    ]

-- and it reads each such text
text_of : (bs ds : List ℕ) → bs ≡ ds → Plain ds → IsAscii ds → Plain bs × IsUtf8 bs
text_of bs ds e plain ascii = subst (λ t. Plain t × IsUtf8 t) (sym e) (plain, IsUtf8-from_ascii ds ascii)

pub unsigned : {E : Type 0} {gives : List ℕ → Result ℕ E → Type 0} (k : ℕ) (bs : List ℕ) (r : Option ℕ) → 2 ^ k ≤ 2 ^ 64 → Parsed gives bs r → ((s : Result ℕ E) → gives bs s → ParsesUnsigned k 10 bs s) → Spells decimal (λ n. n < 2 ^ k) bs r
unsigned {E} k bs (Some n) narrow p parses = read_unsigned E k bs n narrow p.some.0 (parses (Ok n) p.some.1)
unsigned k bs None narrow p parses = λ n fits e.
    let low : n < 2 ^ 64 = omega arith in
    let text = text_of bs (decimal n) e (plain_decimal n low) (IsAscii-decimal n low) in
    let failed = p.none text.0 text.1 in
    absurd (cc (parse-decimal k n bs (Err failed.0) fits low e (parses (Err failed.0) failed.1)))

pub signed : {E : Type 0} {gives : List ℕ → Result ℤ E → Type 0} (bs : List ℕ) (r : Option ℤ) → Parsed gives bs r → ((s : Result ℤ E) → gives bs s → ParsesSigned w32 10 bs s) → Spells signed_decimal Int32 bs r
signed {E} bs (Some z) p parses = read_signed E bs z p.some.0 (parses (Ok z) p.some.1)
signed bs None p parses = λ z fits e.
    let text = text_of bs (signed_decimal z) e (plain_signed z fits) (IsAscii-signed z (small z fits)) in
    let failed = p.none text.0 text.1 in
    absurd (cc (parse-signed_decimal w32 z bs (Err failed.0) (fits_32 z fits) (small z fits) e (parses (Err failed.0) failed.1)))
