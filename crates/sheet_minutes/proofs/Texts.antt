-- How many columns texts have.
use Rattle.std.proofs.Common.{◌≡◌, ◌∙◌, ap, sym, subst, refl, arith, ℕ, zero, suc, ◌+◌, ◌*◌, ◌-◌, ◌/◌, ◌%◌, ◌^◌, ◌<◌, ◌≤◌, Bool, true, false}
use Rattle.std.proofs.Common.{All, List, [], ◌∷◌, ◌++◌, drop, get_or, length, map, length-append, replicate, Option, Some, None}
use Rattle.std.specs.Prelude.{decimal, if◌then◌else◌}
use Rattle.std.specs.Char.{is_control}
use Rattle.std.specs.List.{flat_map, range_with_len}
use Rattle.std.specs.Str.{encode_utf8_all, IsAscii}
use Rattle.std.proofs.Math.Nat.{div-le_of_le-mul}
use Rattle.std.proofs.lemmas.Bool.{and_from, and_parts}
use Rattle.std.proofs.lemmas.Fmt.{IsAscii-decimal}
use Rattle.std.proofs.lemmas.List.{length-replicate, length-drop}
use Rattle.std.proofs.lemmas.List.Elements.{All-head, All-replicate, All-tail}
use Rattle.std.proofs.lemmas.List.FromFn.{length-map-range_with_len}
use Rattle.std.proofs.lemmas.Str.{encodes-append, encodes-IsAscii, IsAscii-append}
use Rattle.std.proofs.lemmas.Str.Ascii.{All-from_ascii, IsAscii-cons, IsAscii-from_all, IsAscii-nil, IsAscii-push}
use lib.Utf8.{low_scalar, scalar, scalars}
use Rattle.bstr.specs.Utf8.{decoded, lossy_chars, or_replacement, replacement}
use Rattle.bstr.proofs.lemmas.EncodeLemmas.{lossy_chars-encode}
use Rattle.bstr.proofs.lemmas.PieceLemmas.{lossy_chars-nil, lossy_chars-step, piece-bounds}
use Rattle.bstr.proofs.lemmas.SoundLemmas.{SpellsChar-decoded}
use Rattle.fixed_place.specs.Rounding.{most, scale}
use Rattle.fixed_place.proofs.RoundingLemmas.{most_votes}
use Rattle.fixed_place.specs.Text.{last_digits, text_of}
use Rattle.sheet_minutes.specs.declared.columns.TheConstants.{NAME_COLUMNS}
use Rattle.sheet_minutes.specs.Columns.{at_right, columns, name_columns, tamed}

-- bytes that are the text of so many characters
pub record Reads (text : List ℕ) (count : ℕ) : Type 0 where
  pub chars : List ℕ
  pub scalar : scalars chars ≡ true
  pub is : encode_utf8_all chars ≡ text
  pub many : length chars ≡ count

-- such bytes have so many columns
pub columns_read : (text : List ℕ) (count : ℕ) → Reads text count → length (lossy_chars text) ≡ count
columns_read text count reads =
    ap (λ (l : List ℕ). length (lossy_chars l)) (sym reads.is)
    ∙ ap length (lossy_chars-encode reads.chars reads.scalar) ∙ reads.many

-- ---- one text after another

scalars-append : (xs ys : List ℕ) → scalars xs ≡ true → scalars ys ≡ true → scalars (xs ++ ys) ≡ true
scalars-append [] ys one other = other
scalars-append (x ∷ xs) ys one other =
    let both = and_parts _ _ one in and_from _ _ both.0 (scalars-append xs ys both.1 other)

pub reads-append : (a b : List ℕ) (m n : ℕ) → Reads a m → Reads b n → Reads (a ++ b) (m + n)
reads-append a b m n one other = record {
  chars = one.chars ++ other.chars;
  scalar = scalars-append one.chars other.chars one.scalar other.scalar;
  is = encodes-append one.chars other.chars ∙ ap (λ (l : List ℕ). l ++ encode_utf8_all other.chars) one.is
      ∙ ap (λ (l : List ℕ). a ++ l) other.is;
  many = omega (arith, length-append one.chars other.chars, one.many, other.many);
}

-- texts of as many characters each
pub reads-each :
    (text : ℕ → List ℕ) (n : ℕ) (xs : List ℕ) → All (λ x. Reads (text x) n) xs → Reads (flat_map text xs) (n * length xs)
reads-each text n [] all = record { chars = []; scalar = refl; is = refl; many = omega arith }
reads-each text n (x ∷ xs) all =
    let here = All-head (λ y. Reads (text y) n) x xs all in
    let rest = reads-each text n xs (All-tail (λ y. Reads (text y) n) x xs all) in
    let whole : n + n * length xs ≡ n * length (x ∷ xs) = omega arith in
    subst (λ (k : ℕ). Reads (text x ++ flat_map text xs) k) whole
    (reads-append (text x) (flat_map text xs) n (n * length xs) here rest)

-- ---- ASCII

ascii_scalars : (cs : List ℕ) → All (λ c. c < 128) cs → scalars cs ≡ true
ascii_scalars [] all = refl
ascii_scalars (c ∷ cs) all =
    let low = All-head (λ d. d < 128) c cs all in
    and_from _ _ (low_scalar c (omega arith)) (ascii_scalars cs (All-tail (λ d. d < 128) c cs all))

pub reads-ascii : (text : List ℕ) → IsAscii text → Reads text (length text)
reads-ascii text ascii = record {
  chars = text;
  scalar = ascii_scalars text (All-from_ascii text ascii);
  is = encodes-IsAscii text ascii;
  many = refl;
}

digits_ascii : (k n : ℕ) → IsAscii (last_digits k n)
unfolding last_digits
digits_ascii zero n = IsAscii-nil
digits_ascii (suc k) n = IsAscii-push (last_digits k (n / 10)) (48 + n % 10) (digits_ascii k (n / 10)) (omega arith)

digits_long : (k n : ℕ) → length (last_digits k n) ≡ k
unfolding last_digits
digits_long zero n = refl
digits_long (suc k) n =
    length-append (last_digits k (n / 10)) ((48 + n % 10) ∷ []) ∙ omega (arith, digits_long k (n / 10))

-- an amount has more columns than it has places

pub amount_long : (places a : ℕ) → places < length (text_of places a)
unfolding text_of
amount_long places a =
    omega (arith, length-append (decimal (a / scale places)) (46 ∷ last_digits places (a % scale places)), digits_long places (a % scale places))

pub amount_ascii : (places a : ℕ) → a ≤ most places → IsAscii (text_of places a)
unfolding text_of
amount_ascii places a small =
    let few : a / scale places ≤ 1000000000 = div-le_of_le-mul (scale places) (omega (arith, most_votes places, small)) in
    let whole : a / scale places < 2 ^ 64 = omega (arith, few) in
    IsAscii-append (decimal (a / scale places)) (46 ∷ last_digits places (a % scale places)) (IsAscii-decimal (a / scale places) whole)
    (IsAscii-cons 46 (last_digits places (a % scale places)) (omega arith) (digits_ascii places (a % scale places)))

-- a text of ASCII at the right of columns that it fits into
pub right_ascii : (width : ℕ) (text : List ℕ) → IsAscii text → IsAscii (at_right width text)
right_ascii width text ascii =
    IsAscii-append (replicate (width - length text) 32) text
    (IsAscii-from_all (replicate (width - length text) 32)
    (All-replicate (λ b. b < 128) (width - length text) 32 (omega arith))) ascii

pub right_columns : (width : ℕ) (text : List ℕ) → length text ≤ width → length (at_right width text) ≡ width
right_columns width text fits =
    omega (arith, length-append (replicate (width - length text) 32) text, length-replicate {A = ℕ} (width - length text) 32)

pub reads-right : (width : ℕ) (text : List ℕ) → IsAscii text → length text ≤ width → Reads (at_right width text) width
reads-right width text ascii fits =
    subst (λ (k : ℕ). Reads (at_right width text) k) (right_columns width text fits)
    (reads-ascii (at_right width text) (right_ascii width text ascii))

-- ---- names

char_scalar : (bs : List ℕ) (o : Option ℕ) → (decoded bs).char ≡ o → scalar (or_replacement o) ≡ true
char_scalar bs None is = refl
char_scalar bs (Some c) is = (SpellsChar-decoded bs c is).scalar

lossy_scalars : (fuel : ℕ) (bs : List ℕ) → length bs ≤ fuel → scalars (lossy_chars bs) ≡ true
lossy_scalars fuel [] few = ap scalars lossy_chars-nil
lossy_scalars zero (b ∷ rest) few = absurd (omega arith)
lossy_scalars (suc fuel) (b ∷ rest) few =
    let bs = b ∷ rest in
    let some : 0 < length bs = omega arith in
    let size = piece-bounds bs some in
    let less : length (drop (decoded bs).size bs) ≤ fuel = omega (arith, length-drop (decoded bs).size bs, size.0) in
    ap scalars (lossy_chars-step bs some)
    ∙ and_from _ _ (char_scalar bs (decoded bs).char refl) (lossy_scalars fuel (drop (decoded bs).size bs) less)

tamed_by : (b : Bool) (c : ℕ) → scalar c ≡ true → scalar (if b then replacement else c) ≡ true
tamed_by true c good = refl
tamed_by false c good = good

tamed_scalars : (cs : List ℕ) → scalars cs ≡ true → scalars (map tamed cs) ≡ true
tamed_scalars [] good = refl
tamed_scalars (c ∷ cs) good =
    let both = and_parts _ _ good in and_from _ _ (tamed_by (is_control c) c both.0) (tamed_scalars cs both.1)

scalar_at : (cs : List ℕ) (k : ℕ) → scalars cs ≡ true → scalar (get_or cs k 32) ≡ true
scalar_at [] zero good = refl
scalar_at [] (suc k) good = refl
scalar_at (c ∷ cs) zero good = (and_parts _ _ good).0
scalar_at (c ∷ cs) (suc k) good = scalar_at cs k (and_parts _ _ good).1

each_scalar : (f : ℕ → ℕ) (xs : List ℕ) → ((k : ℕ) → scalar (f k) ≡ true) → scalars (map f xs) ≡ true
each_scalar f [] good = refl
each_scalar f (x ∷ xs) good = and_from _ _ (good x) (each_scalar f xs good)

pub columns_scalars : (text : List ℕ) → scalars (columns text) ≡ true
columns_scalars text = tamed_scalars (lossy_chars text) (lossy_scalars (length text) text (omega arith))

pub name_scalars : (name : List ℕ) → scalars (name_columns name) ≡ true
unfolding name_columns
name_scalars name =
    each_scalar (λ k. get_or (columns name) k 32) (range_with_len 0 NAME_COLUMNS)
    (λ k. scalar_at (columns name) k (columns_scalars name))

-- a name takes all its columns
pub reads-name : (name : List ℕ) → Reads (encode_utf8_all (name_columns name)) NAME_COLUMNS
unfolding name_columns
reads-name name = record {
  chars = name_columns name;
  scalar = name_scalars name;
  is = refl;
  many = length-map-range_with_len (λ k. get_or (columns name) k 32) 0 NAME_COLUMNS;
}
